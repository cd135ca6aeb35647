-- A whole float with its range, from -l to h, so that what a sum asks is arithmetic on naturals. Assumes nothing.
use Rattle.std.specs.Prelude.{◌≡◌, refl, Bool, true, false, cond, ℕ, zero, suc, ◌+◌, ◌-◌, ◌^◌, ◌≤◌, ◌<◌, min, max, ltb, ℤ, pos, negsuc, neg_ℤ, ◌+ℤ◌, ◌-ℤ◌, Float}
use Rattle.std.proofs.Common.{sym, ◌∙◌, true≢false, zero-le, le_refl, le_trans, arith, ltb-true, ltb-false, lt-ltb}
use Rattle.std.proofs.Math.IntN.{sub_ℕ}
use Rattle.std.specs.Int.Signed.{lt_z, le_z}
use Rattle.std.specs.Float.{fin, binary32}
use Rattle.std.specs.Float.Ieee.{add, sub, neg, lt, le, eq, of_bits}
use Rattle.geometry.specs.Geometry.{zero_f}
use Rattle.limits.specs.Limits.{limit, too_large}
use Rattle.limits.specs.Laws as limits
use Rattle.util.specs.Math.{larger, smaller}
use Rattle.whole.specs.Whole.{Whole, small, add_whole, neg_whole}
use Rattle.whole.specs.Compare.{eq_z, lt_whole, le_whole, eq_whole}
use Rattle.whole.specs.More.{max_z, min_z, larger_whole, smaller_whole}

-- how far k is below 0, and above it: one of the two is 0
abbrev pub under : ℤ → ℕ
under (pos n) = 0
under (negsuc n) = suc n

abbrev pub above : ℤ → ℕ
above (pos n) = n
above (negsuc n) = 0

-- x is the whole number k, which is from -l to h. A record, so that x, k, l and h are found from a proof of it.
pub record Within (x : Float) (k : ℤ) (l h : ℕ) : Type 0 where
  pub whole : Whole x k
  pub low : under k ≤ l
  pub high : above k ≤ h

small_of : (k : ℤ) (l h : ℕ) → under k ≤ l → above k ≤ h → l ≤ 2 ^ 24 → h ≤ 2 ^ 24 → small k
small_of (pos n) l h p q u v = le_trans q v
small_of (negsuc n) l h p q u v = le_trans p u

pub wider : {x : Float} {k : ℤ} {l h l' h' : ℕ} → Within x k l h → l ≤ l' → h ≤ h' → Within x k l' h'
wider p u v = record { whole = p.whole; low = le_trans p.low u; high = le_trans p.high v }

-- ---- sums

under_sub : (a b : ℕ) → under (sub_ℕ a b) ≤ b
under_sub a b = go (ltb a b) refl
  where
    go : (t : Bool) → ltb a b ≡ t → under (cond t (negsuc (b - suc a)) (pos (a - b))) ≤ b
    go true e =
        let h = ltb-true a b e in
        omega arith
    go false e = zero-le

above_sub : (a b : ℕ) → above (sub_ℕ a b) ≤ a
above_sub a b = go (ltb a b)
  where
    go : (t : Bool) → above (cond t (negsuc (b - suc a)) (pos (a - b))) ≤ a
    go true = zero-le
    go false = omega arith

under_add : (a b : ℤ) → under (a +ℤ b) ≤ under a + under b
under_add (pos a) (pos b) = zero-le
under_add (pos a) (negsuc b) =
    let h = under_sub a (suc b) in
    omega arith
under_add (negsuc a) (pos b) =
    let h = under_sub b (suc a) in
    omega arith
under_add (negsuc a) (negsuc b) = omega arith

above_add : (a b : ℤ) → above (a +ℤ b) ≤ above a + above b
above_add (pos a) (pos b) = le_refl (a + b)
above_add (pos a) (negsuc b) =
    let h = above_sub a (suc b) in
    omega arith
above_add (negsuc a) (pos b) =
    let h = above_sub b (suc a) in
    omega arith
above_add (negsuc a) (negsuc b) = zero-le

under_neg : (k : ℤ) → under (neg_ℤ k) ≡ above k
under_neg (pos zero) = refl
under_neg (pos (suc n)) = refl
under_neg (negsuc n) = refl

above_neg : (k : ℤ) → above (neg_ℤ k) ≡ under k
above_neg (pos zero) = refl
above_neg (pos (suc n)) = refl
above_neg (negsuc n) = refl

pub within_add : {x y : Float} {a b : ℤ} {l h l' h' : ℕ} → Within x a l h → Within y b l' h' → l + l' ≤ 2 ^ 24 → h + h' ≤ 2 ^ 24
    → Within (add binary32 x y) (a +ℤ b) (l + l') (h + h')
within_add {x} {y} {a} {b} {l} {h} {l'} {h'} p q u v =
    let i = under_add a b in
    let j = above_add a b in
    let m = p.low in
    let n = q.low in
    let m' = p.high in
    let n' = q.high in
    let r : under (a +ℤ b) ≤ l + l' = omega arith in
    let s : above (a +ℤ b) ≤ h + h' = omega arith in
    record { whole = add_whole x y a b p.whole q.whole (small_of (a +ℤ b) (l + l') (h + h') r s u v); low = r; high = s }

-- a sum whose number is known from elsewhere to lie in a range
pub within_sum : {x y z : Float} {a b c : ℤ} {l h l' h' m n : ℕ} → Within x a l h → Within y b l' h' → a +ℤ b ≡ c → Within z c m n → m ≤ 2 ^ 24 → n ≤ 2 ^ 24 → Within (add binary32 x y) (a +ℤ b) m n
within_sum {x} {y} {z} {a} {b} {c} {l} {h} {l'} {h'} {m} {n} p q e r u v =
    let i : under (a +ℤ b) ≤ m = rw e r.low in
    let j : above (a +ℤ b) ≤ n = rw e r.high in
    record { whole = add_whole x y a b p.whole q.whole (small_of (a +ℤ b) m n i j u v); low = i; high = j }

pub within_neg : {x : Float} {a : ℤ} {l h : ℕ} → Within x a l h → Within (neg x) (neg_ℤ a) h l
within_neg {x} {a} p = record { whole = neg_whole x a p.whole; low = rw (under_neg a) p.high; high = rw (above_neg a) p.low }

pub within_sub : {x y : Float} {a b : ℤ} {l h l' h' : ℕ} → Within x a l h → Within y b l' h' → l + h' ≤ 2 ^ 24 → h + l' ≤ 2 ^ 24
    → Within (sub binary32 x y) (a -ℤ b) (l + h') (h + l')
unfolding sub
within_sub p q u v = within_add p (within_neg q) u v

-- ---- larger and smaller

under_less : (a b : ℤ) → lt_z a b ≡ true → under b ≤ under a
under_less (pos a) (pos b) e = zero-le
under_less (pos a) (negsuc b) e = absurd (true≢false (sym e))
under_less (negsuc a) (pos b) e = zero-le
under_less (negsuc a) (negsuc b) e =
    let h = ltb-true b a e in
    omega arith

above_less : (a b : ℤ) → lt_z a b ≡ true → above a ≤ above b
above_less (pos a) (pos b) e =
    let h = ltb-true a b e in
    omega arith
above_less (pos a) (negsuc b) e = absurd (true≢false (sym e))
above_less (negsuc a) (pos b) e = zero-le
above_less (negsuc a) (negsuc b) e = zero-le

under_not_less : (a b : ℤ) → lt_z a b ≡ false → under a ≤ under b
under_not_less (pos a) b e = zero-le
under_not_less (negsuc a) (pos b) e = absurd (true≢false e)
under_not_less (negsuc a) (negsuc b) e =
    let h = ltb-false b a e in
    omega arith

above_not_less : (a b : ℤ) → lt_z a b ≡ false → above b ≤ above a
above_not_less (pos a) (pos b) e = ltb-false a b e
above_not_less (pos a) (negsuc b) e = zero-le
above_not_less (negsuc a) (pos b) e = absurd (true≢false e)
above_not_less (negsuc a) (negsuc b) e = zero-le

-- no further below 0 than either, no further above it than both
pub within_larger : {x y : Float} {a b : ℤ} {l h l' h' : ℕ} → Within x a l h → Within y b l' h' → Within (larger x y) (max_z a b) (min l l') (max h h')
within_larger {x} {y} {a} {b} {l} {h} {l'} {h'} p q =
    let m = p.low in
    let n = q.low in
    let m' = p.high in
    let n' = q.high in
    record { whole = larger_whole x y a b p.whole q.whole; low = (go (lt_z a b) refl m n m' n').0; high = (go (lt_z a b) refl m n m' n').1 }
  where
    go : (t : Bool) → lt_z a b ≡ t → under a ≤ l → under b ≤ l' → above a ≤ h → above b ≤ h' → (under (cond t b a) ≤ min l l') × (above (cond t b a) ≤ max h h')
    go true e m n m' n' =
        let i = under_less a b e in
        (omega arith, omega arith)
    go false e m n m' n' =
        let i = under_not_less a b e in
        (omega arith, omega arith)

pub within_smaller : {x y : Float} {a b : ℤ} {l h l' h' : ℕ} → Within x a l h → Within y b l' h' → Within (smaller x y) (min_z a b) (max l l') (min h h')
within_smaller {x} {y} {a} {b} {l} {h} {l'} {h'} p q =
    let m = p.low in
    let n = q.low in
    let m' = p.high in
    let n' = q.high in
    record { whole = smaller_whole x y a b p.whole q.whole; low = (go (lt_z b a) refl m n m' n').0; high = (go (lt_z b a) refl m n m' n').1 }
  where
    go : (t : Bool) → lt_z b a ≡ t → under a ≤ l → under b ≤ l' → above a ≤ h → above b ≤ h' → (under (cond t b a) ≤ max l l') × (above (cond t b a) ≤ min h h')
    go true e m n m' n' =
        let i = above_less b a e in
        (omega arith, omega arith)
    go false e m n m' n' =
        let i = above_not_less b a e in
        (omega arith, omega arith)

-- ---- branches, and the limit of 2 ^ 24

pub within_lt : {x y : Float} {a b : ℤ} {l h l' h' : ℕ} → Within x a l h → Within y b l' h' → lt x y ≡ lt_z a b
within_lt {x} {y} {a} {b} p q = lt_whole x y a b p.whole q.whole

pub within_le : {x y : Float} {a b : ℤ} {l h l' h' : ℕ} → Within x a l h → Within y b l' h' → le x y ≡ le_z a b
within_le {x} {y} {a} {b} p q = le_whole x y a b p.whole q.whole

pub within_eq : {x y : Float} {a b : ℤ} {l h l' h' : ℕ} → Within x a l h → Within y b l' h' → eq x y ≡ eq_z a b
within_eq {x} {y} {a} {b} p q = eq_whole x y a b p.whole q.whole

pub zero_is : {l h : ℕ} → Within zero_f (pos 0) l h
unfolding of_bits
zero_is = record { whole = (refl, refl); low = zero-le; high = zero-le }

limit_whole : Whole (fin false 1 (pos 24)) (pos 16777216)
limit_whole = (refl, refl)

less_than_limit : (k : ℤ) (h : ℕ) → above k ≤ h → h < 2 ^ 24 → lt_z k (pos 16777216) ≡ true
less_than_limit (pos n) h p v = lt-ltb n 16777216 (omega arith)
less_than_limit (negsuc n) h p v = refl

limit_less_than : (k : ℤ) (l : ℕ) → under k ≤ l → l < 2 ^ 24 → lt_z (negsuc 16777215) k ≡ true
limit_less_than (pos n) l p v = refl
limit_less_than (negsuc n) l p v = lt-ltb n 16777215 (omega arith)

under_limit : {x : Float} {k : ℤ} {l h : ℕ} → Within x k l h → h < 2 ^ 24 → lt x limit ≡ true
unfolding of_bits
under_limit {x} {k} {l} {h} p v = lt_whole x (fin false 1 (pos 24)) k (pos 16777216) p.whole limit_whole ∙ less_than_limit k h p.high v

over_limit_lem : {x : Float} {k : ℤ} {l h : ℕ} → Within x k l h → l < 2 ^ 24 → lt (neg limit) x ≡ true
unfolding of_bits neg
over_limit_lem {x} {k} {l} {h} p v = lt_whole (fin true 1 (pos 24)) x (negsuc 16777215) k (refl, refl) p.whole ∙ limit_less_than k l p.low v

-- strictly inside: refusal 8 is not given
pub within_limit : {x : Float} {k : ℤ} {l h : ℕ} → Within x k l h → l < 2 ^ 24 → h < 2 ^ 24 → too_large x ≡ false
within_limit {x} p u v = sym (limits.small x (under_limit p v) (over_limit_lem p u))
