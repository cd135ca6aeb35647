-- Adding a zero of either sign changes no order. Assumes nothing.
use Rattle.std.specs.Prelude.{◌≡◌, refl, ◌⊎◌, Bool, true, false, not, ℕ, zero, suc, ◌+◌, ◌-◌, ◌*◌, ◌<◌, T, ltb, ℤ, pos, negsuc, Float}
use Rattle.std.proofs.Common.{sym, ap, subst, ◌∙◌, inl, inr, true≢false, zero-mul, add-zero, mul-pos, zero-lt-suc, eq-zero-or-pos, arith, eqb→eq, pow_pos, lt-ltb, le-ltb}
use Rattle.std.proofs.lemmas.Bool.{false≢true}
use Rattle.std.proofs.Math.Nat.{eq_of_mul-eq-mul_right, pow-succ'}
use Rattle.std.specs.Float.{nan, inf, fin, Format, binary32}
use Rattle.std.specs.Float.Ieee.{emax, low, up, down, lt, below, add, sum, round, odd, units, fits, is_nan, of_bits}
use Rattle.std.specs.Float.Ieee.Fits.{up_pos, down_pos, add-fits}
use Rattle.std.specs.Float.Ieee.Exact.{HasValue, round_exact}
use Rattle.geometry.specs.Geometry.{zero_f}
use Rattle.util.specs.Order.{lt_none}
use Rattle.util.specs.Written.{plain, settled}
use Rattle.sums.specs.Sums.{lt_self, values_none, round_own, own_value, sum-none}
use Rattle.sums.specs.Numbers.{finite_add}

-- ---- adding +0

flat : (e : ℤ) → up e * down e ≡ 1 → e ≡ pos 0
flat (pos zero) h = refl
flat (pos (suc k)) h =
    let q = pow-succ' 2 k in
    let p = pow_pos k in
    absurd (omega arith)
flat (negsuc k) h =
    let q = pow-succ' 2 k in
    let p = pow_pos k in
    absurd (omega arith)

zero_flat : (f : Format) (s : Bool) (e : ℤ) → T (fits f (fin s zero e)) → e ≡ pos 0
unfolding fits
zero_flat f s e t = flat e (eqb→eq (up e * down e) 1 t)

-- a number that is not -0 plus +0 is what its own fraction rounds to
pub sum_zero : (f : Format) (s : Bool) (a b c : ℕ) → b ≡ 0 → ((s ≡ false) ⊎ (0 < a)) → sum f s a false b c ≡ round f s a c
unfolding sum
sum_zero f false a b c z h = ap (λ (k : ℕ). round f false (a + k) c) z ∙ ap (λ (k : ℕ). round f false k c) (add-zero a)
sum_zero f true a b c z (inl h) = absurd (true≢false h)
sum_zero f true a b c z (inr h) =
    let y : a - b ≡ a = omega (arith, z) in
    let w : ltb a b ≡ false = le-ltb a b (omega (arith, z)) in
    let v : ltb b a ≡ true = lt-ltb b a (omega (arith, z, h)) in
    rw (w, v) (ap (λ (k : ℕ). round f true k c) y)

abbrev Kept : Format → Bool → ℕ → ℤ → Type 0
Kept f s m e = add f (fin s m e) zero_f ≡ round f s (m * up e * 1) (down e * 1)

plain_add : (f : Format) (s : Bool) (m : ℕ) (e : ℤ) → plain (fin s m e) ≡ true → Kept f s m e
unfolding add of_bits
plain_add f true zero e h = absurd (false≢true h)
plain_add f true (suc m) e h = sum_zero f true (suc m * up e * 1) (0 * 1 * down e) (down e * 1) (zero-mul (down e)) (inr (mul-pos (mul-pos (zero-lt-suc m) (up_pos e)) (zero-lt-suc 0)))
plain_add f false m e h = sum_zero f false (m * up e * 1) (0 * 1 * down e) (down e * 1) (zero-mul (down e)) (inl refl)

value_plain : (x : Float) (s : Bool) (m : ℕ) (e : ℤ) (a c : ℕ) → 0 < c → HasValue x s a c → plain (fin s m e) ≡ true → a ≡ m * up e * 1 → plain x ≡ true
value_plain nan s m e a c p v h q = absurd v
value_plain (inf t) s m e a c p v h q = refl
value_plain (fin false n d) s m e a c p v h q = refl
value_plain (fin true (suc n) d) s m e a c p v h q = refl
value_plain (fin true zero d) false m e a c p v h q = absurd (true≢false v.0)
value_plain (fin true zero d) true zero e a c p v h q = h
value_plain (fin true zero d) true (suc m) e a c p v h q =
    let z : 0 ≡ a * down d = sym (ap (λ (k : ℕ). k * c) (zero-mul (up d)) ∙ zero-mul c) ∙ v.1 in
    let g : 0 < a * down d = mul-pos (subst (λ (k : ℕ). 0 < k) (sym q) (mul-pos (mul-pos (zero-lt-suc m) (up_pos e)) (zero-lt-suc 0))) (down_pos d) in
    absurd (omega (arith, z, g))

kept_number : (f : Format) (s : Bool) (m : ℕ) (e : ℤ) → T (fits f (fin s m e)) → plain (fin s m e) ≡ true → add f (fin s m e) zero_f ≡ fin s m e
kept_number f s m e t h =
    let c = down e * 1 in
    let a = m * up e * 1 in
    let p = mul-pos (down_pos e) (zero-lt-suc 0) in
    let v = round_own f s m e 1 (zero-lt-suc 0) t in
    let w = own_value s m e 1 in
    let r = round f s a c in
    let k = plain_add f s m e h in
    k ∙ settled f r (fin s m e) (subst (λ (z : Float). T (fits f z)) k (add-fits f (fin s m e) zero_f)) t (value_plain r s m e a c p v h refl) h (values_none r (fin s m e) s a c p v w) (values_none (fin s m e) r s a c p w v)

abbrev pub minus_zero : Float
minus_zero = fin true 0 (pos 0)

pub add_zero_is : (f : Format) (x : Float) → T (fits f x) → (add f x zero_f ≡ x) ⊎ (x ≡ minus_zero)
add_zero_is f nan t = inl (unfold add in refl)
add_zero_is f (inf s) t = inl (unfold add of_bits in refl)
add_zero_is f (fin true zero e) t = inr (ap (fin true zero) (zero_flat f true e t))
add_zero_is f (fin true (suc m) e) t = inl (kept_number f true (suc m) e t refl)
add_zero_is f (fin false m e) t = inl (kept_number f false m e t refl)

-- ---- -0 and +0 plus one number

abbrev pub Zero : Float → Type 0
Zero nan = ⊥
Zero (inf s) = ⊥
Zero (fin s m e) = m * up e ≡ 0

has_zero : (x : Float) (s : Bool) (c : ℕ) → 0 < c → HasValue x s 0 c → Zero x
has_zero nan s c p h = h
has_zero (inf t) s c p h = h
has_zero (fin t m e) s c p h = eq_of_mul-eq-mul_right c p (m * up e) 0 (h.1 ∙ zero-mul (down e) ∙ sym (zero-mul c))

pub zero_round : (s : Bool) (c : ℕ) → 0 < c → Zero (round binary32 s 0 c)
zero_round s c p = has_zero (round binary32 s 0 c) s c p (round_exact binary32 s 0 c 0 0 p (pow_pos 24) (pow_pos (low binary32 + suc (emax binary32))) (sym (zero-mul c)))

below_zeros : (s : Bool) (a : ℕ) (t : Bool) (b : ℕ) → a ≡ 0 → b ≡ 0 → below s a t b ≡ false
below_zeros false a false b p q = le-ltb a b (omega (arith, p, q))
below_zeros false a true b p q = refl
below_zeros true a false b p q = le-ltb 0 (a + b) (omega (arith, p, q))
below_zeros true a true b p q = le-ltb b a (omega (arith, p, q))

pub zeros_none : (x y : Float) → Zero x → Zero y → lt x y ≡ false
unfolding lt
zeros_none nan y z w = absurd z
zeros_none (inf s) y z w = absurd z
zeros_none (fin s m e) nan z w = absurd w
zeros_none (fin s m e) (inf t) z w = absurd w
zeros_none (fin s m e) (fin t n d) z w = below_zeros s _ t _ (ap (λ (k : ℕ). k * down d) z ∙ zero-mul (down d)) (ap (λ (k : ℕ). k * down e) w ∙ zero-mul (down e))

unlike_sum : (s : Bool) (b c : ℕ) → sum binary32 (not s) 0 s (suc b) c ≡ round binary32 s (suc b) c
unfolding sum
unlike_sum true b c =
    let z : suc b - 0 ≡ suc b = omega arith in
    rw (lt-ltb 0 (suc b) (zero-lt-suc b)) (ap (λ (k : ℕ). round binary32 true k c) z)
unlike_sum false b c =
    let z : suc b - 0 ≡ suc b = omega arith in
    rw (lt-ltb 0 (suc b) (zero-lt-suc b)) (ap (λ (k : ℕ). round binary32 false k c) z)

like_sum : (s : Bool) (b c : ℕ) → sum binary32 s 0 s b c ≡ round binary32 s b c
unfolding sum
like_sum true b c =
    let z : 0 + b ≡ b = omega arith in
    ap (λ (k : ℕ). round binary32 true k c) z
like_sum false b c =
    let z : 0 + b ≡ b = omega arith in
    ap (λ (k : ℕ). round binary32 false k c) z

pub nil_sum : (c : ℕ) → (sum binary32 true 0 false 0 c ≡ round binary32 false 0 c) × (sum binary32 false 0 true 0 c ≡ round binary32 false 0 c)
unfolding sum
nil_sum c = (refl, refl)

zeros_sum : (t : Bool) (b c : ℕ) → 0 < c → lt (sum binary32 true 0 t b c) (sum binary32 false 0 t b c) ≡ false
zeros_sum false zero c p = rw ((nil_sum c).0, like_sum false 0 c) (lt_self (round binary32 false 0 c))
zeros_sum false (suc b) c p = rw (unlike_sum false b c, like_sum false (suc b) c) (lt_self (round binary32 false (suc b) c))
zeros_sum true zero c p = rw ((nil_sum c).1, like_sum true 0 c) (zeros_none (round binary32 true 0 c) (round binary32 false 0 c) (zero_round true c p) (zero_round false c p))
zeros_sum true (suc b) c p = rw (unlike_sum true b c, like_sum true (suc b) c) (lt_self (round binary32 true (suc b) c))

zeros_add : (h : Float) → lt (add binary32 minus_zero h) (add binary32 zero_f h) ≡ false
unfolding add lt of_bits
zeros_add nan = refl
zeros_add (inf true) = refl
zeros_add (inf false) = refl
zeros_add (fin t n d) =
    subst (λ (k : ℕ). lt (sum binary32 true k t (n * up d * 1) (1 * down d)) (sum binary32 false k t (n * up d * 1) (1 * down d)) ≡ false) (sym (zero-mul (down d)))
    (zeros_sum t (n * up d * 1) (1 * down d) (mul-pos (zero-lt-suc 0) (down_pos d)))

zeros_plus : add binary32 minus_zero zero_f ≡ zero_f
unfolding add of_bits sum round units odd
zeros_plus = refl

-- so a bottom edge is the same number with the place's offset of 0 and without it
pub edge_none : (x h : Float) → T (fits binary32 x) → lt (add binary32 x h) (add binary32 (add binary32 x zero_f) h) ≡ false
edge_none x h t = go (add_zero_is binary32 x t)
  where
    go : (add binary32 x zero_f ≡ x) ⊎ (x ≡ minus_zero) → lt (add binary32 x h) (add binary32 (add binary32 x zero_f) h) ≡ false
    go (inl e) = rw (e) (lt_self (add binary32 x h))
    go (inr e) = rw (e) (rw (zeros_plus) (zeros_add h))

-- ---- adding 0 of either sign

nothing : (z : Float) → lt z nan ≡ false
unfolding lt
nothing nan = refl
nothing (inf s) = refl
nothing (fin s m e) = refl

zero_size : (n : ℕ) (d : ℤ) (k : ℕ) → n * up d ≡ 0 → n * up d * k ≡ 0
zero_size n d k z = ap (λ (x : ℕ). x * k) z ∙ zero-mul k

fin_not_more : (s : Bool) (m : ℕ) (e : ℤ) (t : Bool) (n : ℕ) (d : ℤ) → T (fits binary32 (fin s m e)) → n * up d ≡ 0
    → lt (fin s m e) (sum binary32 s (m * up e * down d) t (n * up d * down e) (down e * down d)) ≡ false
fin_not_more s m e t n d h z =
    let a = m * up e * down d in
    let c = down e * down d in
    let p = mul-pos (down_pos e) (down_pos d) in
    let own = values_none (fin s m e) (round binary32 s a c) s a c p (own_value s m e (down d)) (round_own binary32 s m e (down d) (down_pos d) h) in
    subst (λ (k : ℕ). lt (fin s m e) (sum binary32 s a t k c) ≡ false) (sym (zero_size n d (down e) z)) (go s t own (eq-zero-or-pos (m * up e)))
  where
    go : (s t : Bool) → lt (fin s m e) (round binary32 s (m * up e * down d) (down e * down d)) ≡ false → ((m * up e ≡ 0) ⊎ (0 < m * up e)) → lt (fin s m e) (sum binary32 s (m * up e * down d) t 0 (down e * down d)) ≡ false
    go s true o w = subst (λ (z : Float). lt (fin s m e) z ≡ false) (sym (sum-none binary32 zero_f (down e * down d) (mul-pos (down_pos e) (down_pos d)) s (m * up e * down d))) o
    go false false o w = subst (λ (z : Float). lt (fin false m e) z ≡ false) (sym (sum_zero binary32 false (m * up e * down d) 0 (down e * down d) refl (inl refl))) o
    go true false o (inr w) = subst (λ (z : Float). lt (fin true m e) z ≡ false) (sym (sum_zero binary32 true (m * up e * down d) 0 (down e * down d) refl (inr (mul-pos w (down_pos d))))) o
    go true false o (inl w) =
        subst (λ (k : ℕ). lt (fin true m e) (sum binary32 true k false 0 (down e * down d)) ≡ false) (sym (zero_size m e (down d) w))
        (subst (λ (z : Float). lt (fin true m e) z ≡ false) (sym (nil_sum (down e * down d)).0) (zeros_none (fin true m e) (round binary32 false 0 (down e * down d)) w (zero_round false (down e * down d) (mul-pos (down_pos e) (down_pos d)))))

not_more : (z h : Float) → T (fits binary32 z) → Zero h → lt z (add binary32 z h) ≡ false
unfolding add lt
not_more nan h t w = refl
not_more (inf s) nan t w = absurd w
not_more (inf s) (inf r) t w = absurd w
not_more (fin s m e) nan t w = absurd w
not_more (fin s m e) (inf r) t w = absurd w
not_more (inf true) (fin r n d) t w = refl
not_more (inf false) (fin r n d) t w = refl
not_more (fin s m e) (fin r n d) t w = fin_not_more s m e r n d t w

add_number : (z h : Float) → is_nan z ≡ false → Zero h → is_nan (add binary32 z h) ≡ false
unfolding add is_nan
add_number nan h p w = absurd (true≢false p)
add_number (inf s) nan p w = absurd w
add_number (inf s) (inf r) p w = absurd w
add_number (fin s m e) nan p w = absurd w
add_number (fin s m e) (inf r) p w = absurd w
add_number (inf s) (fin r n d) p w = refl
add_number (fin s m e) (fin r n d) p w = finite_add (fin s m e) (fin r n d) refl refl

nan_edge : (w z h : Float) → is_nan z ≡ true → lt w (add binary32 (add binary32 z zero_f) h) ≡ false
unfolding is_nan add
nan_edge w nan h e = nothing w
nan_edge w (inf s) h e = absurd (false≢true e)
nan_edge w (fin s m d) h e = absurd (false≢true e)

pub below_edge : (w z h : Float) → T (fits binary32 z) → Zero h → lt w z ≡ false → lt w (add binary32 (add binary32 z zero_f) h) ≡ false
below_edge w z h t y g = go (is_nan z) refl
  where
    go : (b : Bool) → is_nan z ≡ b → lt w (add binary32 (add binary32 z zero_f) h) ≡ false
    go true e = nan_edge w z h e
    go false e = lt_none w z (add binary32 (add binary32 z zero_f) h) e g (lt_none z (add binary32 z h) (add binary32 (add binary32 z zero_f) h) (add_number z h e y) (not_more z h t y) (edge_none z h t))
