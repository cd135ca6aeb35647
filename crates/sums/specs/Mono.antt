-- Adding more gives no less. Assumes nothing.
use Rattle.std.specs.Prelude.{◌≡◌, Bool, cond, ◌&&◌, ℕ, ◌+◌, ◌-◌, ◌*◌, ◌≤◌, ◌<◌, ltb, ℤ, Float}
use Rattle.std.proofs.Math.Path.{refl}
use Rattle.std.proofs.Common.{sym, ap, subst, ◌∙◌, true≢false, add-mul, mul-pos, mul_comm, mul_assoc, mul_right_comm, mul-le-mul_right, mul-lt-mul_of_pos_right, arith, ltb-true, ltb-false, lt-ltb, le-ltb}
use Rattle.std.proofs.Math.Bool.{true, false}
use Rattle.std.proofs.Math.Nat.{mul-sub}
use Rattle.std.specs.Float.{nan, inf, fin, Format}
use Rattle.std.specs.Float.Ieee.{up, down, lt, add, neg, sum, round}
use Rattle.std.specs.Float.Ieee.Fits.{down_pos}
use Rattle.std.specs.Float.Ieee.Scale.{round_same}
use Rattle.sums.specs.Sums.{Pos, round_pos, round_neg, mono, mono_neg}

pos_neg : (x y : Float) → Pos x → Pos y → lt x (neg y) ≡ false
unfolding lt neg
pos_neg nan y p q = refl
pos_neg (inf s) nan p q = refl
pos_neg (inf true) (inf t) p q = absurd (true≢false p)
pos_neg (inf false) (inf t) p q = refl
pos_neg (inf s) (fin t n d) p q = p
pos_neg (fin s m e) nan p q = refl
pos_neg (fin s m e) (inf true) p q = absurd (true≢false q)
pos_neg (fin s m e) (inf false) p q = refl
pos_neg (fin true m e) (fin t n d) p q = absurd (true≢false p)
pos_neg (fin false m e) (fin true n d) p q = absurd (true≢false q)
pos_neg (fin false m e) (fin false n d) p q = refl

pos_minus : (f : Format) (x : Float) (a c : ℕ) → Pos x → lt x (round f true a c) ≡ false
pos_minus f x a c p = ap (lt x) (round_neg f a c) ∙ pos_neg x (round f false a c) p (round_pos f a c)

module _ (f : Format) (a b b' c : ℕ) (p : 0 < c) (h : b ≤ b') where
  abbrev less : Bool → Bool → Float
  less v w = cond v (round f false (b - a) c) (round f (true && w) (a - b) c)

  abbrev great : Bool → Bool → Float
  great v w = cond v (round f false (b' - a) c) (round f (true && w) (a - b') c)

  unlike : (v w v' w' : Bool) → ltb a b ≡ v → ltb b a ≡ w → ltb a b' ≡ v' → ltb b' a ≡ w' → lt (great v' w') (less v w) ≡ false
  unlike true w true w' e d e' d' = mono f (b - a) (b' - a) c p (omega (arith, h))
  unlike true w false w' e d e' d' =
      let x = ltb-true a b e in
      let y = ltb-false a b' e' in
      absurd (omega (arith, x, y, h))
  unlike false true true w' e d e' d' = pos_minus f (round f false (b' - a) c) (a - b) c (round_pos f (b' - a) c)
  unlike false true false true e d e' d' = mono_neg f (a - b') (a - b) c p (omega (arith, h))
  unlike false true false false e d e' d' = pos_minus f (round f false (a - b') c) (a - b) c (round_pos f (a - b') c)
  unlike false false true w' e d e' d' =
      let x = ltb-false b a d in
      mono f (a - b) (b' - a) c p (omega (arith, x))
  unlike false false false true e d e' d' =
      let x = ltb-false b a d in
      let y = ltb-true b' a d' in
      absurd (omega (arith, x, y, h))
  unlike false false false false e d e' d' =
      let x = ltb-false b a d in
      mono f (a - b) (a - b') c p (omega (arith, x))

  sum_mono : (s : Bool) → lt (sum f s a false b' c) (sum f s a false b c) ≡ false
  unfolding sum
  sum_mono false = mono f (a + b) (a + b') c p (omega (arith, h))
  sum_mono true = unlike (ltb a b) (ltb b a) (ltb a b') (ltb b' a) refl refl refl refl

ltb_scaled : (a b k : ℕ) → 0 < k → ltb (a * k) (b * k) ≡ ltb a b
ltb_scaled a b k h = go (ltb a b) refl
  where
    go : (t : Bool) → ltb a b ≡ t → ltb (a * k) (b * k) ≡ t
    go true e = lt-ltb (a * k) (b * k) (mul-lt-mul_of_pos_right (ltb-true a b e) h)
    go false e = le-ltb (a * k) (b * k) (mul-le-mul_right k (ltb-false a b e))

sub_mul : (a b k : ℕ) → (a - b) * k ≡ a * k - b * k
sub_mul a b k = mul_comm (a - b) k ∙ mul-sub k a b ∙ ap (λ (z : ℕ). z - k * b) (mul_comm k a) ∙ ap (λ (z : ℕ). a * k - z) (mul_comm k b)

round_scaled : (f : Format) (s : Bool) (a c k : ℕ) → 0 < c → 0 < k → round f s (a * k) (c * k) ≡ round f s a c
round_scaled f s a c k p q = round_same f s (a * k) (c * k) a c (mul-pos p q) p (mul_right_comm a k c ∙ mul_assoc a c k)

sum_scaled : (f : Format) (s : Bool) (a b c k : ℕ) → 0 < c → 0 < k → sum f s (a * k) false (b * k) (c * k) ≡ sum f s a false b c
unfolding sum
sum_scaled f false a b c k p q = ap (λ (z : ℕ). round f false z (c * k)) (sym (add-mul a b k)) ∙ round_scaled f false (a + b) c k p q
sum_scaled f true a b c k p q =
    rw (ltb_scaled a b k q, ltb_scaled b a k q, ← sub_mul b a k, ← sub_mul a b k, round_scaled f false (b - a) c k p q) (go (ltb a b) (ltb b a))
  where
    go : (v w : Bool) → cond v (round f false (b - a) c) (round f (true && w) ((a - b) * k) (c * k)) ≡ cond v (round f false (b - a) c) (round f (true && w) (a - b) c)
    go true w = refl
    go false w = round_scaled f (true && w) (a - b) c k p q

fin_mono : (f : Format) (s : Bool) (m : ℕ) (e : ℤ) (n : ℕ) (d : ℤ) (n' : ℕ) (d' : ℤ) → n * up d * down d' ≤ n' * up d' * down d
    → lt (sum f s (m * up e * down d') false (n' * up d' * down e) (down e * down d')) (sum f s (m * up e * down d) false (n * up d * down e) (down e * down d)) ≡ false
fin_mono f s m e n d n' d' h =
    let k = down d in
    let k' = down d' in
    let x = m * up e in
    let big = sum_scaled f s (x * k') (n' * up d' * down e) (down e * k') k (mul-pos (down_pos e) (down_pos d')) (down_pos d) in
    let low = sum_scaled f s (x * k) (n * up d * down e) (down e * k) k' (mul-pos (down_pos e) (down_pos d)) (down_pos d') in
    let g : n * up d * down e * k' ≤ n' * up d' * down e * k =
    subst (λ (z : ℕ). z ≤ n' * up d' * down e * k) (mul_right_comm (n * up d) k' (down e))
    (subst (λ (z : ℕ). n * up d * k' * down e ≤ z) (mul_right_comm (n' * up d') k (down e)) (mul-le-mul_right (down e) h)) in
    let same = sum_mono f (x * k * k') (n * up d * down e * k') (n' * up d' * down e * k) (down e * k * k') (mul-pos (mul-pos (down_pos e) (down_pos d)) (down_pos d')) g s in
    let a : x * k * k' ≡ x * k' * k = mul_right_comm x k k' in
    let c : down e * k * k' ≡ down e * k' * k = mul_right_comm (down e) k k' in
    let top : sum f s (x * k * k') false (n' * up d' * down e * k) (down e * k * k') ≡ sum f s (x * k') false (n' * up d' * down e) (down e * k') =
    ap (λ (z : ℕ). sum f s z false (n' * up d' * down e * k) (down e * k * k')) a ∙ ap (λ (z : ℕ). sum f s (x * k' * k) false (n' * up d' * down e * k) z) c ∙ big in
    subst (λ (z : Float). lt z (sum f s (x * k) false (n * up d * down e) (down e * k)) ≡ false) top
    (subst (λ (z : Float). lt (sum f s (x * k * k') false (n' * up d' * down e * k) (down e * k * k')) z ≡ false) low same)

-- a and b not below 0, b not less than a
pub add_mono : (f : Format) (x a b : Float) → Pos a → Pos b → lt b a ≡ false → lt (add f x b) (add f x a) ≡ false
unfolding add lt
add_mono f nan a b p q h = refl
add_mono f (inf s) a nan p q h = refl
add_mono f (inf true) a (inf t) p q h = inf-case a t q
  where
    inf-case : (a : Float) (t : Bool) → t ≡ false → lt (add f (inf true) (inf t)) (add f (inf true) a) ≡ false
    inf-case a true q = absurd (true≢false q)
    inf-case a false q = refl
add_mono f (inf false) a (inf t) p q h = inf-case t q
  where
    inf-case : (t : Bool) → t ≡ false → lt (add f (inf false) (inf t)) (add f (inf false) a) ≡ false
    inf-case true q = absurd (true≢false q)
    inf-case false q = flat (add f (inf false) a)
      where
        flat : (z : Float) → lt (inf false) z ≡ false
        flat nan = refl
        flat (inf s) = refl
        flat (fin s m e) = refl
add_mono f (inf s) nan (fin t n d) p q h = refl
add_mono f (inf true) (inf true) (fin t n d) p q h = absurd (true≢false p)
add_mono f (inf true) (inf false) (fin t n d) p q h = refl
add_mono f (inf false) (inf true) (fin t n d) p q h = refl
add_mono f (inf false) (inf false) (fin t n d) p q h = refl
add_mono f (inf true) (fin s m e) (fin t n d) p q h = refl
add_mono f (inf false) (fin s m e) (fin t n d) p q h = refl
add_mono f (fin s m e) a nan p q h = refl
add_mono f (fin s m e) nan (inf t) p q h = refl
add_mono f (fin s m e) (inf u) (inf true) p q h = absurd (true≢false q)
add_mono f (fin s m e) (inf u) (inf false) p q h = refl
add_mono f (fin s m e) (fin u n d) (inf true) p q h = absurd (true≢false q)
add_mono f (fin s m e) (fin u n d) (inf false) p q h = above (sum f s (m * up e * down d) u (n * up d * down e) (down e * down d))
  where
    above : (z : Float) → lt (inf false) z ≡ false
    above nan = refl
    above (inf s) = refl
    above (fin s m e) = refl
add_mono f (fin s m e) nan (fin t n d) p q h = nothing (sum f s (m * up e * down d) t (n * up d * down e) (down e * down d))
  where
    nothing : (z : Float) → lt z nan ≡ false
    nothing nan = refl
    nothing (inf s) = refl
    nothing (fin s m e) = refl
add_mono f (fin s m e) (inf true) (fin t n d) p q h = absurd (true≢false p)
add_mono f (fin s m e) (inf false) (fin t n d) p q h = absurd (true≢false h)
add_mono f (fin s m e) (fin true n d) (fin t n' d') p q h = absurd (true≢false p)
add_mono f (fin s m e) (fin false n d) (fin true n' d') p q h = absurd (true≢false q)
add_mono f (fin s m e) (fin false n d) (fin false n' d') p q h = fin_mono f s m e n d n' d' (ltb-false (n' * up d' * down d) (n * up d * down d') h)
