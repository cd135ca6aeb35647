-- Laws of `how_many`, and of tests that hold together.
use mathlib.Core.Path.{◌≡◌, refl, sym, ap, ◌∙◌}
use mathlib.Core.Bool.{Bool, true, false, cond, ◌&&◌}
use Prim.Native.Nat.{ℕ, zero, suc, ◌+◌, ◌<◌, ◌≤◌}
use native.Mathlib.Omega.{arith}
use Rattle.steps.specs.Scan.{how_many}

pub both : (a b : Bool) → a ≡ true → b ≡ true → (a && b) ≡ true
both a b e f = rw (e, f)

module _ (p : ℕ → Bool) where
  pub count_none : how_many p 0 ≡ 0
  unfolding how_many
  count_none = refl

  pub count-suc : (n : ℕ) → how_many p (suc n) ≡ cond (p n) (suc (how_many p n)) (how_many p n)
  unfolding how_many
  count-suc n = refl

  pub count_yes : (n : ℕ) → p n ≡ true → how_many p (suc n) ≡ suc (how_many p n)
  count_yes n e = count-suc n ∙ rw e

  pub count_no : (n : ℕ) → p n ≡ false → how_many p (suc n) ≡ how_many p n
  count_no n e = count-suc n ∙ rw e

  -- m places more, none of them taken
  pub count-more : (n m : ℕ) → ((j : ℕ) → n ≤ j → j < n + m → p j ≡ false) → how_many p (n + m) ≡ how_many p n
  count-more n zero h =
      let q : n + 0 ≡ n = omega arith in
      rw q
  count-more n (suc m) h =
      let q : n + suc m ≡ suc (n + m) = omega arith in
      rw q (count_no (n + m) (h (n + m) (omega arith) (omega arith)) ∙ count-more n m (λ j g l. h j g (omega arith)))

pub count_same : (p q : ℕ → Bool) (n : ℕ) → ((j : ℕ) → j < n → p j ≡ q j) → how_many p n ≡ how_many q n
count_same p q zero h = count_none p ∙ sym (count_none q)
count_same p q (suc n) h =
    count-suc p n
    ∙ ap (λ (k : ℕ). cond (p n) (suc k) k) (count_same p q n (λ j l. h j (omega arith)))
    ∙ ap (λ (b : Bool). cond b (suc (how_many q n)) (how_many q n)) (h n (omega arith))
    ∙ sym (count-suc q n)
