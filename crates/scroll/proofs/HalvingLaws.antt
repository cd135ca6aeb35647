-- Halving: its turns, that fuel does not matter once there is enough of it, how much is enough, and what it finds.
--     over, lower, upper     a loop's end and its two turns
--     enough                 any two amounts of fuel that cover the places left
--     nine                   nine halvings for up to 511 places
--     finds                  the first place that p takes, if p keeps what it took
use mathlib.Core.Path.{◌≡◌, refl, sym, ◌∙◌}
use mathlib.Core.Bool.{Bool, true, false}
use Prim.Native.Nat.{ℕ, zero, suc, ◌+◌, ◌-◌, ◌^◌, ◌<◌, ◌≤◌}
use native.Mathlib.Omega.{arith}
use native.Mathlib.Nat.{pow-suc}
use lib.Dec.{ltb}
use borrow.Author.Tests.{ltb-true, ltb-false, lt-ltb, le-ltb}
use Rattle.scroll.specs.Halving.{First, middle, halved}

module _ (p : ℕ → Bool) where
  at_end : (k lo hi : ℕ) → hi ≤ lo → halved p k lo hi ≡ lo
  unfolding halved
  at_end zero lo hi h = refl
  at_end (suc k) lo hi h = rw (le-ltb lo hi h, halved)

  lower-half : (k lo hi : ℕ) → lo < hi → p (middle lo hi) ≡ true → halved p (suc k) lo hi ≡ halved p k lo (middle lo hi)
  unfolding halved
  lower-half k lo hi h e = rw (lt-ltb lo hi h, e, halved)

  upper-half : (k lo hi : ℕ) → lo < hi → p (middle lo hi) ≡ false → halved p (suc k) lo hi ≡ halved p k (middle lo hi + 1) hi
  unfolding halved
  upper-half k lo hi h e = rw (lt-ltb lo hi h, e, halved)

  -- one halving more, whatever it finds
  module _ (R : ℕ → Type 0) (k lo hi : ℕ) (less : lo < hi) (down : p (middle lo hi) ≡ true → R (halved p k lo (middle lo hi))) (up : p (middle lo hi) ≡ false → R (halved p k (middle lo hi + 1) hi)) where
    one_more : (b : Bool) → p (middle lo hi) ≡ b → R (halved p (suc k) lo hi)
    one_more true e = rw (lower-half k lo hi less e) (down e)
    one_more false e = rw (upper-half k lo hi less e) (up e)

  -- fuel for the places left is enough
  enough-step : (k m lo hi : ℕ) → ((n i j : ℕ) → j - i ≤ k → j - i ≤ n → halved p k i j ≡ halved p n i j) → hi - lo ≤ suc k → hi - lo ≤ m → (b : Bool) → ltb lo hi ≡ b → halved p (suc k) lo hi ≡ halved p m lo hi
  enough-step k m lo hi ih g h false e = let l = ltb-false lo hi e in at_end (suc k) lo hi l ∙ sym (at_end m lo hi l)
  enough-step k zero lo hi ih g h true e = let l = ltb-true lo hi e in absurd (omega arith)
  enough-step k (suc m) lo hi ih g h true e =
      let l = ltb-true lo hi e in
      one_more (λ (x : ℕ). x ≡ halved p (suc m) lo hi) k lo hi l
      (λ q. ih m lo (middle lo hi) (omega arith) (omega arith) ∙ sym (lower-half m lo hi l q))
      (λ q. ih m (middle lo hi + 1) hi (omega arith) (omega arith) ∙ sym (upper-half m lo hi l q))
      (p (middle lo hi)) refl

  pub enough : (k m lo hi : ℕ) → hi - lo ≤ k → hi - lo ≤ m → halved p k lo hi ≡ halved p m lo hi
  enough zero m lo hi g h = at_end 0 lo hi (omega arith) ∙ sym (at_end m lo hi (omega arith))
  enough (suc k) m lo hi g h = enough-step k m lo hi (λ n i j. enough k n i j) g h (ltb lo hi) refl

  -- a loop's turns, at fuel for the places left
  pub over : (lo hi : ℕ) → hi ≤ lo → halved p (hi - lo) lo hi ≡ lo
  over lo hi h = at_end (hi - lo) lo hi h

  pub lower : (lo hi : ℕ) → lo < hi → p (middle lo hi) ≡ true → halved p (hi - lo) lo hi ≡ halved p (middle lo hi - lo) lo (middle lo hi)
  lower lo hi h e = enough (hi - lo) (suc (hi - lo)) lo hi (omega arith) (omega arith) ∙ lower-half (hi - lo) lo hi h e ∙ enough (hi - lo) (middle lo hi - lo) lo (middle lo hi) (omega arith) (omega arith)

  pub upper : (lo hi : ℕ) → lo < hi → p (middle lo hi) ≡ false → halved p (hi - lo) lo hi ≡ halved p (hi - (middle lo hi + 1)) (middle lo hi + 1) hi
  upper lo hi h e = enough (hi - lo) (suc (hi - lo)) lo hi (omega arith) (omega arith) ∙ upper-half (hi - lo) lo hi h e ∙ enough (hi - lo) (hi - (middle lo hi + 1)) (middle lo hi + 1) hi (omega arith) (omega arith)

  -- k halvings for fewer than 2 ^ k places
  few-step : (k m lo hi : ℕ) → ((n i j : ℕ) → j - i < 2 ^ k → j - i ≤ n → halved p k i j ≡ halved p n i j) → hi - lo < 2 ^ suc k → hi - lo ≤ m → (b : Bool) → ltb lo hi ≡ b → halved p (suc k) lo hi ≡ halved p m lo hi
  few-step k m lo hi ih g h false e = let l = ltb-false lo hi e in at_end (suc k) lo hi l ∙ sym (at_end m lo hi l)
  few-step k zero lo hi ih g h true e = let l = ltb-true lo hi e in absurd (omega arith)
  few-step k (suc m) lo hi ih g h true e =
      let l = ltb-true lo hi e in
      let z = pow-suc 2 k in
      one_more (λ (x : ℕ). x ≡ halved p (suc m) lo hi) k lo hi l
      (λ q. ih m lo (middle lo hi) (omega arith) (omega arith) ∙ sym (lower-half m lo hi l q))
      (λ q. ih m (middle lo hi + 1) hi (omega arith) (omega arith) ∙ sym (upper-half m lo hi l q))
      (p (middle lo hi)) refl

  few : (k m lo hi : ℕ) → hi - lo < 2 ^ k → hi - lo ≤ m → halved p k lo hi ≡ halved p m lo hi
  few zero m lo hi g h = at_end 0 lo hi (omega arith) ∙ sym (at_end m lo hi (omega arith))
  few (suc k) m lo hi g h = few-step k m lo hi (λ n i j. few k n i j) g h (ltb lo hi) refl

  -- nine halvings are enough for 256 places, and for up to 511
  pub nine : (n : ℕ) → n ≤ 511 → halved p 9 0 n ≡ halved p n 0 n
  nine n h = few 9 n 0 n (omega arith) (omega arith)

  -- what p took it keeps: halving finds the first
  module _ (n : ℕ) (keeps : (j k : ℕ) → j ≤ k → k < n → p j ≡ true → p k ≡ true) where
    record Around (lo hi : ℕ) : Type 0 where
      inside : hi ≤ n
      ordered : lo ≤ hi
      under : (j : ℕ) → j < lo → p j ≡ false
      top : hi < n → p hi ≡ true

    -- nothing below a place that is not taken is taken
    none-under : (m : ℕ) → m < n → p m ≡ false → (j : ℕ) → j < m + 1 → p j ≡ false
    none-under m l e j h = go (p j) refl
      where
        go : (b : Bool) → p j ≡ b → p j ≡ false
        go true q = q ∙ sym (keeps j m (omega arith) l q) ∙ e
        go false q = q

    -- no place is left
    settled : (k lo hi : ℕ) → hi ≤ lo → Around lo hi → First p n (halved p k lo hi)
    settled k lo hi l a =
        let o = a.ordered in
        let i = a.inside in
        let q : lo ≡ hi = omega arith in
        rw (at_end k lo hi l) (record { within = omega arith; before = a.under; here = λ h. rw q (a.top (omega arith)) })

    found-step : (k lo hi : ℕ) → ((i j : ℕ) → j - i ≤ k → Around i j → First p n (halved p k i j)) → hi - lo ≤ suc k → Around lo hi → (b : Bool) → ltb lo hi ≡ b → First p n (halved p (suc k) lo hi)
    found-step k lo hi ih g a false e = settled (suc k) lo hi (ltb-false lo hi e) a
    found-step k lo hi ih g a true e =
        let l = ltb-true lo hi e in
        let i = a.inside in
        one_more (First p n) k lo hi l
        (λ q. ih lo (middle lo hi) (omega arith) (record { inside = omega arith; ordered = omega arith; under = a.under; top = λ h. q }))
        (λ q. ih (middle lo hi + 1) hi (omega arith) (record { inside = i; ordered = omega arith; under = none-under (middle lo hi) (omega arith) q; top = a.top }))
        (p (middle lo hi)) refl

    found : (k lo hi : ℕ) → hi - lo ≤ k → Around lo hi → First p n (halved p k lo hi)
    found zero lo hi g a = settled 0 lo hi (omega arith) a
    found (suc k) lo hi g a = found-step k lo hi (λ i j. found k i j) g a (ltb lo hi) refl

    pub finds : First p n (halved p n 0 n)
    finds = found n 0 n (omega arith) (record { inside = omega arith; ordered = omega arith; under = λ j h. absurd (omega arith); top = λ h. absurd (omega arith) })
