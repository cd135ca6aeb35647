-- The running largest of any numbers, NaN among them: it is greater than y exactly from the first bottom on that is.
use mathlib.Core.Path.{◌≡◌, refl, sym, ◌∙◌}
use mathlib.Core.Bool.{Bool, true, false}
use mathlib.Core.List.{List, [], ◌∷◌}
use Prim.Native.Nat.{ℕ, zero, suc, ◌<◌, ◌≤◌}
use native.Mathlib.Omega.{arith}
use lib.ListN.{length}
use lib.Ieee.{Float, lt, is_nan}
use Rattle.util.specs.Math.{larger}
use Rattle.util.specs.Order.{larger_first, larger_second, lt_number, lt_trans, lt_none}
use Rattle.scroll.specs.Running.{running_from}
use Rattle.scroll.specs.Halving.{beyond}

pub length_running : (m : Float) (bs : List Float) → length (running_from m bs) ≡ length bs
unfolding running_from
length_running m [] = refl
length_running m (b ∷ bs) = ap-suc (length_running (larger m b) bs)
  where
    ap-suc : {i j : ℕ} → i ≡ j → suc i ≡ suc j
    ap-suc e = rw e

module _ (y : Float) where
  module _ (m b : Float) (number : is_nan m ≡ false) where
    -- the larger of a number and anything is a number
    larger-number : (t : Bool) → lt m b ≡ t → is_nan (larger m b) ≡ false
    larger-number true e = rw (← larger_second m b e) (lt_number m b e)
    larger-number false e = rw (← larger_first m b e) number

    -- y is below it if it is below one of the two, and else it is not
    below-first : lt y m ≡ true → (t : Bool) → lt m b ≡ t → lt y (larger m b) ≡ true
    below-first h true e = rw (← larger_second m b e) (lt_trans y m b h e)
    below-first h false e = rw (← larger_first m b e) h

    below-second : lt y b ≡ true → (t : Bool) → lt m b ≡ t → lt y (larger m b) ≡ true
    below-second h true e = rw (← larger_second m b e) h
    below-second h false e = go (lt y m) refl
      where
        go : (t : Bool) → lt y m ≡ t → lt y (larger m b) ≡ true
        go true q = rw (← larger_first m b e) q
        go false q = rw (← larger_first m b e) (q ∙ sym (lt_none y m b number q e) ∙ h)

    below-neither : lt y m ≡ false → lt y b ≡ false → (t : Bool) → lt m b ≡ t → lt y (larger m b) ≡ false
    below-neither h g true e = rw (← larger_second m b e) g
    below-neither h g false e = rw (← larger_first m b e) h

  -- once greater, always greater
  stays : (m : Float) (bs : List Float) → is_nan m ≡ false → lt y m ≡ true → (k : ℕ) → k < length bs → beyond (running_from m bs) y k ≡ true
  unfolding running_from
  stays m [] n h k l = absurd (omega arith)
  stays m (b ∷ bs) n h zero l = below-first m b n h (lt m b) refl
  stays m (b ∷ bs) n h (suc k) l = stays (larger m b) bs (larger-number m b n (lt m b) refl) (below-first m b n h (lt m b) refl) k (omega arith)

  -- what it took it keeps
  pub keeps : (m : Float) (bs : List Float) → is_nan m ≡ false → (j k : ℕ) → j ≤ k → k < length bs → beyond (running_from m bs) y j ≡ true → beyond (running_from m bs) y k ≡ true
  unfolding running_from
  keeps m [] n j k g l e = absurd (omega arith)
  keeps m (b ∷ bs) n zero zero g l e = e
  keeps m (b ∷ bs) n zero (suc k) g l e = stays (larger m b) bs (larger-number m b n (lt m b) refl) e k (omega arith)
  keeps m (b ∷ bs) n (suc j) zero g l e = absurd (omega arith)
  keeps m (b ∷ bs) n (suc j) (suc k) g l e = keeps (larger m b) bs (larger-number m b n (lt m b) refl) j k (omega arith) (omega arith) e

  -- a bottom that is greater makes it so
  pub reaches : (m : Float) (bs : List Float) → is_nan m ≡ false → (k : ℕ) → k < length bs → beyond bs y k ≡ true → beyond (running_from m bs) y k ≡ true
  unfolding running_from
  reaches m [] n k l e = absurd (omega arith)
  reaches m (b ∷ bs) n zero l e = below-second m b n e (lt m b) refl
  reaches m (b ∷ bs) n (suc k) l e = reaches (larger m b) bs (larger-number m b n (lt m b) refl) k (omega arith) e

  -- and nothing else does
  pub needs-one : (m : Float) (bs : List Float) → is_nan m ≡ false → lt y m ≡ false → (k : ℕ) → k < length bs → ((j : ℕ) → j ≤ k → beyond bs y j ≡ false) → beyond (running_from m bs) y k ≡ false
  unfolding running_from
  needs-one m [] n h k l f = absurd (omega arith)
  needs-one m (b ∷ bs) n h zero l f = below-neither m b n h (f 0 (omega arith)) (lt m b) refl
  needs-one m (b ∷ bs) n h (suc k) l f =
      needs-one (larger m b) bs (larger-number m b n (lt m b) refl) (below-neither m b n h (f 0 (omega arith)) (lt m b) refl) k (omega arith) (λ j g. f (suc j) (omega arith))
