-- Slices that are filled from the front, and the running largest as it goes.
--     put_map, put-running   one entry more
--     all_put                no entry is left
use mathlib.Core.Path.{◌≡◌, sym, ap, ◌∙◌}
use mathlib.Core.List.{List, [], ◌∷◌, ◌++◌, map, append_assoc, append-nil}
use Prim.Native.Nat.{ℕ, suc, ◌+◌, ◌<◌, ◌≤◌}
use native.Mathlib.Numerals.{add-one}
use native.Mathlib.Omega.{arith}
use lib.ListN.{length, get_or, set, take, drop, length-map, get_or-map, drop_of_length-le}
use lib.Seq.{take_all, take-suc, drop-cons, set_at, get_or-drop, drop-drop, length-take-le}
use lib.Ieee.{Float, nan}
use Rattle.util.specs.Math.{larger}
use Rattle.scroll.specs.Running.{running_from}

module _ {A : Type 0} where
  put_next : (w lent : List A) (k : ℕ) (d : A) → length lent ≡ length w → k < length w → set (take k w ++ drop k lent) k (get_or w k d) ≡ take (k + 1) w ++ drop (k + 1) lent
  put_next w lent k d n h =
      let z : k < length lent = omega arith in
      ap (λ (l : List A). set (take k w ++ l) k (get_or w k d)) (drop-cons lent k d z)
      ∙ set_at (take k w) (get_or lent k d) (drop (suc k) lent) (get_or w k d) k (length-take-le k w (omega arith))
      ∙ sym (rw (add-one k, take-suc w k d h) (append_assoc (take k w) (get_or w k d ∷ []) (drop (suc k) lent)))

  pub all_put : (w lent : List A) (k : ℕ) → length w ≤ k → length lent ≤ k → take k w ++ drop k lent ≡ w
  all_put w lent k h g = rw (take_all k w h, drop_of_length-le lent g) (append-nil w)

-- the value of the k-th entry, put in its place
pub put_value : (w lent now : List Float) (k : ℕ) (v d : Float) → length lent ≡ length w → k < length w → now ≡ take k w ++ drop k lent → v ≡ get_or w k d → set now k v ≡ take (k + 1) w ++ drop (k + 1) lent
put_value w lent now k v d n h e q = rw (e, q) (put_next w lent k d n h)

pub put_map : (f : ℕ → Float) (list : List ℕ) (lent now : List Float) (k : ℕ) (v : Float) → length lent ≡ length list → k < length list → now ≡ take k (map f list) ++ drop k lent → v ≡ f (get_or list k 0)
    → set now k v ≡ take (k + 1) (map f list) ++ drop (k + 1) lent
put_map f list lent now k v n h e q =
    let m = length-map list f in
    put_value (map f list) lent now k v (f 0) (omega arith) (omega arith) e (q ∙ sym (get_or-map f list k 0))

-- what the running largest holds from k on, and past k
module _ (m : Float) (w bs : List Float) (k : ℕ) (h : k < length bs) (e : drop k w ≡ running_from m (drop k bs)) where
  running-cons : drop k w ≡ larger m (get_or bs k nan) ∷ running_from (larger m (get_or bs k nan)) (drop (suc k) bs)
  unfolding running_from
  running-cons = e ∙ ap (running_from m) (drop-cons bs k nan h)

  pub running-here : larger m (get_or bs k nan) ≡ get_or w k nan
  running-here =
      let q : k + 0 ≡ k = omega arith in
      sym (ap (λ (n : ℕ). get_or w n nan) (sym q) ∙ sym (get_or-drop k w 0 nan) ∙ ap (λ (l : List Float). get_or l 0 nan) running-cons)

  pub running-past : drop (k + 1) w ≡ running_from (larger m (get_or bs k nan)) (drop (k + 1) bs)
  running-past = sym (drop-drop 1 k w) ∙ ap (drop 1) running-cons ∙ ap (λ (n : ℕ). running_from (larger m (get_or bs k nan)) (drop n bs)) (sym (add-one k))
