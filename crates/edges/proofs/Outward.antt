-- Going outward from a node: a loop's turns, two stretches one after the other, and a stretch with no holder.
use mathlib.Core.Path.{◌≡◌, refl, sym, ap, ◌∙◌}
use mathlib.Core.Bool.{Bool, true, false, cond}
use Prim.Native.Nat.{ℕ, zero, suc, ◌+◌, ◌-◌, ◌<◌, ◌≤◌}
use native.Mathlib.Omega.{arith}
use lib.Ieee.{Float, add, binary32}
use mathlib.Core.List.{List}
use borrow.Author.Tests.{lt-ltb, le-ltb}
use Rattle.style.specs.Style.{word_at}
use Rattle.steps.specs.Noes.{holds}
use Rattle.edges.specs.Edges.{row_number, outward, edge_by, SamePlaces, itself, holder}

module _ (holder : ℕ → Bool) (place : ℕ → Float) where
  pub done : (e : Float) → outward holder place 0 e ≡ e
  unfolding outward
  done e = refl

  pub ended : (j : ℕ) (e : Float) → j ≤ 0 → outward holder place j e ≡ e
  ended j e h =
      let q : j ≡ 0 = omega arith in
      rw q (done e)

  next : (j : ℕ) (e : Float) → outward holder place (suc j) e ≡ outward holder place j (cond (holder j) (add binary32 e (place j)) e)
  unfolding outward
  next j e = refl

  -- a turn from j to j - 1
  pub held : (j : ℕ) (e : Float) → 0 < j → holder (j - 1) ≡ true → outward holder place j e ≡ outward holder place (j - 1) (add binary32 e (place (j - 1)))
  held j e h q =
      let z : j ≡ suc (j - 1) = omega arith in
      ap (λ (n : ℕ). outward holder place n e) z ∙ next (j - 1) e ∙ rw q

  pub passed : (j : ℕ) (e : Float) → 0 < j → holder (j - 1) ≡ false → outward holder place j e ≡ outward holder place (j - 1) e
  passed j e h q =
      let z : j ≡ suc (j - 1) = omega arith in
      ap (λ (n : ℕ). outward holder place n e) z ∙ next (j - 1) e ∙ rw q

-- what agrees below j
pub outward_same : (h h' : ℕ → Bool) (p p' : ℕ → Float) (j : ℕ) (e : Float) → ((k : ℕ) → k < j → h k ≡ h' k) → ((k : ℕ) → k < j → p k ≡ p' k) → outward h p j e ≡ outward h' p' j e
outward_same h h' p p' zero e eh ep = done h p e ∙ sym (done h' p' e)
outward_same h h' p p' (suc j) e eh ep =
    next h p j e ∙ rw (eh j (omega arith), ep j (omega arith)) (outward_same h h' p p' j (cond (h' j) (add binary32 e (p' j)) e) (λ k l. eh k (omega arith)) (λ k l. ep k (omega arith)) ∙ sym (next h' p' j e))

-- two stretches: the last n, then the first m
pub outward_add : (h : ℕ → Bool) (p : ℕ → Float) (m n : ℕ) (e : Float) → outward h p (m + n) e ≡ outward h p m (outward (λ (j : ℕ). h (m + j)) (λ (j : ℕ). p (m + j)) n e)
outward_add h p m zero e =
    let q : m + 0 ≡ m = omega arith in
    ap (λ (j : ℕ). outward h p j e) q ∙ ap (outward h p m) (sym (done (λ (j : ℕ). h (m + j)) (λ (j : ℕ). p (m + j)) e))
outward_add h p m (suc n) e =
    let q : m + suc n ≡ suc (m + n) = omega arith in
    ap (λ (j : ℕ). outward h p j e) q ∙ next h p (m + n) e ∙ outward_add h p m n (cond (h (m + n)) (add binary32 e (p (m + n))) e) ∙ ap (outward h p m) (sym (next (λ (j : ℕ). h (m + j)) (λ (j : ℕ). p (m + j)) n e))

-- a stretch with no holder
pub outward_none : (h : ℕ → Bool) (p : ℕ → Float) (j : ℕ) (e : Float) → ((k : ℕ) → k < j → h k ≡ false) → outward h p j e ≡ e
outward_none h p zero e f = done h p e
outward_none h p (suc j) e f = next h p j e ∙ rw (f j (omega arith)) (outward_none h p j e (λ k l. f k (omega arith)))

-- a holder at 0 is the last
pub outward_one : (h : ℕ → Bool) (p : ℕ → Float) (e : Float) → h 0 ≡ true → outward h p 1 e ≡ add binary32 e (p 0)
outward_one h p e q = next h p 0 e ∙ done h p _ ∙ rw q

-- ---- the loop over the words: size is that of node j
module _ (ws : List ℕ) (i j size : ℕ) (lower : j < i) (size_is : size ≡ word_at ws j 0) where
  pub runs-over : i - j < size → holds ws i j ≡ true
  unfolding holds
  runs-over h = lt-ltb i (j + word_at ws j 0) (omega arith)

  pub runs-short : size ≤ i - j → holds ws i j ≡ false
  unfolding holds
  runs-short h = le-ltb i (j + word_at ws j 0) (omega arith)

pub edge_start : (ws : List ℕ) (rs : List Float) (f i : ℕ) (e : Float) → e ≡ row_number rs i f → edge_by ws rs f i ≡ outward (holds ws i) (λ (k : ℕ). row_number rs k f) i e
unfolding edge_by
edge_start ws rs f i e q = rw q

-- ---- places that stay
-- the places of the holders alone count
outward_holders : (h : ℕ → Bool) (p p' : ℕ → Float) (j : ℕ) (e : Float) → ((k : ℕ) → k < j → h k ≡ true → p k ≡ p' k) → outward h p j e ≡ outward h p' j e
outward_holders h p p' zero e f = done h p e ∙ sym (done h p' e)
outward_holders h p p' (suc j) e f = next h p j e ∙ ap (outward h p j) (same (h j) refl) ∙ outward_holders h p p' j (cond (h j) (add binary32 e (p' j)) e) (λ k l. f k (omega arith)) ∙ sym (next h p' j e)
  where
    same : (b : Bool) → h j ≡ b → cond (h j) (add binary32 e (p j)) e ≡ cond (h j) (add binary32 e (p' j)) e
    same true q = rw (q, f j (omega arith) q)
    same false q = rw q

-- an edge changes only if a place at or above the node does
pub edge_stays : (ws : List ℕ) (rs rs' : List Float) (f i : ℕ) → SamePlaces ws rs rs' f i → edge_by ws rs f i ≡ edge_by ws rs' f i
unfolding edge_by
edge_stays ws rs rs' f i h =
    ap (outward (holds ws i) (λ (j : ℕ). row_number rs j f) i) (h i itself) ∙ outward_holders (holds ws i) (λ (j : ℕ). row_number rs j f) (λ (j : ℕ). row_number rs' j f) i (row_number rs' i f) (λ k l q. h k (holder k l q))
