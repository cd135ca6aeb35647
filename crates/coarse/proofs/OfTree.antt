-- The edges that the code finds by going outward are the tree's, so 12 and the boxes are too.
use Rattle.std.specs.Prelude.{None}
use mathlib.Core.Path.{◌≡◌, refl, sym, ◌∙◌}
use mathlib.Core.Bool.{Bool, true, false}
use mathlib.Core.List.{List}
use Prim.Native.Nat.{ℕ, zero, suc, ◌+◌, ◌<◌, ◌≤◌}
use native.Mathlib.Omega.{arith}
use lib.Ieee.{Float}
use Rattle.steps.specs.Page.{nodes_in}
use Rattle.steps.specs.Scan.{scan, lowest, at_node}
use Rattle.tables.specs.TreeCheck.{GoodTable}
use Rattle.tables.proofs.ScanLaws.{none_left, next-no, next-yes}
use Rattle.edges.specs.Edges.{edge_by}
use Rattle.edges.proofs.OfTree.{edge_is}
use Rattle.coarse.specs.Panel.{span_of, far_node, box_of, boxes_of}
use Rattle.coarse.specs.Coarse.{far_at, box_at}
use Rattle.coarse.proofs.Filling.{boxes_same}

-- two tests that agree find the same
scan_same : {A : Type 0} (p q : ℕ → Bool) (hit : ℕ → A) (none : A) (i n : ℕ) → ((j : ℕ) → i ≤ j → j < i + n → p j ≡ q j) → scan p hit none i n ≡ scan q hit none i n
scan_same p q hit none i zero h = none_left p hit none i ∙ sym (none_left q hit none i)
scan_same p q hit none i (suc n) h = go (p i) refl (scan_same p q hit none (i + 1) n (λ j a b. h j (omega arith) (omega arith)))
  where
    here : p i ≡ q i
    here = h i (omega arith) (omega arith)

    go : (b : Bool) → p i ≡ b → scan p hit none (i + 1) n ≡ scan q hit none (i + 1) n → scan p hit none i (suc n) ≡ scan q hit none i (suc n)
    go true e r = next-yes p hit none i n e ∙ sym (next-yes q hit none i n (sym here ∙ e))
    go false e r = next-no p hit none i n e ∙ r ∙ sym (next-no q hit none i n (sym here ∙ e))

module _ (ws : List ℕ) (rs : List Float) (ms : List ℕ) (good : GoodTable ws) where
  far-is : (i : ℕ) → i < nodes_in ws → far_node (edge_by ws rs) rs ms i ≡ far_at ws rs ms i
  unfolding far_node span_of
  far-is i l = rw (edge_is ws rs 0 i good l, edge_is ws rs 1 i good l)

  box_is : (i : ℕ) → i < nodes_in ws → box_of (edge_by ws rs) rs ms i ≡ box_at ws rs ms i
  unfolding box_of span_of
  box_is i l = rw (edge_is ws rs 0 i good l, edge_is ws rs 1 i good l)

  pub lowest-is : lowest (far_node (edge_by ws rs) rs ms) (nodes_in ws) ≡ lowest (far_at ws rs ms) (nodes_in ws)
  lowest-is = scan_same (far_node (edge_by ws rs) rs ms) (far_at ws rs ms) at_node None 0 (nodes_in ws) (λ j a b. far-is j (omega arith))

  -- none of the tree's edges is too far: none of those that the code finds
  pub sound-too : ((i : ℕ) → i < nodes_in ws → far_at ws rs ms i ≡ false) → (i : ℕ) → i < nodes_in ws → far_node (edge_by ws rs) rs ms i ≡ false
  sound-too h i l = far-is i l ∙ h i l

  pub boxes-are : boxes_of (box_of (edge_by ws rs) rs ms) 0 (nodes_in ws) ≡ boxes_of (box_at ws rs ms) 0 (nodes_in ws)
  boxes-are = boxes_same (box_of (edge_by ws rs) rs ms) (box_at ws rs ms) 0 (nodes_in ws) (λ i a b. box_is i (omega arith))
