-- From what the tests and the loop leave to what coarse promises.
use Rattle.std.specs.Prelude.{Ok, Err}
use Rattle.coarse.specs.declared.CoarseRefusal.{CoarseRefusal}
use mathlib.Core.Path.{◌≡◌, refl, ◌∙◌}
use mathlib.Core.List.{List}
use Prim.Native.Nat.{ℕ, ◌*◌, ◌≤◌}
use lib.IntN.{ℤ}
use lib.ListN.{length}
use lib.Ieee.{Float}
use native.Mathlib.Omega.{arith}
use Rattle.limits.specs.Bools.{or_left, or_right}
use Rattle.steps.specs.Page.{nodes_in}
use Rattle.steps.specs.Noes.{bad_rows, bad_tree}
use Rattle.tables.specs.Refusals.{Sound}
use Rattle.tables.specs.TreeCheck.{GoodTable}
use Rattle.edges.specs.Edges.{edge_by}
use Rattle.edges.specs.Tests.{bad_words}
use Rattle.edges.proofs.Words.{worded, good_words}
use Rattle.coarse.specs.Panel.{far_node, box_of, boxes_of}
use Rattle.coarse.specs.Coarse.{bad_out, coarse_misfit, far_at, coarse_answer, by_answer, coarse_result, Coarsened}
use Rattle.coarse.proofs.Exact.{coarse_exactly}
use Rattle.coarse.specs.Spans.{seen_place}
use Rattle.coarse.proofs.Filling.{boxes_same}
use Rattle.coarse.proofs.OfTree.{sound-too, boxes-are}
use Rattle.coarse.proofs.Spans.{box-seen}
use Rattle.coarse.proofs.Testing.{long_out}

module _ (ws : List ℕ) (rs : List Float) (ms : List ℕ) (lent : List ℤ) where
  -- what an accepted call knows
  pub record Accepted : Type 0 where
    pub long : length lent ≡ 4 * nodes_in ws
    pub few : nodes_in ws ≤ 1024
    pub good : GoodTable ws
    pub tree : Sound (bad_tree ws) (nodes_in ws)
    pub near : Sound (far_at ws rs ms) (nodes_in ws)

  pub accepted : coarse_answer ws rs ms (length lent) ≡ Ok tt → Accepted
  unfolding coarse_misfit
  accepted e =
      let d = (coarse_exactly ws rs ms (length lent) (Ok tt)).only e in
      let m = d.0.lengths in
      let w = or_left (bad_words ws) (bad_rows ws rs ms) (or_right (bad_out (nodes_in ws) (length lent)) _ m) in
      record {
        long = long_out (nodes_in ws) (length lent) (or_left (bad_out (nodes_in ws) (length lent)) _ m);
        few = (worded ws w).few;
        good = good_words ws w d.0.tree;
        tree = d.0.tree;
        near = d.1;
      }

  -- no edge that the code finds is too far
  pub none-far : coarse_answer ws rs ms (length lent) ≡ Ok tt → Sound (far_node (edge_by ws rs) rs ms) (nodes_in ws)
  none-far e = let a = accepted e in sound-too ws rs ms a.good a.near

  -- and so the boxes that the walk puts are the panel's
  pub shown : coarse_answer ws rs ms (length lent) ≡ Ok tt → (out : List ℤ) → out ≡ boxes_of (seen_place (edge_by ws rs) rs ms) 0 (nodes_in ws) → Coarsened (coarse_result ws rs ms lent) (Ok tt) out
  unfolding coarse_result by_answer
  shown e out q =
      let near = none-far e in
      let same = boxes_same (seen_place (edge_by ws rs) rs ms) (box_of (edge_by ws rs) rs ms) 0 (nodes_in ws) (λ i a b. box-seen (edge_by ws rs) rs ms i (near i (omega arith))) in
      rw e (record { answer_is = refl; paper_is = refl; out_is = q ∙ same ∙ boxes-are ws rs ms (accepted e).good })

  pub refused : (a : CoarseRefusal) → coarse_answer ws rs ms (length lent) ≡ Err a → Coarsened (coarse_result ws rs ms lent) (Err a) lent
  unfolding coarse_result by_answer
  refused a e = rw e (record { answer_is = refl; paper_is = refl; out_is = refl })
