-- The ways that the tests of coarse return.
use Rattle.steps.specs.declared.Refusal.TheVariants.{Lengths}
use Rattle.steps.specs.declared.Refusal.{Refusal}
use Rattle.coarse.specs.declared.CoarseRefusal.TheVariants.{Plain}
use Rattle.std.specs.Prelude.{Option, Ok, Err}
use Rattle.tree.specs.declared.NodeId.{NodeId}
use mathlib.Core.Path.{◌≡◌, sym, ap, ◌∙◌}
use mathlib.Core.Bool.{true, false, ◌||◌}
use mathlib.Core.List.{List}
use Prim.Native.Nat.{ℕ, ◌*◌, ◌≤◌}
use lib.Ieee.{Float}
use borrow.Author.Tests.{eqb-true, not-false}
use Rattle.limits.specs.Bools.{or_left}
use Rattle.steps.specs.Page.{nodes_in}
use Rattle.steps.specs.Scan.{lowest}
use Rattle.steps.specs.Noes.{and_then, bad_rows, bad_tree}
use Rattle.tables.specs.Refusals.{Sound}
use Rattle.tables.specs.TreeCheck.{GoodTable}
use Rattle.edges.specs.Edges.{edge_by}
use Rattle.edges.specs.Tests.{bad_words, laid_tested, rows_tested, LaidSound}
use Rattle.edges.proofs.Exact.{laid-exactly}
use Rattle.edges.proofs.Words.{worded, good_words}
use Rattle.coarse.specs.Panel.{far_node}
use Rattle.coarse.specs.Coarse.{bad_out, coarse_misfit, by_edge, far_at, after_tests, coarse_answer}
use Rattle.coarse.proofs.OfTree.{lowest-is}

pub long_out : (n out : ℕ) → bad_out n out ≡ false → out ≡ 4 * n
unfolding bad_out
long_out n out e = eqb-true out (4 * n) (not-false _ e)

module _ (ws : List ℕ) (rs : List Float) (ms : List ℕ) where
  -- what rows that pass 1, 2, 3 and 7 say of the words
  module _ (pass : rows_tested ws rs ms ≡ Ok tt) where
    sound : LaidSound (bad_words ws || bad_rows ws rs ms) ws ms
    unfolding rows_tested
    sound = (laid-exactly (bad_words ws || bad_rows ws rs ms) ws ms (Ok tt)).only pass

    words-fit : bad_words ws ≡ false
    words-fit = or_left (bad_words ws) _ sound.lengths

    pub few : nodes_in ws ≤ 1024
    few = (worded ws words-fit).few

    good : GoodTable ws
    good = good_words ws words-fit sound.tree

    pub tree-sound : Sound (bad_tree ws) (nodes_in ws)
    tree-sound = sound.tree

  module _ (out : ℕ) where
    pub bad-length : bad_out (nodes_in ws) out ≡ true → Err (Plain Lengths) ≡ coarse_answer ws rs ms out
    unfolding coarse_answer coarse_misfit laid_tested and_then after_tests
    bad-length e = rw e

    module _ (fits : bad_out (nodes_in ws) out ≡ false) where
      answer_is : coarse_answer ws rs ms out ≡ after_tests (rows_tested ws rs ms) (by_edge (lowest (far_at ws rs ms) (nodes_in ws)))
      unfolding coarse_answer coarse_misfit rows_tested
      answer_is = rw fits

      pub rows-refused : (a : Refusal) → rows_tested ws rs ms ≡ Err a → Err (Plain a) ≡ coarse_answer ws rs ms out
      unfolding after_tests
      rows-refused a e = sym (answer_is ∙ rw e)

      -- f is what the code's search for 12 found
      pub rows-passed : (f : Option NodeId) → rows_tested ws rs ms ≡ Ok tt → lowest (far_node (edge_by ws rs) rs ms) (nodes_in ws) ≡ f → by_edge f ≡ coarse_answer ws rs ms out
      unfolding after_tests
      rows-passed f e q = ap by_edge (sym q ∙ lowest-is ws rs ms (good e)) ∙ sym (answer_is ∙ rw e)
