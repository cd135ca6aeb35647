-- The three ways that the tests of make_index return.
use Rattle.std.specs.Prelude.{Result, Ok, Err, ⊤}
use Rattle.steps.specs.declared.Refusal.TheVariants.{Lengths}
use Rattle.steps.specs.declared.Refusal.{Refusal}
use Rattle.index.specs.declared.IndexRefusal.TheVariants.{Plain}
use Rattle.index.specs.declared.IndexRefusal.{IndexRefusal}
use mathlib.Core.Path.{◌≡◌, sym, ◌∙◌}
use mathlib.Core.Bool.{true, false}
use mathlib.Core.List.{List}
use Prim.Native.Nat.{ℕ}
use lib.ListN.{length}
use lib.Ieee.{Float}
use Rattle.steps.specs.Noes.{and_then}
use Rattle.edges.specs.Tests.{laid_tested, rows_tested}
use Rattle.index.specs.Index.{uneven, index_misfit, list_answer, after_tests, index_answer}

module _ (ws : List ℕ) (rs : List Float) (ms list : List ℕ) (tops bottoms running : ℕ) where
  pub uneven-slices : uneven (length list) tops bottoms running ≡ true → Err (Plain Lengths) ≡ index_answer ws rs ms list tops bottoms running
  unfolding index_answer index_misfit laid_tested and_then after_tests
  uneven-slices e = rw e

  module _ (even : uneven (length list) tops bottoms running ≡ false) where
    answer_is : index_answer ws rs ms list tops bottoms running ≡ after_tests (rows_tested ws rs ms) (list_answer ws ms list)
    unfolding index_answer index_misfit rows_tested
    answer_is = rw even

    pub rows-refused : (a : Refusal) → rows_tested ws rs ms ≡ Err a → Err (Plain a) ≡ index_answer ws rs ms list tops bottoms running
    unfolding after_tests
    rows-refused a e = sym (answer_is ∙ rw e)

    pub rows-passed : (r : Result ⊤ IndexRefusal) → rows_tested ws rs ms ≡ Ok tt → r ≡ list_answer ws ms list → r ≡ index_answer ws rs ms list tops bottoms running
    unfolding after_tests
    rows-passed r e q = q ∙ sym (answer_is ∙ rw e)
