-- An accepted layout and two accepted relayouts. At each relayout A is kept, it has a child, and its probe stands.
use Rattle.std.specs.Prelude.{◌≡◌, refl, false, [], ℕ}
use Rattle.std.proofs.Common.{ap, ◌∙◌}
use Rattle.steps.specs.Page.{named}
use Rattle.steps.specs.Results.{layout_result}
use Rattle.laws.specs.Trees.{false_true}
use Rattle.laws.specs.Tables.{Checks, Named, Calls, laid_out, laid_again}
use Rattle.laws.proofs.Demand3.{relayout_is_layout}
use Rattle.laws.specs.Examples.{free, probe_words}
use Rattle.chains.specs.Pages.{low, tall, taller, no_rows, no_marks, changed, four_low, four_tall, same_shape}
use Rattle.chains.specs.Chain.{box, first, second, third, first_accepted, second_accepted, third_accepted, box_named, third_passes}

not_box : (i : ℕ) → named box i ≡ false → i ≡ 3 → ⊥
not_box i e p = false_true (named box i) e (ap (named box) p ∙ box_named)

named_once : Named box probe_words low probe_words tall
unfolding tall
named_once i h e = changed probe_words low 4 3 _ _ i four_low refl (not_box i e)

named_twice : Named box probe_words tall probe_words taller
unfolding taller
named_twice i h e = changed probe_words tall 4 3 _ _ i four_tall refl (not_box i e)

-- the chain: after one relayout, and after two
pub chain2 : Calls probe_words tall free second.rows second.marks
unfolding first second
chain2 = laid_again probe_words low free first.rows first.marks probe_words tall [] [] box free 0 (laid_out probe_words low no_rows no_marks [] [] free 0 first_accepted) (same_shape probe_words) named_once second_accepted

pub chain3 : Calls probe_words taller free third.rows third.marks
unfolding third
chain3 = laid_again probe_words tall free second.rows second.marks probe_words taller [] [] box free 0 chain2 (same_shape probe_words) named_twice third_accepted

pub third_is_layout : Checks → third ≡ layout_result probe_words taller second.rows second.marks [] [] free
unfolding third
third_is_layout c = relayout_is_layout c probe_words tall free second.rows second.marks probe_words taller [] [] box free chain2 (same_shape probe_words) named_twice third_passes
