use mathlib.Core.Path.{◌≡◌}
use Rattle.std.specs.Prelude.{Result, Err, Float}
use Rattle.geometry.specs.declared.Size.{Size}
use Rattle.steps.specs.declared.Refusal.{Refusal}
use mathlib.Core.Path.{sym, ◌∙◌}
use Rattle.measure.proofs.PageSize.{page-tree, answered-size, refused_size}
use borrow.Author.Rules.{rules}
use Rattle.measure.proofs.size_or_no.Goals as goal

pub returns-in_err-size_tested : goal.returns-in_err-size_tested
returns-in_err-size_tested c =
    let no : ◌≡◌ {A = Result (Size Float) Refusal} c.from_residual.result (Err c.in_err-size_tested.field-0.0) = search rules in
    rw no (refused_size c.args.words.now c.args.numbers.now c.args.q c.args.axis _ (sym c.size_tested.ensures ∙ search rules))

pub size_of-requires : goal.size_of-requires
size_of-requires c = page-tree c.args.words.now c.args.numbers.now c.args.q (sym c.size_tested.ensures ∙ c.in_ok-size_tested.was)

pub returns : goal.returns
returns c = answered-size c.args.words.now c.args.numbers.now c.args.q (sym c.size_tested.ensures ∙ c.in_ok-size_tested.was) c.args.axis _ _ c.size_of.ensures c.size_reply.ensures
