use mathlib.Core.Path.{◌≡◌, sym, ◌∙◌}
use Rattle.std.specs.Prelude.{Result, Ok, Err, Float}
use Rattle.geometry.specs.declared.Size.{Size}
use Rattle.profiled.specs.declared.ProfileRefusal.{ProfileRefusal}
use Rattle.profiled.specs.declared.ProfileRefusal.TheVariants.{Plain}
use Rattle.profiled.specs.Profiled.{plainly}
use Rattle.profiled.proofs.Testing.{few_sized, size-refused, size-given}
use borrow.Author.Rules.{rules}
use Rattle.profiled.proofs.size_profiled.Goals as goal

pub profile_tested-requires : goal.profile_tested-requires
profile_tested-requires c = λ e. few_sized c.args.words.now c.args.numbers.now _ (sym c.size_tested-t.ensures ∙ e)

pub returns-in_err-profile_tested : goal.returns-in_err-profile_tested
returns-in_err-profile_tested c =
    let no : ◌≡◌ {A = Result (Size Float) ProfileRefusal} c.from_residual.result (Err c.in_err-profile_tested.field-0.0) = search rules in
    rw no (size-refused c.args.words.now c.args.numbers.now c.root_input-asked.ensures c.size_tested-t.ensures c.profile_tested.ensures c.args.axis (search rules))

pub returns-in_err-size_question : goal.returns-in_err-size_question
unfolding plainly
returns-in_err-size_question c =
    let no : ◌≡◌ {A = Result (Size Float) ProfileRefusal} c.from_residual-in_err-size_question.result (plainly c.size_question.result) = search rules in
    size-given c.args.words.now c.args.numbers.now c.root_input-asked.ensures c.size_tested-t.ensures c.profile_tested.ensures c.args.axis c.in_ok-profile_tested.was c.size_question.ensures.answer_is no

pub returns : goal.returns
unfolding plainly
returns c =
    let yes : ◌≡◌ {A = Result (Size Float) ProfileRefusal} (Ok c.in_ok-size_question.field-0) (plainly c.size_question.result) = search rules in
    size-given c.args.words.now c.args.numbers.now c.root_input-asked.ensures c.size_tested-t.ensures c.profile_tested.ensures c.args.axis c.in_ok-profile_tested.was c.size_question.ensures.answer_is yes
