use mathlib.Core.Path.{◌≡◌, sym, ◌∙◌}
use Rattle.std.specs.Prelude.{Result, Err, ℕ}
use Rattle.profiled.specs.declared.ProfileRefusal.{ProfileRefusal}
use Rattle.profiled.proofs.Testing.{few_sized, said-no, said-yes}
use borrow.Author.Rules.{rules}
use Rattle.profiled.proofs.in_profile.Goals as goal

pub profile_tested-requires : goal.profile_tested-requires
profile_tested-requires c = λ e. few_sized c.args.words.now c.args.numbers.now _ (sym c.size_tested-t.ensures ∙ e)

pub returns-in_err-profile_tested : goal.returns-in_err-profile_tested
returns-in_err-profile_tested c =
    let no : ◌≡◌ {A = Result ℕ ProfileRefusal} c.from_residual.result (Err c.in_err-profile_tested.field-0.0) = search rules in
    rw no (said-no c.args.words.now c.args.numbers.now c.root_input-asked.ensures c.size_tested-t.ensures c.profile_tested.ensures (search rules))

pub returns : goal.returns
returns c = said-yes c.args.words.now c.args.numbers.now c.root_input-asked.ensures c.size_tested-t.ensures c.profile_tested.ensures c.in_ok-profile_tested.was
