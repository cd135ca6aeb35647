use mathlib.Core.Path.{◌≡◌, sym, ◌∙◌}
use Rattle.std.specs.Prelude.{Result, Ok, Err, ℕ}
use Rattle.profiled.specs.declared.ProfileRefusal.{ProfileRefusal}
use Rattle.profiled.specs.declared.ProfileRefusal.TheVariants.{Plain}
use Rattle.profiled.specs.Profiled.{plainly}
use Rattle.profiled.proofs.Testing.{few_early, layout_refused, layout_accepted}
use borrow.Author.Rules.{rules}
use Rattle.profiled.proofs.layout_profiled.Goals as goal

pub profile_tested-requires : goal.profile_tested-requires
profile_tested-requires c = λ e. few_early c.args.words.now c.args.numbers.now c.args.rows.now c.args.marks.now _ (sym c.early_tested-t.ensures ∙ e)

pub returns-in_err-profile_tested : goal.returns-in_err-profile_tested
returns-in_err-profile_tested c =
    let no : ◌≡◌ {A = Result ℕ ProfileRefusal} c.from_residual.result (Err c.in_err-profile_tested.field-0.0) = search rules in
    rw no (layout_refused c.args.words.now c.args.numbers.now c.args.rows.now c.args.marks.now c.args.pairs.now c.args.triples.now c.root_input-asked.ensures c.early_tested-t.ensures c.profile_tested.ensures (search rules))

pub returns-in_err-layout : goal.returns-in_err-layout
unfolding plainly
returns-in_err-layout c =
    let no : ◌≡◌ {A = Result ℕ ProfileRefusal} c.from_residual-in_err-layout.result (plainly c.layout.result) = search rules in
    rw no (layout_accepted c.args.words.now c.args.numbers.now c.args.rows.now c.args.marks.now c.args.pairs.now c.args.triples.now c.root_input-asked.ensures c.early_tested-t.ensures c.profile_tested.ensures c.in_ok-profile_tested.was c.layout.ensures)

pub returns : goal.returns
unfolding plainly
returns c =
    let yes : ◌≡◌ {A = Result ℕ ProfileRefusal} (Ok c.in_ok-layout.field-0) (plainly c.layout.result) = search rules in
    rw yes (layout_accepted c.args.words.now c.args.numbers.now c.args.rows.now c.args.marks.now c.args.pairs.now c.args.triples.now c.root_input-asked.ensures c.early_tested-t.ensures c.profile_tested.ensures c.in_ok-profile_tested.was c.layout.ensures)
