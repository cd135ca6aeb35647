use mathlib.Core.Path.{◌≡◌}
use Rattle.std.specs.Prelude.{Result, Err, ⊤}
use Rattle.coarse.specs.declared.CoarseRefusal.{CoarseRefusal}
use Rattle.coarse.specs.declared.CoarseRefusal.TheVariants.{Plain}
use mathlib.Core.Path.{refl, sym, ◌∙◌}
use Rattle.coarse.specs.Coarse.{by_edge}
use Rattle.coarse.proofs.Testing.{few, tree-sound, bad-length, rows-refused, rows-passed}
use borrow.Author.Rules.{rules}
use Rattle.coarse.proofs.coarse_tested.Goals as goal

pub returns-then-bad_out : goal.returns-then-bad_out
returns-then-bad_out c = bad-length _ _ _ _ (sym c.bad_out.ensures ∙ c.if-bad_out.true)

pub returns-in_err-rows_tested : goal.returns-in_err-rows_tested
returns-in_err-rows_tested c =
    let no : ◌≡◌ {A = Result ⊤ CoarseRefusal} c.from_residual.result (Err (Plain c.in_err-rows_tested.field-0.0)) = search rules in
    rw no (let fits = sym c.bad_out.ensures ∙ c.if-bad_out.false in
    rows-refused _ _ _ _ fits _ (sym c.rows_tested.ensures ∙ search rules))

pub first_too_far-requires : goal.first_too_far-requires
first_too_far-requires c = let e = sym c.rows_tested.ensures ∙ c.in_ok-rows_tested.was in
    record { few = few _ _ _ e; tree = (refl, tree-sound _ _ _ e) }

pub returns-in-Some : goal.returns-in-Some
unfolding by_edge
returns-in-Some c = let fits = sym c.bad_out.ensures ∙ c.if-bad_out.false in
    rows-passed _ _ _ _ fits _ (sym c.rows_tested.ensures ∙ c.in_ok-rows_tested.was) (sym c.first_too_far.ensures ∙ c.in-Some.is)

pub returns : goal.returns
unfolding by_edge
returns c = let fits = sym c.bad_out.ensures ∙ c.if-bad_out.false in
    rows-passed _ _ _ _ fits _ (sym c.rows_tested.ensures ∙ c.in_ok-rows_tested.was) (sym c.first_too_far.ensures ∙ c.in_default.is)
