use Rattle.face.proofs.AsProfile.{profiled}
use Rattle.face.proofs.Calls.{answered}
use Rattle.profiled.specs.Profiled.{profiled_relayout_result}
use Rattle.steps.specs.Question.{root_input}
use Rattle.steps.specs.Results.{relayout_result}
use mathlib.Core.Path.{sym, ap, ◌∙◌}
use borrow.Author.Rules.{rules}
use Rattle.face.proofs.mearrasot_relayout.Goals as goal

pub returns-then-as_profile : goal.returns-then-as_profile
returns-then-as_profile c = rw (sym c.as_profile.ensures ∙ c.if-as_profile.true) (profiled (ap (profiled_relayout_result _ _ _ _ _ _ _) (ap root_input c.question-q.ensures)) c.relayout_profiled-a.ensures c.packed_profile.ensures)

pub returns : goal.returns
returns c = rw (sym c.as_profile.ensures ∙ c.if-as_profile.false) (answered (ap (relayout_result _ _ _ _ _ _ _) (ap root_input c.question-q.ensures)) c.relayout-a.ensures c.packed.ensures)
