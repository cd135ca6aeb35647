use Rattle.face.proofs.AsProfile.{said}
use Rattle.profiled.specs.Profiled.{yes_or_no}
use Rattle.steps.specs.Question.{root_input}
use mathlib.Core.Path.{ap, ◌∙◌}
use borrow.Author.Rules.{rules}
use Rattle.face.proofs.mearrasot_in_profile.Goals as goal

pub returns : goal.returns
returns c = said (c.in_profile-a.ensures.answer_is ∙ ap (yes_or_no _ _) (ap root_input c.question-q.ensures)) c.packed_profile.ensures
