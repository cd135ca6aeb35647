use Rattle.face.proofs.AsProfile.{asked_so, sized_profiled}
use Rattle.face.proofs.Calls.{asked, sized, refused}
use mathlib.Core.Path.{sym, ◌∙◌}
use borrow.Author.Rules.{rules}
use Rattle.face.proofs.mearrasot_size.Goals as goal

pub returns-then-as_profile : goal.returns-then-as_profile
returns-then-as_profile c = rw (sym c.as_profile.ensures ∙ c.if-as_profile.true) (sized_profiled (asked_so _ _ c.question-q.ensures c.axis.ensures) c.size_as_profile.ensures)

pub returns-in-Ok : goal.returns-in-Ok
returns-in-Ok c = rw (sym c.as_profile.ensures ∙ c.if-as_profile.false) (sized (sym (c.size_question-a.ensures.answer_is ∙ asked _ _ c.question-q.ensures c.axis-2.ensures) ∙ c.in-Ok.is) c.packed.ensures)

pub returns-in-Err : goal.returns-in-Err
returns-in-Err c = rw (sym c.as_profile.ensures ∙ c.if-as_profile.false) (refused (sym (c.size_question-a.ensures.answer_is ∙ asked _ _ c.question-q.ensures c.axis-2.ensures) ∙ c.in-Err.is) c.packed-in-Err.ensures)
