use mathlib.Core.Path.{sym, ◌∙◌}
use Rattle.face.proofs.Calls.{scrolled, not_finite, stays, at_zero}
use borrow.Author.Rules.{rules}
use Rattle.face.proofs.mearrasot_scroll.Goals as goal

pub returns-in-Ok : goal.returns-in-Ok
returns-in-Ok c = scrolled (sym c.scroll-a.ensures.answer_is ∙ c.in-Ok.is) (at_zero _) (c.place_word.ensures _) c.halves.ensures

pub returns-in-Err : goal.returns-in-Err
returns-in-Err c = scrolled (sym c.scroll-a.ensures.answer_is ∙ c.in-Err.is) (not_finite _) (stays _ _) c.halves-in-Err.ensures
