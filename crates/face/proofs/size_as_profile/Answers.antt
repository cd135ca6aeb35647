use Rattle.face.proofs.AsProfile.{profile_sized, profile_refused}
use mathlib.Core.Path.{sym, ◌∙◌}
use borrow.Author.Rules.{rules}
use Rattle.face.proofs.size_as_profile.Goals as goal

pub returns-in-Ok : goal.returns-in-Ok
returns-in-Ok c = profile_sized (sym c.size_profiled-a.ensures.answer_is ∙ c.in-Ok.is) c.halves.ensures

pub returns-in-Err : goal.returns-in-Err
returns-in-Err c = profile_refused (sym c.size_profiled-a.ensures.answer_is ∙ c.in-Err.is) c.packed_profile.ensures
