use mathlib.Core.Path.{refl}
use Rattle.coarse.specs.Coarse.{bad_out}
use Rattle.coarse.proofs.bad_out.Goals as goal

pub returns : goal.returns
unfolding bad_out
returns c = refl
