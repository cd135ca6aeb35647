use mathlib.Core.Path.{refl}
use Rattle.steps.specs.Kept.{laid_bits}
use borrow.Author.Rules.{rules}
use Rattle.rows.proofs.laid_bits.Goals as goal

pub returns : goal.returns
unfolding laid_bits
returns c = refl
