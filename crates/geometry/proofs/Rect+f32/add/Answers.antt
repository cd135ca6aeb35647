use Rattle.geometry.specs.Geometry.{plus}
use borrow.Author.Rules.{rules}
use Rattle.geometry.proofs.Rect+f32.add.Goals as goal

pub returns : goal.returns
unfolding plus
returns c = search rules
