use Rattle.geometry.specs.Geometry.{sum_axes}
use borrow.Author.Rules.{rules}
use Rattle.geometry.proofs.Rect+f32.sum_axes.Goals as goal

pub returns : goal.returns
unfolding sum_axes
returns c = search rules
