use Rattle.style.specs.declared.Style.{Style}
use mathlib.Core.Path.{refl, sym, ap, ◌∙◌}
use Prim.Native.Nat.{◌+◌, ◌*◌, ◌-◌, ◌≤◌, ℕ, ◌<◌}
use native.Mathlib.Omega.{arith}
use borrow.Author.Rules.{rules}
use lib.ListN.{length}
use Rattle.tree.specs.Tree.{Forest}
use Rattle.steps.specs.Page.{Site}
use Rattle.measure.specs.Contract.{SitesF}
use Rattle.measure.proofs.Sites.{facts}
use Rattle.measure.proofs.Loops.{WideRest, WideTurn, wide_begin, wide_turn, wide_end}
use Rattle.measure.proofs.OneNode.{width-at-once, width-inside, nothing-widened, outer-widened, probe-widened}
use Rattle.widths.specs.AtOnce.{width_at_once}
use Rattle.measure.proofs.+widened_widest_width_of.Given as goal

abbrev pub decreases-widened : goal.decreases-widened
decreases-widened l = 3 * l.depth + 1

abbrev pub decreases-widest : goal.decreases-widest
decreases-widest l = 3 * l.depth + 2

abbrev pub decreases-width_of : goal.decreases-width_of
decreases-width_of l = 3 * l.depth

abbrev pub invariant-widest-loop-i : goal.invariant-widest-loop-i
invariant-widest-loop-i l = (4 * l.i ≤ length l.words) × ((ts : Forest Site) → SitesF l.words l.numbers l.base ts → WideRest l.words l.numbers l.base l.a ts l.most l.i)

abbrev pub decreases-widest-loop-i : goal.decreases-widest-loop-i
decreases-widest-loop-i l = length l.words - l.i
