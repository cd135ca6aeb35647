use Rattle.steps.specs.Stack.{offset_by}
use borrow.Author.Rules.{rules}
use Rattle.stacking.proofs.item.offset_by.Goals as goal

pub returns-in-Static : goal.returns-in-Static
unfolding offset_by
returns-in-Static c = rw c.in-Static.is

pub returns-in-Relative : goal.returns-in-Relative
unfolding offset_by
returns-in-Relative c = rw (c.resolve_relative_offset.ensures, c.in-Relative.is)

pub returns-in-Absolute : goal.returns-in-Absolute
unfolding offset_by
returns-in-Absolute c = rw c.in-Absolute.is
