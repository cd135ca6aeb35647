use Rattle.alignment.specs.Align.{room_of}
use borrow.Author.Rules.{rules}
use Rattle.alignment.proofs.room_of.Goals as goal

pub returns-then-free : goal.returns-then-free
unfolding room_of
returns-then-free c = rw (c.if-safe.true, c.if-free.true)

pub returns-else-free : goal.returns-else-free
unfolding room_of
returns-else-free c = rw (c.if-safe.true, c.if-free.false)

pub returns-else-safe : goal.returns-else-safe
unfolding room_of
returns-else-safe c = search rules
