use mathlib.Core.Path.{◌≡◌, refl, sym, ◌∙◌, ap}
use Rattle.day.specs.Day.{asked}
use borrow.Author.Rules.{rules}
use Rattle.day.proofs.with.Reads as with-reads
use Rattle.day.proofs.ask_anew.Goals as goal

pub returns-in-Width : goal.returns-in-Width
unfolding asked
returns-in-Width c = rw c.in-Width.is c.with.ensures

pub returns-in-Height : goal.returns-in-Height
unfolding asked
returns-in-Height c = rw c.in-Height.is c.with-in-Height.ensures

pub returns-in-Parent : goal.returns-in-Parent
unfolding asked
returns-in-Parent c = rw c.in-Parent.is c.with-in-Parent.ensures

pub returns-in-Available : goal.returns-in-Available
unfolding asked
returns-in-Available c = rw c.in-Available.is c.with-in-Available.ensures
