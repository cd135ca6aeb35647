use Rattle.measure.proofs.PageSize.{both-known, width-enough, go_on}
use borrow.Author.Rules.{rules}
use Rattle.measure.proofs.size_with_width.Goals as goal

pub returns-in-Some : goal.returns-in-Some
returns-in-Some c = both-known c.args.words.now c.args.numbers.now c.args.q c.args.axis c.args.width c.args.height _ _ c.in-Some.is c.axes.ensures

pub returns-in-Horizontal : goal.returns-in-Horizontal
returns-in-Horizontal c = width-enough c.args.words.now c.args.numbers.now c.args.q c.args.axis c.args.width c.args.height _ c.in_default.is c.in-Horizontal.is c.axes-in-Horizontal.ensures

pub returns-in-Both : goal.returns-in-Both
returns-in-Both c = go_on c.args.words.now c.args.numbers.now c.args.q c.args.axis c.args.width c.args.height _ c.in_default.is c.in-Both.is c.size_below.ensures
