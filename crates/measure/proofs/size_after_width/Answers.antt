use Rattle.measure.proofs.PageSize.{height_known, width-asked, whole-asked}
use borrow.Author.Rules.{rules}
use Rattle.measure.proofs.size_after_width.Goals as goal

pub returns-in-Some : goal.returns-in-Some
returns-in-Some c = height_known c.args.words.now c.args.numbers.now c.args.q c.args.axis c.args.found c.args.width c.args.pb c.args.height _ _ _ c.in-Some.is c.f32_max.ensures c.axes.ensures

pub returns-in-Horizontal : goal.returns-in-Horizontal
returns-in-Horizontal c = width-asked c.args.words.now c.args.numbers.now c.args.q c.args.axis c.args.found c.args.width c.args.pb c.args.height _ c.in_default.is c.in-Horizontal.is c.axes-in-Horizontal.ensures

pub returns-in-Both : goal.returns-in-Both
returns-in-Both c = whole-asked c.args.words.now c.args.numbers.now c.args.q c.args.axis c.args.found c.args.width c.args.pb c.args.height _ c.in_default.is c.in-Both.is c.measured-o.ensures
