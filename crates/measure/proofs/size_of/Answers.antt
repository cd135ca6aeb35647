use Rattle.measure.proofs.Sites.{facts}
use Rattle.measure.proofs.PageSize.{size-open, size-known}
use borrow.Author.Rules.{rules}
use Rattle.measure.proofs.size_of.Goals as goal

pub at-r-requires : goal.at-r-requires
at-r-requires c = let f = facts _ _ _ _ c.requires in (f.words_some, f.reach)

pub returns-in-None : goal.returns-in-None
returns-in-None c = size-open c.args.words.now c.args.numbers.now c.args.q c.args.axis _ _ _ c.at-r.ensures.style c.sizing_without_height_basis-z.ensures _ c.styled_based_known_dimensions-known.ensures c.in-None.is c.size_below.ensures

pub returns-in-Some : goal.returns-in-Some
returns-in-Some c = size-known c.args.words.now c.args.numbers.now c.args.q c.args.axis _ _ _ c.at-r.ensures.style c.sizing_without_height_basis-z.ensures _ _ c.styled_based_known_dimensions-known.ensures c.in-Some.is c.size_with_width.ensures
