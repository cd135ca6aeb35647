use mathlib.Core.Path.{sym}
use Rattle.measure.proofs.Sites.{facts}
use Rattle.measure.proofs.PageSize.{rest_of}
use borrow.Author.Rules.{rules}
use Rattle.measure.proofs.size_below.Goals as goal

pub at-r-requires : goal.at-r-requires
at-r-requires c = let f = facts _ _ _ _ c.requires in (f.words_some, f.reach)

pub returns : goal.returns
returns c = rest_of c.args.words.now c.args.numbers.now c.args.q c.args.axis _ _ _ c.at-r.ensures.style c.sizing_without_height_basis-z.ensures _ _ _ _ (c.known_dimensions-known.ensures _ (sym c.ratio.ensures)) c.found_width-found.ensures c.unwrap_or-w.ensures c.vertical_axis_sum-pb.ensures c.size_after_width.ensures
