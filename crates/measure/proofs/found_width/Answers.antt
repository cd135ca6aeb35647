use Rattle.std.specs.Prelude.{Option, Float}
use mathlib.Core.Path.{refl, sym, ap, ◌∙◌}
use native.Mathlib.Omega.{arith}
use Rattle.measure.specs.Dry.{found_t}
use Rattle.measure.proofs.Sites.{facts}
use Rattle.measure.proofs.OneNode.{inner-found, known_found}
use borrow.Author.Rules.{rules}
use Rattle.measure.proofs.found_width.Goals as goal

pub at-r-requires : goal.at-r-requires
at-r-requires c = let f = facts _ _ _ _ c.requires in (f.words_some, f.reach)

pub slice_bounds-widest-count : goal.slice_bounds-widest-count
slice_bounds-widest-count c = let f = facts _ _ _ _ c.requires in omega arith

pub slice_bounds-widest-start : goal.slice_bounds-widest-start
slice_bounds-widest-start c = let f = facts _ _ _ _ c.requires in omega arith

pub widest-most-requires : goal.widest-most-requires
widest-most-requires c = let f = facts _ _ _ _ c.requires in f.kids

pub returns-in-Some : goal.returns-in-Some
returns-in-Some c = λ t h. known_found c.args.words.now c.args.numbers.now c.args.q _ _ refl t h ∙ ap (λ (z : Option Float). found_t t c.args.q z) (sym c.in-Some.is)

pub returns-in-None : goal.returns-in-None
returns-in-None c = λ t h. inner-found c.args.words.now c.args.numbers.now 0 _ c.at-r.ensures.style c.args.q _ _ _ c.available_inside-room.ensures c.widest-most.ensures c.width_from.ensures t h ∙ ap (λ (z : Option Float). found_t t c.args.q z) (sym c.in-None.is)
