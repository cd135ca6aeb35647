use mathlib.Core.Path.{◌≡◌, sym, ◌∙◌}
use mathlib.Core.Bool.{false}
use borrow.Author.Rules.{rules}
use Rattle.pixel.specs.Value.{Edge}
use Rattle.pixel.proofs.Ranges.{read_back_lem, read_between}
use Rattle.coarse.specs.Panel.{too_far}
use Rattle.coarse.specs.Spans.{pixel_span}
use Rattle.coarse.proofs.Spans.{near_in, far_in}
use Rattle.coarse.proofs.pixel_span.Goals as goal

pub returns-then-too_far : goal.returns-then-too_far
unfolding pixel_span
returns-then-too_far c = rw (← c.span-s.ensures, ← c.too_far.ensures, c.if-too_far.true)

pub whole_pixel-requires : goal.whole_pixel-requires
whole_pixel-requires c = near_in _ (sym c.too_far.ensures ∙ c.if-too_far.false)

pub pixels_between-requires : goal.pixels_between-requires
pixels_between-requires c = let in-range = sym c.too_far.ensures ∙ c.if-too_far.false in
    (near_in _ in-range, far_in _ in-range)

pub returns : goal.returns
unfolding pixel_span
returns c = let s = c.span-s.result in
    let in-range : too_far s ≡ false = sym c.too_far.ensures ∙ c.if-too_far.false in
    let start : Edge s.start = (search rules, near_in s in-range) in
    let end : Edge s.end = (search rules, far_in s in-range) in
    rw (← c.span-s.ensures, in-range, read_back_lem _ _ start c.whole_pixel.ensures, read_between _ _ _ start end c.pixels_between.ensures)
