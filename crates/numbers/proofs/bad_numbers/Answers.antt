use Rattle.steps.specs.Noes.{bad_numbers}
use borrow.Author.Rules.{rules}
use Rattle.numbers.proofs.bad_numbers.Goals as goal

pub returns-then-some_bad_length : goal.returns-then-some_bad_length
unfolding bad_numbers
returns-then-some_bad_length c = rw (← c.some_bad_length.ensures, c.if-some_bad_length.true)

pub returns-then-bad_ratio : goal.returns-then-bad_ratio
unfolding bad_numbers
returns-then-bad_ratio c = rw (← c.some_bad_length.ensures, ← c.number_in.ensures, ← c.bad_ratio.ensures, c.if-bad_ratio.true, c.if-some_bad_length.false)

pub returns-then-bad_pixels : goal.returns-then-bad_pixels
unfolding bad_numbers
returns-then-bad_pixels c = rw (← c.some_bad_length.ensures, ← c.number_in.ensures, ← c.bad_ratio.ensures, ← c.number_in-2.ensures, ← c.bad_pixels.ensures, c.if-bad_pixels.true, c.if-bad_ratio.false, c.if-some_bad_length.false)

pub returns-then-bad_pixels-2 : goal.returns-then-bad_pixels-2
unfolding bad_numbers
returns-then-bad_pixels-2 c = rw (← c.some_bad_length.ensures, ← c.number_in.ensures, ← c.bad_ratio.ensures, ← c.number_in-2.ensures, ← c.bad_pixels.ensures, ← c.number_in-least.ensures, ← c.bad_pixels-2.ensures, c.if-bad_pixels-2.true, c.if-bad_pixels.false, c.if-bad_ratio.false, c.if-some_bad_length.false)

pub returns-then-bad_pixels-3 : goal.returns-then-bad_pixels-3
unfolding bad_numbers
returns-then-bad_pixels-3 c = rw (← c.some_bad_length.ensures, ← c.number_in.ensures, ← c.bad_ratio.ensures, ← c.number_in-2.ensures, ← c.bad_pixels.ensures, ← c.number_in-least.ensures, ← c.bad_pixels-2.ensures, ← c.number_in-most.ensures, ← c.bad_pixels-3.ensures, c.if-bad_pixels-3.true, c.if-bad_pixels-2.false, c.if-bad_pixels.false, c.if-bad_ratio.false, c.if-some_bad_length.false)

pub returns-then-bad_pixels-4 : goal.returns-then-bad_pixels-4
unfolding bad_numbers
returns-then-bad_pixels-4 c = rw (← c.some_bad_length.ensures, ← c.number_in.ensures, ← c.bad_ratio.ensures, ← c.number_in-2.ensures, ← c.bad_pixels.ensures, ← c.number_in-least.ensures, ← c.bad_pixels-2.ensures, ← c.number_in-most.ensures, ← c.bad_pixels-3.ensures, ← c.number_in-height.ensures, ← c.bad_pixels-4.ensures, c.if-bad_pixels-4.true, c.if-bad_pixels-3.false, c.if-bad_pixels-2.false, c.if-bad_pixels.false, c.if-bad_ratio.false, c.if-some_bad_length.false)

pub returns-then-most-least : goal.returns-then-most-least
unfolding bad_numbers
returns-then-most-least c = rw (← c.some_bad_length.ensures, ← c.number_in.ensures, ← c.bad_ratio.ensures, ← c.number_in-2.ensures, ← c.bad_pixels.ensures, ← c.number_in-least.ensures, ← c.bad_pixels-2.ensures, ← c.number_in-most.ensures, ← c.bad_pixels-3.ensures, ← c.number_in-height.ensures, ← c.bad_pixels-4.ensures, c.if-bad_pixels-4.false, c.if-bad_pixels-3.false, c.if-bad_pixels-2.false, c.if-bad_pixels.false, c.if-bad_ratio.false, c.if-some_bad_length.false, c.if-most-least.true)

pub returns : goal.returns
unfolding bad_numbers
returns c = rw (← c.some_bad_length.ensures, ← c.number_in.ensures, ← c.bad_ratio.ensures, ← c.number_in-2.ensures, ← c.bad_pixels.ensures, ← c.number_in-least.ensures, ← c.bad_pixels-2.ensures, ← c.number_in-most.ensures, ← c.bad_pixels-3.ensures, ← c.number_in-height.ensures, ← c.bad_pixels-4.ensures, c.if-bad_pixels-4.false, c.if-bad_pixels-3.false, c.if-bad_pixels-2.false, c.if-bad_pixels.false, c.if-bad_ratio.false, c.if-some_bad_length.false, ← c.number_in-3.ensures, ← c.in_range.ensures, c.if-most-least.false)
