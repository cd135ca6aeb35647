use Rattle.style.specs.Style.{style_at}
use borrow.Author.Rules.{rules}
use Rattle.heights.proofs.finish_at.Goals as goal

pub returns : goal.returns
returns c = let a = c.args in
    λ f k h. c.finish.ensures (style_at a.words.now 0 a.numbers.now a.base) a.input f k c.tail_at.ensures h
