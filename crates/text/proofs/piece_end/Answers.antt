use Rattle.std.proofs.Common.{ap, ◌∙◌, eqb}
use Rattle.std.specs.List.{position}
use Rattle.text.specs.Laws.{from_on}
use Rattle.text.proofs.PieceTurn.{ends_at}
use Rattle.text.proofs.piece_end.Goals as goal

pub returns-in-Some : goal.returns-in-Some
returns-in-Some c = let a = c.args in
    let p = ap (position (λ b. eqb b a.sep)) (from_on a.from a.s.now) in
    rw c.in-Some.is at (ends_at a.sep a.from a.s.now c.first.result c.requires (c.first.ensures ∙ p))

pub returns-in-None : goal.returns-in-None
returns-in-None c = let a = c.args in
    let p = ap (position (λ b. eqb b a.sep)) (from_on a.from a.s.now) in
    rw c.in-None.is at (ends_at a.sep a.from a.s.now c.first.result c.requires (c.first.ensures ∙ p))
