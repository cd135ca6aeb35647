use mathlib.Core.Path.{sym}
use native.Mathlib.Omega.{arith}
use Rattle.style.specs.Planes.{number_past}
use borrow.Author.Rules.{rules}
use Rattle.style.proofs.number.Goals as goal

pub returns-then-i-n : goal.returns-then-i-n
returns-then-i-n c = c.number_in.ensures

pub returns : goal.returns
returns c = let a = c.args in
    sym (number_past a.numbers.now a.i a.f (omega arith))
