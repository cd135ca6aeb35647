use Prim.Native.Nat.{◌+◌, ◌*◌}
use native.Mathlib.Omega.{arith}
use Rattle.lent.proofs.Reading.{get_d_past}
use borrow.Author.Rules.{rules}
use Rattle.index.proofs.list.bits_at.Goals as goal

pub returns : goal.returns
returns c = let a = c.args in
    get_d_past a.marks.now (2 * a.i + 1) _ (omega arith)
