use Prim.Native.Nat.{◌+◌, ◌*◌}
use native.Mathlib.Omega.{arith}
use Rattle.lent.proofs.Reading.{get_d_any, get_d_past}
use Rattle.edges.proofs.row_number.Goals as goal

pub returns-then-at-rows : goal.returns-then-at-rows
returns-then-at-rows c = let a = c.args in
    get_d_any a.rows.now (16 * a.i + a.f) _ _ (omega arith)

pub returns-else-at-rows : goal.returns-else-at-rows
returns-else-at-rows c = let a = c.args in
    get_d_past a.rows.now (16 * a.i + a.f) _ (omega arith)

pub returns-else-i-rows : goal.returns-else-i-rows
returns-else-i-rows c = let a = c.args in
    get_d_past a.rows.now (16 * a.i + a.f) _ (omega arith)
