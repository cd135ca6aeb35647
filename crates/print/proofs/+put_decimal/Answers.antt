use native.Mathlib.Omega.{arith}
use mathlib.Core.List.{[], ◌∷◌}
use Prim.Native.Nat.{◌-◌, ◌/◌}
use Rattle.print.specs.Pen.{pen}
use Rattle.print.proofs.PenLaws.{nothing, then, one_digit, more_digits, no_digits}
use Rattle.print.specs.Text.{decimal}
use Rattle.print.proofs.+put_decimal.Goals as goal

pub returns-then-places-eq0 : goal.returns-then-places-eq0
returns-then-places-eq0 t c = let a = c.args in
    rw (c.if-places-eq0.true, no_digits a.n) (nothing (pen a.out.now a.at))

pub returns-then-n-lt10 : goal.returns-then-n-lt10
returns-then-n-lt10 t c = let a = c.args in
    rw (one_digit a.places a.n (omega arith) c.if-n-lt10.true, ← c.glyph.ensures) c.put.ensures

pub put_decimal-at-requires : goal.put_decimal-at-requires
put_decimal-at-requires t c = (omega (arith, c.decreases), tt)

pub returns : goal.returns
returns t c = let a = c.args in
    rw (more_digits a.places a.n (omega arith) c.if-n-lt10.false, ← c.glyph-2.ensures) (then (decimal (a.places - 1) (a.n / 10)) (c.glyph-2.result ∷ []) (pen a.out.now a.at) (pen c.put_decimal-at.new.out c.put_decimal-at.result) (pen c.put-2.new.out c.put-2.result) c.put_decimal-at.ensures c.put-2.ensures)
