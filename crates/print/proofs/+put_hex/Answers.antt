use native.Mathlib.Omega.{arith}
use mathlib.Core.List.{[], ◌∷◌}
use Prim.Native.Nat.{◌-◌, ◌/◌}
use Rattle.print.specs.Pen.{pen}
use Rattle.print.proofs.PenLaws.{nothing, then, more_hex, no_hex}
use Rattle.print.specs.Text.{hex_text}
use Rattle.print.proofs.+put_hex.Goals as goal

pub returns-then-places-eq0 : goal.returns-then-places-eq0
returns-then-places-eq0 t c = let a = c.args in
    rw (c.if-places-eq0.true, no_hex a.w) (nothing (pen a.out.now a.at))

pub put_hex-at-requires : goal.put_hex-at-requires
put_hex-at-requires t c = (omega (arith, c.decreases), tt)

pub returns : goal.returns
returns t c = let a = c.args in
    rw (more_hex a.places a.w (omega arith), ← c.glyph.ensures) (then (hex_text (a.places - 1) (a.w / 16)) (c.glyph.result ∷ []) (pen a.out.now a.at) (pen c.put_hex-at.new.out c.put_hex-at.result) (pen c.put.new.out c.put.result) c.put_hex-at.ensures c.put.ensures)
