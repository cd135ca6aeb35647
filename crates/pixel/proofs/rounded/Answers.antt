use mathlib.Core.Path.{◌≡◌, sym, ap, subst}
use Prim.Native.Nat.{ℕ, ◌+◌, ◌*◌, ◌-◌, ◌/◌, ◌%◌, ◌^◌, ◌≤◌}
use native.Mathlib.Omega.{arith}
use borrow.Author.Rules.{rules}
use Rattle.pixel.specs.Floor.{bit_at, bit_room, shifted, shifted_in}
use Rattle.pixel.proofs.rounded.Goals as goal

pub overflow_add-result : goal.overflow_add-result
overflow_add-result c = let e = bit_at c.args.d c.requires.1 in
    let m = (bit_room c.args.d c.requires.1).0 in
    record { fits = omega (arith, e, m) }

pub overflow_sub-result : goal.overflow_sub-result
overflow_sub-result c = let e = bit_at c.args.d c.requires.1 in
    let m = (bit_room c.args.d c.requires.1).1 in
    omega (arith, e, m)

pub returns : goal.returns
returns c = let q = c.args.q in
    let d = c.args.d in
    let s = c.args.s in
    let e : (2 * q + 1 * 2 ^ d % 0x1_0000_0000 - s) / 2 ^ (d + 1) ≡ shifted q d s = ap (λ (w : ℕ). (2 * q + w - s) / 2 ^ (d + 1)) (bit_at d c.requires.1) in
    (e, subst (λ (n : ℕ). n ≤ 2 ^ 24) (sym e) (shifted_in q d s c.requires.0))
