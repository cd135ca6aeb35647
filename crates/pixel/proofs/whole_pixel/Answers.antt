use mathlib.Core.Path.{◌≡◌, sym, ap, subst, ◌∙◌}
use Prim.Native.Nat.{ℕ, zero, suc, ◌^◌, ◌<◌, ◌≤◌}
use native.Mathlib.Omega.{arith}
use lib.IntN.{ℤ, pos, neg_ℤ, ◌-ℤ◌, +ℤ_idl}
use lib.Signed.{mag}
use lib.Ieee.{binary32}
use lib.Ieee.Bits.{to_bits-lt}
use mir.Syntax.{w32}
use mir.Val.{SFits, to_z}
use mir.ValLaws.{to_z_pos, to_z-of_z}
use borrow.Author.Rules.{rules}
use Rattle.limits.specs.Laws.{small_finite}
use Rattle.pixel.specs.Value.{Edge, no_nan, field_in}
use Rattle.pixel.proofs.Value.{under_half, answer_up, answer_down}
use Rattle.pixel.proofs.whole_pixel.Goals as goal

-- ---- 0 - n as an i32

small : (n : ℕ) → n ≤ 2 ^ 24 → n < 2 ^ 31
small n h = omega arith

minus_is : (n : ℕ) → n ≤ 2 ^ 24 → pos 0 -ℤ to_z w32 n ≡ neg_ℤ (pos n)
minus_is n h = ap (λ (z : ℤ). pos 0 -ℤ z) (to_z_pos w32 n (small n h)) ∙ +ℤ_idl (neg_ℤ (pos n))

in-range : (n : ℕ) → n ≤ 2 ^ 24 → mag (neg_ℤ (pos n)) < 2 ^ 31
in-range zero h = omega arith
in-range (suc n) h = omega arith

minus-fits : (n : ℕ) → n ≤ 2 ^ 24 → SFits w32 (pos 0 -ℤ to_z w32 n)
minus-fits n h = subst (λ (z : ℤ). SFits w32 z) (sym (minus_is n h)) (record { sfits = in-range n h })

-- ---- the goals

pub float_to_bits-bits : goal.float_to_bits-bits
float_to_bits-bits c = no_nan c.args.e (small_finite c.args.e c.requires)

pub returns-then-field-lt126 : goal.returns-then-field-lt126
returns-then-field-lt126 c =
    let g : Edge c.args.e = (search rules, c.requires) in
    under_half c.args.e g c.if-field-lt126.true

pub overflow_sub-field : goal.overflow_sub-field
overflow_sub-field c =
    let g : Edge c.args.e = (search rules, c.requires) in
    field_in c.args.e g

pub rounded-n-requires : goal.rounded-n-requires
rounded-n-requires c =
    let g : Edge c.args.e = (search rules, c.requires) in
    let w = to_bits-lt binary32 c.args.e g.0 in
    let l = c.if-field-lt126.false in
    (omega arith, omega arith, omega (arith, w))

pub overflow_sub-result : goal.overflow_sub-result
overflow_sub-result c = minus-fits c.rounded-n.result c.rounded-n.ensures.1

pub returns-then-sign-eq0 : goal.returns-then-sign-eq0
returns-then-sign-eq0 c =
    let g : Edge c.args.e = (search rules, c.requires) in
    let r = c.rounded-n in
    to_z_pos w32 r.result (small r.result r.ensures.1)
    ∙ answer_up c.args.e r.result g c.if-field-lt126.false c.if-sign-eq0.true r.ensures.0

pub returns-else-sign-eq0 : goal.returns-else-sign-eq0
returns-else-sign-eq0 c =
    let g : Edge c.args.e = (search rules, c.requires) in
    let r = c.rounded-n in
    to_z-of_z w32 (pos 0 -ℤ to_z w32 r.result) (minus-fits r.result r.ensures.1)
    ∙ minus_is r.result r.ensures.1
    ∙ answer_down c.args.e r.result g c.if-field-lt126.false c.if-sign-eq0.false r.ensures.0
