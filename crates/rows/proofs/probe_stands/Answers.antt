use mathlib.Core.Path.{◌≡◌, refl, sym, ap, ◌∙◌}
use mathlib.Core.Bool.{beq}
use mathlib.Core.List.{List, ◌++◌}
use Prim.Native.Nat.{ℕ, ◌/◌, ◌%◌}
use lib.Dec.{eqb}
use borrow.Author.Tests.{eq-eqb, ne_eqb}
use lib.ListN.{get_or}
use lib.Ieee.{Float}
use Rattle.limits.specs.Limits.{same_f}
use Rattle.length.specs.Available.{definite}
use Rattle.util.specs.Maybe.{or_zero}
use Rattle.style.specs.Codes.{flag_at}
use Rattle.steps.specs.Row.{Row, row_numbers, row_words}
use Rattle.steps.specs.Probe.{probe_stands}
use Rattle.rows.proofs.Tests.{same_as, flag_as}
use borrow.Author.Rules.{rules}
use Rattle.rows.proofs.probe_stands.Goals as goal

kind_is : (ms y : List ℕ) (k j : ℕ) (r : Row) → ms ≡ row_words r ++ y → k ≡ j → eqb (get_or ms 1 0 / 32 % 4) k ≡ eqb (r.bits / 32 % 4) j
kind_is ms y k j r em e = rw (em, e) refl

-- all hold but the last, which decides
pub returns-then-bits-kind : goal.returns-then-bits-kind
unfolding probe_stands
returns-then-bits-kind c =
    λ r z y er em.
    let l : c.flag.result ≡ flag_at r.bits 4 = c.flag.ensures ∙ rw em refl in
    let w : c.same_bits.result ≡ same_f r.probe.width (or_zero (definite c.args.q.available)) = same_as _ _ _ _ _ c.same_bits.ensures (rw er refl) (c.unwrap_or.ensures ∙ ap or_zero c.into_option.ensures) in
    let h : c.same_bits-then-same_bits.result ≡ same_f r.probe.height (or_zero c.args.q.height) = same_as _ _ _ _ _ c.same_bits-then-same_bits.ensures (rw er refl) c.unwrap_or-then-same_bits.ensures in
    rw (← l, c.if-flag.true, ← w, c.if-same_bits.true, ← h, c.if-same_bits-2.true, sym (kind_is c.args.marks.now y _ _ r em c.available_kind-kind.ensures.is) ∙ eq-eqb _ _ c.if-bits-kind.true) (flag_as _ _ _ (flag_at r.bits 7) _ c.same_flag.ensures (c.flag-then-bits-kind.ensures ∙ rw em refl) c.is_some.ensures)

-- the first that does not hold
pub returns-else-bits-kind : goal.returns-else-bits-kind
unfolding probe_stands
returns-else-bits-kind c =
    λ r z y er em.
    let l : c.flag.result ≡ flag_at r.bits 4 = c.flag.ensures ∙ rw em refl in
    let w : c.same_bits.result ≡ same_f r.probe.width (or_zero (definite c.args.q.available)) = same_as _ _ _ _ _ c.same_bits.ensures (rw er refl) (c.unwrap_or.ensures ∙ ap or_zero c.into_option.ensures) in
    let h : c.same_bits-then-same_bits.result ≡ same_f r.probe.height (or_zero c.args.q.height) = same_as _ _ _ _ _ c.same_bits-then-same_bits.ensures (rw er refl) c.unwrap_or-then-same_bits.ensures in
    rw (← l, c.if-flag.true, ← w, c.if-same_bits.true, ← h, c.if-same_bits-2.true, sym (kind_is c.args.marks.now y _ _ r em c.available_kind-kind.ensures.is) ∙ ne_eqb _ _ c.if-bits-kind.false) (ne_eqb _ _ c.if-bits-kind.false)

pub returns-else-same_bits-2 : goal.returns-else-same_bits-2
unfolding probe_stands
returns-else-same_bits-2 c =
    λ r z y er em.
    let l : c.flag.result ≡ flag_at r.bits 4 = c.flag.ensures ∙ rw em refl in
    let w : c.same_bits.result ≡ same_f r.probe.width (or_zero (definite c.args.q.available)) = same_as _ _ _ _ _ c.same_bits.ensures (rw er refl) (c.unwrap_or.ensures ∙ ap or_zero c.into_option.ensures) in
    let h : c.same_bits-then-same_bits.result ≡ same_f r.probe.height (or_zero c.args.q.height) = same_as _ _ _ _ _ c.same_bits-then-same_bits.ensures (rw er refl) c.unwrap_or-then-same_bits.ensures in
    rw (← l, c.if-flag.true, ← w, c.if-same_bits.true, ← h, c.if-same_bits-2.false)

pub returns-else-same_bits : goal.returns-else-same_bits
unfolding probe_stands
returns-else-same_bits c =
    λ r z y er em.
    let l : c.flag.result ≡ flag_at r.bits 4 = c.flag.ensures ∙ rw em refl in
    let w : c.same_bits.result ≡ same_f r.probe.width (or_zero (definite c.args.q.available)) = same_as _ _ _ _ _ c.same_bits.ensures (rw er refl) (c.unwrap_or.ensures ∙ ap or_zero c.into_option.ensures) in
    rw (← l, c.if-flag.true, ← w, c.if-same_bits.false)

pub returns-else-flag : goal.returns-else-flag
unfolding probe_stands
returns-else-flag c =
    λ r z y er em.
    let l : c.flag.result ≡ flag_at r.bits 4 = c.flag.ensures ∙ rw em refl in
    rw (← l, c.if-flag.false)
