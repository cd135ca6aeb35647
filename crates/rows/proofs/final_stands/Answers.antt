use Rattle.std.specs.Prelude.{is_some}
use mathlib.Core.Path.{◌≡◌, refl, ap, ◌∙◌}
use mathlib.Core.Bool.{Bool, beq}
use mathlib.Core.List.{List, ◌++◌}
use Prim.Native.Nat.{ℕ}
use lib.Ieee.{Float}
use lib.ListN.{get_or}
use Rattle.limits.specs.Limits.{same_f}
use Rattle.util.specs.Maybe.{or_zero}
use Rattle.style.specs.Codes.{flag_at}
use Rattle.steps.specs.Row.{Row, row_numbers, row_words, is_laid}
use Rattle.steps.specs.Kept.{final_stands}
use Rattle.rows.proofs.Tests.{same_as, flag_as}
use borrow.Author.Rules.{rules}
use Rattle.rows.proofs.final_stands.Goals as goal

laid_is : (v : Bool) (ms y : List ℕ) (r : Row) → v ≡ flag_at (get_or ms 1 0) 0 → ms ≡ row_words r ++ y → v ≡ is_laid r
unfolding is_laid
laid_is v ms y r e em = e ∙ rw em refl

-- all hold but the last, which decides
pub returns-then-same_bits-4 : goal.returns-then-same_bits-4
unfolding final_stands
returns-then-same_bits-4 c =
    λ r z y er em.
    let l : c.flag.result ≡ is_laid r = laid_is _ _ y r c.flag.ensures em in
    let w : c.same_bits.result ≡ same_f r.asked.width (or_zero c.args.q.known.width) = same_as _ _ _ _ _ c.same_bits.ensures (rw er refl) c.unwrap_or.ensures in
    let h : c.same_bits-then-same_bits.result ≡ same_f r.asked.height (or_zero c.args.q.known.height) = same_as _ _ _ _ _ c.same_bits-then-same_bits.ensures (rw er refl) c.unwrap_or-then-same_bits.ensures in
    let b : c.same_flag.result ≡ beq (flag_at r.bits 3) (is_some c.args.q.known.height) = flag_as _ _ _ (flag_at r.bits 3) _ c.same_flag.ensures (c.flag-then-same_bits-2.ensures ∙ rw em refl) c.is_some.ensures in
    let p : c.same_bits-then-same_flag.result ≡ same_f r.asked.parent (or_zero c.args.q.parent) = same_as _ _ _ _ _ c.same_bits-then-same_flag.ensures (rw er refl) c.unwrap_or-then-same_flag.ensures in
    let s : c.same_bits-then-same_bits-3.result ≡ same_f r.asked.basis (or_zero c.args.q.basis) = same_as _ _ _ _ _ c.same_bits-then-same_bits-3.ensures (rw er refl) c.unwrap_or-then-same_bits-3.ensures in
    rw (← l, c.if-flag.true, ← w, c.if-same_bits.true, ← h, c.if-same_bits-2.true, ← b, c.if-same_flag.true, ← p, c.if-same_bits-3.true, ← s, c.if-same_bits-4.true) (flag_as _ _ _ (flag_at r.bits 8) _ c.same_flag-then-same_bits-4.ensures (c.flag-then-same_bits-4.ensures ∙ rw em refl) c.is_some-then-same_bits-4.ensures)

-- the first that does not hold
pub returns-else-same_bits-4 : goal.returns-else-same_bits-4
unfolding final_stands
returns-else-same_bits-4 c =
    λ r z y er em.
    let l : c.flag.result ≡ is_laid r = laid_is _ _ y r c.flag.ensures em in
    let w : c.same_bits.result ≡ same_f r.asked.width (or_zero c.args.q.known.width) = same_as _ _ _ _ _ c.same_bits.ensures (rw er refl) c.unwrap_or.ensures in
    let h : c.same_bits-then-same_bits.result ≡ same_f r.asked.height (or_zero c.args.q.known.height) = same_as _ _ _ _ _ c.same_bits-then-same_bits.ensures (rw er refl) c.unwrap_or-then-same_bits.ensures in
    let b : c.same_flag.result ≡ beq (flag_at r.bits 3) (is_some c.args.q.known.height) = flag_as _ _ _ (flag_at r.bits 3) _ c.same_flag.ensures (c.flag-then-same_bits-2.ensures ∙ rw em refl) c.is_some.ensures in
    let p : c.same_bits-then-same_flag.result ≡ same_f r.asked.parent (or_zero c.args.q.parent) = same_as _ _ _ _ _ c.same_bits-then-same_flag.ensures (rw er refl) c.unwrap_or-then-same_flag.ensures in
    let s : c.same_bits-then-same_bits-3.result ≡ same_f r.asked.basis (or_zero c.args.q.basis) = same_as _ _ _ _ _ c.same_bits-then-same_bits-3.ensures (rw er refl) c.unwrap_or-then-same_bits-3.ensures in
    rw (← l, c.if-flag.true, ← w, c.if-same_bits.true, ← h, c.if-same_bits-2.true, ← b, c.if-same_flag.true, ← p, c.if-same_bits-3.true, ← s, c.if-same_bits-4.false)

pub returns-else-same_bits-3 : goal.returns-else-same_bits-3
unfolding final_stands
returns-else-same_bits-3 c =
    λ r z y er em.
    let l : c.flag.result ≡ is_laid r = laid_is _ _ y r c.flag.ensures em in
    let w : c.same_bits.result ≡ same_f r.asked.width (or_zero c.args.q.known.width) = same_as _ _ _ _ _ c.same_bits.ensures (rw er refl) c.unwrap_or.ensures in
    let h : c.same_bits-then-same_bits.result ≡ same_f r.asked.height (or_zero c.args.q.known.height) = same_as _ _ _ _ _ c.same_bits-then-same_bits.ensures (rw er refl) c.unwrap_or-then-same_bits.ensures in
    let b : c.same_flag.result ≡ beq (flag_at r.bits 3) (is_some c.args.q.known.height) = flag_as _ _ _ (flag_at r.bits 3) _ c.same_flag.ensures (c.flag-then-same_bits-2.ensures ∙ rw em refl) c.is_some.ensures in
    let p : c.same_bits-then-same_flag.result ≡ same_f r.asked.parent (or_zero c.args.q.parent) = same_as _ _ _ _ _ c.same_bits-then-same_flag.ensures (rw er refl) c.unwrap_or-then-same_flag.ensures in
    rw (← l, c.if-flag.true, ← w, c.if-same_bits.true, ← h, c.if-same_bits-2.true, ← b, c.if-same_flag.true, ← p, c.if-same_bits-3.false)

pub returns-else-same_flag : goal.returns-else-same_flag
unfolding final_stands
returns-else-same_flag c =
    λ r z y er em.
    let l : c.flag.result ≡ is_laid r = laid_is _ _ y r c.flag.ensures em in
    let w : c.same_bits.result ≡ same_f r.asked.width (or_zero c.args.q.known.width) = same_as _ _ _ _ _ c.same_bits.ensures (rw er refl) c.unwrap_or.ensures in
    let h : c.same_bits-then-same_bits.result ≡ same_f r.asked.height (or_zero c.args.q.known.height) = same_as _ _ _ _ _ c.same_bits-then-same_bits.ensures (rw er refl) c.unwrap_or-then-same_bits.ensures in
    let b : c.same_flag.result ≡ beq (flag_at r.bits 3) (is_some c.args.q.known.height) = flag_as _ _ _ (flag_at r.bits 3) _ c.same_flag.ensures (c.flag-then-same_bits-2.ensures ∙ rw em refl) c.is_some.ensures in
    rw (← l, c.if-flag.true, ← w, c.if-same_bits.true, ← h, c.if-same_bits-2.true, ← b, c.if-same_flag.false)

pub returns-else-same_bits-2 : goal.returns-else-same_bits-2
unfolding final_stands
returns-else-same_bits-2 c =
    λ r z y er em.
    let l : c.flag.result ≡ is_laid r = laid_is _ _ y r c.flag.ensures em in
    let w : c.same_bits.result ≡ same_f r.asked.width (or_zero c.args.q.known.width) = same_as _ _ _ _ _ c.same_bits.ensures (rw er refl) c.unwrap_or.ensures in
    let h : c.same_bits-then-same_bits.result ≡ same_f r.asked.height (or_zero c.args.q.known.height) = same_as _ _ _ _ _ c.same_bits-then-same_bits.ensures (rw er refl) c.unwrap_or-then-same_bits.ensures in
    rw (← l, c.if-flag.true, ← w, c.if-same_bits.true, ← h, c.if-same_bits-2.false)

pub returns-else-same_bits : goal.returns-else-same_bits
unfolding final_stands
returns-else-same_bits c =
    λ r z y er em.
    let l : c.flag.result ≡ is_laid r = laid_is _ _ y r c.flag.ensures em in
    let w : c.same_bits.result ≡ same_f r.asked.width (or_zero c.args.q.known.width) = same_as _ _ _ _ _ c.same_bits.ensures (rw er refl) c.unwrap_or.ensures in
    rw (← l, c.if-flag.true, ← w, c.if-same_bits.false)

pub returns-else-flag : goal.returns-else-flag
unfolding final_stands
returns-else-flag c =
    λ r z y er em.
    let l : c.flag.result ≡ is_laid r = laid_is _ _ y r c.flag.ensures em in
    rw (← l, c.if-flag.false)
