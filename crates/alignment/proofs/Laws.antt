-- A safe shift is never negative: over every align word and any free space, NaN and the infinities too. Assumes nothing.
use Rattle.std.specs.Prelude.{◌≡◌, refl, Bool, true, false, ◌⊎◌, Float}
use Rattle.std.proofs.Common.{sym, ◌∙◌, true≢false, inl, inr}
use Rattle.std.specs.Float.Ieee.{lt}
use Rattle.geometry.specs.Geometry.{zero_f}
use Rattle.util.specs.Maybe.{or_zero}
use Rattle.style.specs.declared.AlignContent.{AlignContent}
use Rattle.style.specs.declared.AlignContent.TheVariants.{Normal, Start, Center, End, SpaceBetween, SpaceAround, SpaceEvenly, Stretch}
use Rattle.alignment.specs.Align.{room_of, align_shift}
use Rattle.alignment.specs.Laws.{half_not_below, nothing_below, room_not_below}

-- Safe, the shift is never negative, whatever the word.
pub never_negative : (a : AlignContent) (free : Float) → lt (or_zero (align_shift a true free)) zero_f ≡ false
unfolding align_shift
never_negative Normal free = nothing_below
never_negative Start free = nothing_below
never_negative Center free = half_not_below (room_of true free) (room_not_below free)
never_negative End free = room_not_below free
never_negative SpaceBetween free = nothing_below
never_negative SpaceAround free = half_not_below (room_of true free) (room_not_below free)
never_negative SpaceEvenly free = half_not_below (room_of true free) (room_not_below free)
never_negative Stretch free = nothing_below

-- a word that shifts by a negative number is center or end, and is not safe
pub only_unsafe : (a : AlignContent) (safe : Bool) (free : Float) → lt (or_zero (align_shift a safe free)) zero_f ≡ true → (safe ≡ false) × ((a ≡ Center) ⊎ (a ≡ End))
unfolding align_shift
only_unsafe a true free h = absurd (true≢false (sym h ∙ never_negative a free))
only_unsafe Center false free h = (refl, inl refl)
only_unsafe End false free h = (refl, inr refl)
only_unsafe Normal false free h = absurd (true≢false (sym h ∙ never_negative Normal free))
only_unsafe Start false free h = absurd (true≢false (sym h ∙ never_negative Start free))
only_unsafe SpaceBetween false free h = absurd (true≢false (sym h ∙ never_negative SpaceBetween free))
only_unsafe SpaceAround false free h = absurd (true≢false (sym h ∙ never_negative SpaceAround free))
only_unsafe SpaceEvenly false free h = absurd (true≢false (sym h ∙ never_negative SpaceEvenly free))
only_unsafe Stretch false free h = absurd (true≢false (sym h ∙ never_negative Stretch free))
