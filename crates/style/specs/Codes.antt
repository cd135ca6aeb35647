-- Style and unit words as codes of one or two bits.
use Rattle.geometry.specs.declared.Point.{Point}
use Rattle.std.specs.Prelude.{Bool, cond, not, ◌&&◌, ℕ, zero, suc, ◌+◌, ◌*◌, ◌-◌, ◌/◌, ◌%◌, ◌^◌, eqb, ltb, Float, Option, None, Some}
use Rattle.std.specs.Float.Ieee.{eq}
use Rattle.geometry.specs.Geometry.{zero_f}
use Rattle.length.specs.declared.Length.{Length}
use Rattle.length.specs.declared.Length.TheVariants.{Auto, Pixels, Fraction}
use Rattle.style.specs.declared.Kind.{Kind}
use Rattle.style.specs.declared.Kind.TheVariants.{Block, Leaf, Hidden}
use Rattle.style.specs.declared.Position.{Position}
use Rattle.style.specs.declared.Position.TheVariants.{Static, Relative, Absolute}
use Rattle.style.specs.declared.Overflow.{Overflow}
use Rattle.style.specs.declared.Overflow.TheVariants.{Visible, Clip, Scroll}
use Rattle.style.specs.declared.Overflow.TheVariants as overflow
use Rattle.style.specs.declared.AlignContent.{AlignContent}
use Rattle.style.specs.declared.AlignContent.TheVariants.{Normal, Start, Center, End, SpaceBetween, SpaceAround, SpaceEvenly, Stretch}

-- the two bits at 2f
abbrev pub code_at : ℕ → ℕ → ℕ
code_at w f = w / 2 ^ (2 * f) % 4

-- bit k
abbrev pub flag_at : ℕ → ℕ → Bool
flag_at w k = eqb (w / 2 ^ k % 2) 1

-- the three bits at 13
abbrev pub distribution_at : ℕ → ℕ
distribution_at w = w / 2 ^ 13 % 8

-- no bit from k on is set
abbrev pub clear_from : ℕ → ℕ → Bool
clear_from w k = eqb (w / 2 ^ k) 0

-- what each of the four codes of two bits stands for
abbrev pub pick4 : {A : Type 0} → ℕ → A → A → A → A → A
pick4 zero a b c d = a
pick4 (suc zero) a b c d = b
pick4 (suc (suc zero)) a b c d = c
pick4 (suc (suc (suc n))) a b c d = d

-- code 3 is refused (no. 3) before any step asks
unfoldable pub kind_of : ℕ → Kind
kind_of k = pick4 k Block Leaf Hidden Hidden

unfoldable pub position_of : ℕ → Position
position_of k = pick4 k Static Relative Absolute Absolute

unfoldable pub overflow_of : ℕ → Overflow
overflow_of k = pick4 k Visible Clip overflow.Hidden Scroll

-- 6-7 across, 8-9 down
unfoldable pub overflow_xy : ℕ → Point Overflow
overflow_xy w = record { x = overflow_of (code_at w 3); y = overflow_of (code_at w 4) }

unfoldable pub align_of : ℕ → AlignContent
align_of k = pick4 k Normal Start Center End

-- a word that distributes space, or what else is said; words 5 to 7 are refused (no. 3) before any step asks
unfoldable pub distributed : ℕ → AlignContent → AlignContent
distributed zero a = a
distributed (suc zero) a = SpaceBetween
distributed (suc (suc zero)) a = SpaceAround
distributed (suc (suc (suc zero))) a = SpaceEvenly
distributed (suc (suc (suc (suc k)))) a = Stretch

-- 13-15 the word; where it is 0, 10-11 hold
unfoldable pub align_at : ℕ → AlignContent
align_at w = distributed (distribution_at w) (align_of (code_at w 5))

-- unit of field f: two bits at 2f of the first word for f 0-13, at 2(f-14) of the second for f 14-21
unfoldable pub unit_of : ℕ → ℕ → ℕ → ℕ
unit_of u v f = cond (ltb f 14) (code_at u f) (code_at v (f - 14))

-- 0 auto, 1 pixels, 2 fraction
unfoldable pub length_of : ℕ → Float → Length
length_of k x = pick4 k Auto (Pixels x) (Fraction x) Auto

-- 0 for none
unfoldable pub ratio_of : Float → Option Float
ratio_of x = cond (eq x zero_f) None (Some x)

-- a leaf's baseline: the number, if bit 16 is set; containment suppresses it
unfoldable pub baseline_of : ℕ → Float → Option Float
baseline_of w x = cond (flag_at w 16 && not (flag_at w 12)) (Some x) None
