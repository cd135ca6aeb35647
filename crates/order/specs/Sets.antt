-- Margin sets that hold nothing below 0: their sum is not below 0. Assumes nothing.
use Rattle.std.specs.Prelude.{◌≡◌, refl, Bool, true, false, cond, ◌+◌, ◌*◌, Float}
use Rattle.std.proofs.Common.{sym, subst, inl, inr, true≢false}
use Rattle.std.proofs.lemmas.Bool.{false≢true}
use Rattle.std.specs.Float.{nan, inf, fin, binary32}
use Rattle.std.specs.Float.Ieee.{up, down, lt, add, sum, of_bits}
use Rattle.geometry.specs.Geometry.{zero_f}
use Rattle.util.specs.Math.{smaller}
use Rattle.margin.specs.Margin.{no_margins, set_of, joined, joined_with, sum_of}
use Rattle.margin.specs.Laws.{Plus, set_made, joined_made}
use Rattle.margin.specs.declared.CollapsibleMarginSet.{CollapsibleMarginSet}
use Rattle.sums.specs.Sums.{Pos, round_pos, pos_zero}

-- its largest is +0 or above 0, its smallest is +0
abbrev pub Up : CollapsibleMarginSet → Type 0
Up s = Plus s.positive × (s.negative ≡ zero_f)

alike : (t : Bool) (x : Float) → cond t x x ≡ x
alike true x = refl
alike false x = refl

pub none_up : Up no_margins
unfolding no_margins
none_up = (inl refl, refl)

-- of any margin not below 0; a NaN counts as none
pub set_up : (m : Float) → lt m zero_f ≡ false → Up (set_of m)
unfolding set_of smaller
set_up m h = ((set_made m).0, rw (h))

pub joined_up : (a b : CollapsibleMarginSet) → Up a → Up b → Up (joined a b)
unfolding joined smaller
joined_up a b p q = ((joined_made a b (p.0, inl p.1) (q.0, inl q.1)).0, rw (p.1, q.1) (alike (lt zero_f zero_f) zero_f))

pub joined_with_up : (a : CollapsibleMarginSet) (m : Float) → Up a → lt m zero_f ≡ false → Up (joined_with a m)
unfolding joined_with
joined_with_up a m p h = joined_up a (set_of m) p (set_up m h)

pub plus_pos : (p : Float) → Plus p → Pos p
unfolding lt of_bits
plus_pos p (inl e) = subst Pos (sym e) refl
plus_pos nan (inr e) = tt
plus_pos (inf true) (inr e) = absurd (false≢true e)
plus_pos (inf false) (inr e) = refl
plus_pos (fin true m d) (inr e) = absurd (false≢true e)
plus_pos (fin false m d) (inr e) = refl

pub pos_plus : (p : Float) → Pos p → Pos (add binary32 p zero_f)
unfolding add sum of_bits
pos_plus nan h = tt
pos_plus (inf s) h = h
pos_plus (fin true m e) h = absurd (true≢false h)
pos_plus (fin false m e) h = round_pos binary32 (m * up e * 1 + 0 * 1 * down e) (down e * 1)

pub sum_up : (s : CollapsibleMarginSet) → Up s → lt (sum_of s) zero_f ≡ false
unfolding sum_of
sum_up s p = rw p.1 (pos_zero (add binary32 s.positive zero_f) (pos_plus s.positive (plus_pos s.positive p.0)))
