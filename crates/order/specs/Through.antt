-- Boxes that margins go through: wherever the next box is put, it stands not above b. Assumes nothing.
use Rattle.std.specs.Prelude.{◌≡◌, refl, Bool, true, false, cond, ◌&&◌, ℕ, ◌+◌, ◌*◌, Float, Option}
use Rattle.std.proofs.Common.{sym, ap, subst, ◌∙◌, inl, true≢false, mul_comm, add_comm}
use Rattle.std.specs.Float.{nan, inf, fin, binary32}
use Rattle.std.specs.Float.Ieee.{up, down, lt, add, sum, round, of_bits}
use Rattle.geometry.specs.Geometry.{zero_f}
use Rattle.util.specs.Math.{larger}
use Rattle.util.specs.Order.{lt_asym}
use Rattle.margin.specs.Margin.{joined, sum_of}
use Rattle.margin.specs.Laws.{joined_assoc, made_numbers}
use Rattle.margin.specs.declared.CollapsibleMarginSet.{CollapsibleMarginSet}
use Rattle.steps.specs.Stack.{gap_of, at_top, past_through, past_aside, past_hidden}
use Rattle.steps.specs.declared.Frame.{Frame}
use Rattle.steps.specs.declared.Cursor.{Cursor}
use Rattle.sums.specs.Sums.{Pos, lt_self}
use Rattle.sums.proofs.Sums.{add_chain}
use Rattle.sums.specs.Mono.{add_mono}
use Rattle.order.specs.Sets.{Up, joined_up, plus_pos, pos_plus}
use Rattle.order.specs.Cursors.{Good, top_of, gap_up}

-- ---- a larger set has no smaller sum

swap : (p : Float) → Pos p → add binary32 p zero_f ≡ add binary32 zero_f p
unfolding add sum of_bits
swap nan h = refl
swap (inf s) h = refl
swap (fin true m e) h = absurd (true≢false h)
swap (fin false m e) h = ap (λ (z : ℕ). round binary32 false z (down e * 1)) (add_comm (m * up e * 1) (0 * 1 * down e)) ∙ ap (λ (z : ℕ). round binary32 false (0 * 1 * down e + m * up e * 1) z) (mul_comm (down e) 1)

larger_not : (p q : Float) → lt (larger p q) p ≡ false
unfolding larger
larger_not p q = go (lt p q) refl
  where
    go : (b : Bool) → lt p q ≡ b → lt (cond b q p) p ≡ false
    go true e = lt_asym p q e
    go false e = lt_self p

plus_mono : (p q : Float) → Pos p → Pos q → lt q p ≡ false → lt (add binary32 q zero_f) (add binary32 p zero_f) ≡ false
unfolding of_bits
plus_mono p q a b h = rw (swap p a, swap q b) (add_mono binary32 zero_f p q a b h)

pub sum_grow : (s t : CollapsibleMarginSet) → Up s → Up t → lt (sum_of (joined s t)) (sum_of s) ≡ false
unfolding sum_of
sum_grow s t u v =
    let w = joined_up s t u v in
    subst (λ (z : Float). lt (add binary32 (joined s t).positive z) (add binary32 s.positive s.negative) ≡ false) (sym w.1)
    (subst (λ (z : Float). lt (add binary32 (joined s t).positive zero_f) (add binary32 s.positive z) ≡ false) (sym u.1)
    (plus_mono s.positive (joined s t).positive (plus_pos s.positive u.0) (plus_pos (joined s t).positive w.0) (grown s t)))
  where
    grown : (s t : CollapsibleMarginSet) → lt (joined s t).positive s.positive ≡ false
    grown s t = unfold joined in larger_not s.positive t.positive

pub sum_pos : (s : CollapsibleMarginSet) → Up s → Pos (sum_of s)
unfolding sum_of
sum_pos s u = subst (λ (z : Float). Pos (add binary32 s.positive z)) (sym u.1) (pos_plus s.positive (plus_pos s.positive u.0))

zero_pos : Pos zero_f
unfolding of_bits
zero_pos = refl

pub gap_pos : (f : Frame) (c : Cursor) (t : CollapsibleMarginSet) → Good c → Up t → Pos (gap_of f c t)
unfolding gap_of
gap_pos f c t g u = go (at_top f c)
  where
    go : (b : Bool) → Pos (cond b zero_f (sum_of (joined c.strut t)))
    go true = zero_pos
    go false = sum_pos (joined c.strut t) (joined_up c.strut t g.strut u)

join_assoc : (a b c : CollapsibleMarginSet) → Up b → joined (joined a b) c ≡ joined a (joined b c)
join_assoc a b c u = joined_assoc a b c (made_numbers b (u.0, inl u.1))

-- the gap after a through box is a gap before it, of a larger set
pub gap_past : (f : Frame) (c : Cursor) (t b s : CollapsibleMarginSet) (l : Option Float) → Up t → Up b → gap_of f (past_through c t b l) s ≡ gap_of f c (joined t (joined b s))
unfolding gap_of past_through at_top
gap_past f c t b s l u v = ap (λ (z : CollapsibleMarginSet). cond (c.first && f.ownStart) zero_f (sum_of z)) (join_assoc (joined c.strut t) b s v ∙ join_assoc c.strut t (joined b s) u)

pub gap_grow : (f : Frame) (c : Cursor) (t s : CollapsibleMarginSet) → Good c → Up t → Up s → lt (gap_of f c (joined t s)) (gap_of f c t) ≡ false
unfolding gap_of
gap_grow f c t s g u v = go (at_top f c)
  where
    go : (b : Bool) → lt (cond b zero_f (sum_of (joined c.strut (joined t s)))) (cond b zero_f (sum_of (joined c.strut t))) ≡ false
    go true = lt_self zero_f
    go false = subst (λ (z : CollapsibleMarginSet). lt (sum_of z) (sum_of (joined c.strut t)) ≡ false) (join_assoc c.strut t s u) (sum_grow (joined c.strut t) s (joined_up c.strut t g.strut u) v)

-- ---- the invariant: wherever the next box is put, it is not above b

abbrev pub Held : Frame → Cursor → Float → Type 0
Held f c b = (t : CollapsibleMarginSet) → Up t → lt (top_of f c t) b ≡ false

through_y : (c : Cursor) (t b : CollapsibleMarginSet) (l : Option Float) → (past_through c t b l).y ≡ c.y
unfolding past_through
through_y c t b l = refl

past_alike : (f : Frame) (c : Cursor) (t b s : CollapsibleMarginSet) (l : Option Float) (x : Float) → Up t → Up b → lt (add binary32 (past_through c t b l).y (gap_of f (past_through c t b l) s)) x ≡ lt (add binary32 c.y (gap_of f c (joined t (joined b s)))) x
past_alike f c t b s l x u v = ap (λ (z : Float). lt (add binary32 z (gap_of f (past_through c t b l) s)) x) (through_y c t b l) ∙ ap (λ (z : Float). lt (add binary32 c.y z) x) (gap_past f c t b s l u v)

pub held_through : (f : Frame) (c : Cursor) (t b : CollapsibleMarginSet) (l : Option Float) (x : Float) → Up t → Up b → Held f c x → Held f (past_through c t b l) x
held_through f c t b l x u v h s w = past_alike f c t b s l x u v ∙ h (joined t (joined b s)) (joined_up t (joined b s) u (joined_up b s v w))

pub held_start : (f : Frame) (c : Cursor) (t b : CollapsibleMarginSet) (l : Option Float) → Good c → Up t → Up b → Held f (past_through c t b l) (top_of f c t)
held_start f c t b l g u v s w =
    let x = joined b s in
    let y = joined_up b s v w in
    past_alike f c t b s l (top_of f c t) u v
    ∙ add_mono binary32 c.y (gap_of f c t) (gap_of f c (joined t x)) (gap_pos f c t g u) (gap_pos f c (joined t x) g (joined_up t x u y)) (gap_grow f c t x g u y)

-- children that are not stacked change nothing of it
pub held_hidden : (f : Frame) (c : Cursor) (b : Float) → Held f c b → Held f (past_hidden c) b
unfolding past_hidden gap_of at_top
held_hidden f c b h = h

pub held_aside : (f : Frame) (c : Cursor) (b : Float) → Held f c b → Held f (past_aside c) b
unfolding past_aside gap_of at_top
held_aside f c b h = h

-- it is so where the stack itself is not above b
pub held_by : (f : Frame) (c : Cursor) (b : Float) → Good c → lt c.y b ≡ false → Held f c b
held_by f c b g h t u = add_chain binary32 c.y (gap_of f c t) b g.y (gap_up f c t g u) h
