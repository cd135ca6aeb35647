-- Steps J to N on the same boxes, with their cursor: the sets that are passed out, and each box's gap. No reviewer needs this file.
use Rattle.std.specs.Prelude.{◌≡◌, refl, Bool, true, false, cond, ◌&&◌, Float}
use Rattle.std.proofs.Common.{inl, inr}
use Rattle.geometry.specs.Geometry.{zero_f}
use Rattle.tree.specs.Tree.{Tree, Forest, node, none, more}
use Rattle.margin.specs.Margin.{no_margins, set_of, joined, joined_with, sum_of}
use Rattle.margin.specs.declared.CollapsibleMarginSet.{CollapsibleMarginSet}
use Rattle.classes.specs.Margins.{Box}
use Rattle.classes.specs.Spots.{SpotT, SpotF, box_on, box_at_t, box_at_f}

abbrev pub thru_t : Tree Box → Bool
thru_t (node a ks) = a.through

-- all of them are through
abbrev pub all_thru : Forest Box → Bool
all_thru none = true
all_thru (more t ts) = thru_t t && all_thru ts

pub record Cur : Type 0 where
  pub strut : CollapsibleMarginSet
  pub top : CollapsibleMarginSet
  pub first : Bool

abbrev pub begin : Cur
begin = record { strut = no_margins; top = no_margins; first = true }

abbrev pub given_out : Bool → CollapsibleMarginSet → Float → CollapsibleMarginSet
given_out p s m = joined_with (cond p s (set_of m)) m

abbrev pub past : Cur → Bool → CollapsibleMarginSet → CollapsibleMarginSet → Cur
past c through t b =
    cond through
    (record { strut = joined (joined c.strut t) b; top = cond c.first (joined (joined c.top t) b) c.top; first = c.first })
    (record { strut = b; top = cond c.first (joined c.top t) c.top; first = false })

unfoldable mutual
  pub top_set : Tree Box → CollapsibleMarginSet
  top_set (node a ks) = given_out a.start (stack ks begin).top a.above

  pub bot_set : Tree Box → CollapsibleMarginSet
  bot_set (node a ks) = given_out a.end (stack ks begin).strut a.under

  pub stack : Forest Box → Cur → Cur
  stack none c = c
  stack (more t ts) c = stack ts (past c (thru_t t) (top_set t) (bot_set t))

-- is it through
abbrev mutual
  pub thru_at_t : (t : Tree Box) → SpotT t → Bool
  thru_at_t (node a ks) p = thru_at_f ks p

  pub thru_at_f : (ts : Forest Box) → SpotF ts → Bool
  thru_at_f none p = false
  thru_at_f (more t ts) (inl u) = thru_t t
  thru_at_f (more t ts) (inr (inl p)) = thru_at_t t p
  thru_at_f (more t ts) (inr (inr p)) = thru_at_f ts p

-- still at the top with own start: its gap is passed out
abbrev mutual
  pub out_at_t : (t : Tree Box) → SpotT t → Bool
  out_at_t (node a ks) p = out_at_f ks a.start begin p

  pub out_at_f : (ts : Forest Box) → Bool → Cur → SpotF ts → Bool
  out_at_f none s c p = false
  out_at_f (more t ts) s c (inl u) = c.first && s
  out_at_f (more t ts) s c (inr (inl p)) = out_at_t t p
  out_at_f (more t ts) s c (inr (inr p)) = out_at_f ts s (past c (thru_t t) (top_set t) (bot_set t)) p

-- strut joined T
abbrev mutual
  pub gap_set_t : (t : Tree Box) → SpotT t → CollapsibleMarginSet
  gap_set_t (node a ks) p = gap_set_f ks begin p

  pub gap_set_f : (ts : Forest Box) → Cur → SpotF ts → CollapsibleMarginSet
  gap_set_f none c p = absurd p
  gap_set_f (more t ts) c (inl u) = joined c.strut (top_set t)
  gap_set_f (more t ts) c (inr (inl p)) = gap_set_t t p
  gap_set_f (more t ts) c (inr (inr p)) = gap_set_f ts (past c (thru_t t) (top_set t) (bot_set t)) p

-- the gap of step J
abbrev pub gap_at : (t : Tree Box) → SpotT t → Float
gap_at t p = cond (out_at_t t p) zero_f (sum_of (gap_set_t t p))

-- each box notes what the stack gives it
abbrev mutual
  pub NotedT : Tree Box → Type 0
  NotedT (node a ks) = NotedF ks a.start begin

  pub NotedF : Forest Box → Bool → Cur → Type 0
  NotedF none s c = Unit {0}
  NotedF (more t ts) s c =
      ((box_on t).gap ≡ cond (c.first && s) zero_f (sum_of (joined c.strut (top_set t))))
      × ((box_on t).passed ≡ (c.first && s))
      × NotedT t
      × NotedF ts s (past c (thru_t t) (top_set t) (bot_set t))

mutual
  pub gap_noted_t : (t : Tree Box) (p : SpotT t) → NotedT t → (box_at_t t p).gap ≡ gap_at t p
  gap_noted_t (node a ks) p h = gap_noted_f ks a.start begin p h

  gap_noted_f : (ts : Forest Box) (s : Bool) (c : Cur) (p : SpotF ts) → NotedF ts s c → (box_at_f ts p).gap ≡ cond (out_at_f ts s c p) zero_f (sum_of (gap_set_f ts c p))
  gap_noted_f none s c p h = absurd p
  gap_noted_f (more t ts) s c (inl u) h = h.0
  gap_noted_f (more t ts) s c (inr (inl p)) h = gap_noted_t t p h.2
  gap_noted_f (more t ts) s c (inr (inr p)) h = gap_noted_f ts s _ p h.3

mutual
  pub out_noted_t : (t : Tree Box) (p : SpotT t) → NotedT t → (box_at_t t p).passed ≡ out_at_t t p
  out_noted_t (node a ks) p h = out_noted_f ks a.start begin p h

  out_noted_f : (ts : Forest Box) (s : Bool) (c : Cur) (p : SpotF ts) → NotedF ts s c → (box_at_f ts p).passed ≡ out_at_f ts s c p
  out_noted_f none s c p h = absurd p
  out_noted_f (more t ts) s c (inl u) h = h.1
  out_noted_f (more t ts) s c (inr (inl p)) h = out_noted_t t p h.2
  out_noted_f (more t ts) s c (inr (inr p)) h = out_noted_f ts s _ p h.3

thru_on : (t : Tree Box) → (box_on t).through ≡ thru_t t
thru_on (node a ks) = refl

mutual
  pub thru_noted_t : (t : Tree Box) (p : SpotT t) → (box_at_t t p).through ≡ thru_at_t t p
  thru_noted_t (node a ks) p = thru_noted_f ks p

  thru_noted_f : (ts : Forest Box) (p : SpotF ts) → (box_at_f ts p).through ≡ thru_at_f ts p
  thru_noted_f none p = absurd p
  thru_noted_f (more t ts) (inl u) = thru_on t
  thru_noted_f (more t ts) (inr (inl p)) = thru_noted_t t p
  thru_noted_f (more t ts) (inr (inr p)) = thru_noted_f ts p
