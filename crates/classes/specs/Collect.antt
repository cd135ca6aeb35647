-- The classes of a box's two margins, cut to the margins at or below it: collected by recursion, closed under the links, and joined by them.
use Rattle.std.specs.Prelude.{◌≡◌, refl, ◌⊎◌, Bool, true, false, ◌&&◌}
use Rattle.std.proofs.Common.{sym, inl, inr, true≢false}
use Rattle.tree.specs.Tree.{Tree, Forest, node, none, more}
use Rattle.classes.specs.Margins.{Box, Top, Bottom, MarT, MarF, IsSide, Own, FirstTop, LastBottom, IsNone, LinkT, LinkF}
use Rattle.classes.specs.Stacking.{thru_t, all_thru}

abbrev pub Iff : Type 0 → Type 0 → Type 0
Iff A B = (A → B) × (B → A)

-- what the box's top takes by own start, what its bottom takes by own end; what the left edge and the right edge of siblings take
abbrev mutual
  pub UpT : (t : Tree Box) → MarT t → Type 0
  UpT (node a ks) (inl s) = IsSide Top s
  UpT (node a ks) (inr m) = (a.start ≡ true) × LeftF ks m

  pub DnT : (t : Tree Box) → MarT t → Type 0
  DnT (node a ks) (inl s) = IsSide Bottom s
  DnT (node a ks) (inr m) = (a.end ≡ true) × RightF ks m

  pub LeftF : (ts : Forest Box) → MarF ts → Type 0
  LeftF none m = ⊥
  LeftF (more t ts) (inl m) = UpT t m ⊎ ((thru_t t ≡ true) × DnT t m)
  LeftF (more t ts) (inr m) = (thru_t t ≡ true) × LeftF ts m

  pub RightF : (ts : Forest Box) → MarF ts → Type 0
  RightF none m = ⊥
  RightF (more t ts) (inl m) = (all_thru ts ≡ true) × (DnT t m ⊎ ((thru_t t ≡ true) × UpT t m))
  RightF (more t ts) (inr m) = RightF ts m

-- the class of the top, the class of the bottom
abbrev pub TopC : (t : Tree Box) → MarT t → Type 0
TopC t m = UpT t m ⊎ ((thru_t t ≡ true) × DnT t m)

abbrev pub BotC : (t : Tree Box) → MarT t → Type 0
BotC t m = DnT t m ⊎ ((thru_t t ≡ true) × UpT t m)

-- no bridge: own start and own end, a child, every child through, and yet not through
abbrev pub Kids : Forest Box → Type 0
Kids none = ⊥
Kids (more t ts) = Unit {0}

abbrev pub Sound : Box → Forest Box → Type 0
Sound a ks = a.start ≡ true → a.end ≡ true → Kids ks → all_thru ks ≡ true → a.through ≡ true

abbrev mutual
  pub NoBridgeT : Tree Box → Type 0
  NoBridgeT (node a ks) = Sound a ks × NoBridgeF ks

  pub NoBridgeF : Forest Box → Type 0
  NoBridgeF none = Unit {0}
  NoBridgeF (more t ts) = NoBridgeT t × NoBridgeF ts

-- of all boxes below
abbrev pub BelowT : Tree Box → Type 0
BelowT (node a ks) = NoBridgeF ks

pub below : (t : Tree Box) → NoBridgeT t → BelowT t
below (node a ks) h = h.1

-- ---- truth values

pub both : (a b : Bool) → a ≡ true → b ≡ true → (a && b) ≡ true
both a b p q = rw (p, q)

pub left : (a b : Bool) → (a && b) ≡ true → a ≡ true
left true b e = refl
left false b e = e

pub right : (a b : Bool) → (a && b) ≡ true → b ≡ true
right true b e = e
right false b e = absurd (true≢false (sym e))

-- ---- edges

pub own_up : (t : Tree Box) (m : MarT t) → Own Top t m → UpT t m
own_up (node a ks) (inl s) h = h
own_up (node a ks) (inr m) h = absurd h

pub own_dn : (t : Tree Box) (m : MarT t) → Own Bottom t m → DnT t m
own_dn (node a ks) (inl s) h = h
own_dn (node a ks) (inr m) h = absurd h

up_bottom : (t : Tree Box) (m : MarT t) → Own Bottom t m → UpT t m → ⊥
up_bottom (node a ks) (inl Top) h u = h
up_bottom (node a ks) (inl Bottom) h u = u
up_bottom (node a ks) (inr m) h u = h

dn_top : (t : Tree Box) (m : MarT t) → Own Top t m → DnT t m → ⊥
dn_top (node a ks) (inl Top) h u = u
dn_top (node a ks) (inl Bottom) h u = h
dn_top (node a ks) (inr m) h u = h

-- where the two classes meet the box is through
pub top_bottom : (t : Tree Box) (m : MarT t) → Own Bottom t m → TopC t m → thru_t t ≡ true
top_bottom t m h (inl u) = absurd (up_bottom t m h u)
top_bottom t m h (inr d) = d.0

pub bot_top : (t : Tree Box) (m : MarT t) → Own Top t m → BotC t m → thru_t t ≡ true
bot_top t m h (inl u) = absurd (dn_top t m h u)
bot_top t m h (inr d) = d.0

swap_top : (t : Tree Box) (m : MarT t) → thru_t t ≡ true → TopC t m → BotC t m
swap_top t m e (inl u) = inr (e, u)
swap_top t m e (inr d) = inl d.1

swap_bot : (t : Tree Box) (m : MarT t) → thru_t t ≡ true → BotC t m → TopC t m
swap_bot t m e (inl d) = inr (e, d)
swap_bot t m e (inr u) = inl u.1

pub first_left : (ts : Forest Box) (m : MarF ts) → FirstTop ts m → LeftF ts m
first_left none m h = h
first_left (more t ts) (inl m) h = inl (own_up t m h)
first_left (more t ts) (inr m) h = absurd h

none_thru : (ts : Forest Box) → IsNone ts → all_thru ts ≡ true
none_thru none h = refl
none_thru (more t ts) h = absurd h

pub last_right : (ts : Forest Box) (m : MarF ts) → LastBottom ts m → RightF ts m
last_right none m h = h
last_right (more t ts) (inl m) h = (none_thru ts h.1, inl (own_dn t m h.0))
last_right (more t ts) (inr m) h = last_right ts m h

pub left_last : (ts : Forest Box) (m : MarF ts) → LastBottom ts m → LeftF ts m → all_thru ts ≡ true
left_last none m h l = refl
left_last (more t ts) (inl m) h l = both _ _ (top_bottom t m h.0 l) (none_thru ts h.1)
left_last (more t ts) (inr m) h l = both _ _ l.0 (left_last ts m h l.1)

pub right_first : (ts : Forest Box) (m : MarF ts) → FirstTop ts m → RightF ts m → all_thru ts ≡ true
right_first none m h r = refl
right_first (more t ts) (inl m) h r = both _ _ (bot_top t m h r.1) r.0
right_first (more t ts) (inr m) h r = absurd h

last_kids : (ts : Forest Box) (m : MarF ts) → LastBottom ts m → Kids ts
last_kids none m h = h
last_kids (more t ts) m h = tt

first_kids : (ts : Forest Box) (m : MarF ts) → FirstTop ts m → Kids ts
first_kids none m h = h
first_kids (more t ts) m h = tt

-- siblings that are all through: one class from edge to edge
pub left_right : (ts : Forest Box) (m : MarF ts) → all_thru ts ≡ true → LeftF ts m → RightF ts m
left_right none m e l = l
left_right (more t ts) (inl m) e l = (right (thru_t t) _ e, swap_top t m (left _ (all_thru ts) e) l)
left_right (more t ts) (inr m) e l = left_right ts m (right (thru_t t) _ e) l.1

pub right_left : (ts : Forest Box) (m : MarF ts) → all_thru ts ≡ true → RightF ts m → LeftF ts m
right_left none m e r = r
right_left (more t ts) (inl m) e r = swap_bot t m (left _ (all_thru ts) e) r.1
right_left (more t ts) (inr m) e r = (left _ (all_thru ts) e, right_left ts m (right (thru_t t) _ e) r)

-- ---- closed under links

abbrev pub ClosedT : (t : Tree Box) → (MarT t → Type 0) → Type 0
ClosedT t P = (m n : MarT t) → LinkT t m n → Iff (P m) (P n)

abbrev pub ClosedF : (ts : Forest Box) → (MarF ts → Type 0) → Type 0
ClosedF ts P = (m n : MarF ts) → LinkF ts m n → Iff (P m) (P n)

pub two : {A B C D : Type 0} → Iff A B → Iff C D → Iff (A ⊎ C) (B ⊎ D)
two {A} {B} {C} {D} p q = (there, here)
  where
    there : A ⊎ C → B ⊎ D
    there (inl x) = inl (p.0 x)
    there (inr x) = inr (q.0 x)

    here : B ⊎ D → A ⊎ C
    here (inl x) = inl (p.1 x)
    here (inr x) = inr (q.1 x)

pub with_it : {A B C : Type 0} → Iff A B → Iff (C × A) (C × B)
with_it p = (λ x. (x.0, p.0 x.1), λ x. (x.0, p.1 x.1))

module _ (a : Box) (ks : Forest Box) (s : Sound a ks) (l : ClosedF ks (LeftF ks)) (r : ClosedF ks (RightF ks)) where
  pub top-node : ClosedT (node a ks) (TopC (node a ks))
  top-node (inl Top) (inl Top) k = absurd k
  top-node (inl Top) (inl Bottom) k = (λ x. inr (k, tt), λ x. inl tt)
  top-node (inl Bottom) (inl z) k = absurd k
  top-node (inl Top) (inr n) k = (λ x. inl (k.0, first_left ks n k.1), λ x. inl tt)
  top-node (inl Bottom) (inr n) k = absurd k
  top-node (inr m) (inl Top) k = absurd k
  top-node (inr m) (inl Bottom) k = (there, here)
    where
      there : TopC (node a ks) (inr m) → TopC (node a ks) (inl Bottom)
      there (inl x) = inr (s x.0 k.0 (last_kids ks m k.1) (left_last ks m k.1 x.1), tt)
      there (inr x) = inr (x.0, tt)

      here : TopC (node a ks) (inl Bottom) → TopC (node a ks) (inr m)
      here (inl x) = absurd x
      here (inr x) = inr (x.0, (k.0, last_right ks m k.1))
  top-node (inr m) (inr n) k = two (with_it (l m n k)) (with_it (with_it (r m n k)))

  pub bot-node : ClosedT (node a ks) (BotC (node a ks))
  bot-node (inl Top) (inl Top) k = absurd k
  bot-node (inl Top) (inl Bottom) k = (λ x. inl tt, λ x. inr (k, tt))
  bot-node (inl Bottom) (inl z) k = absurd k
  bot-node (inl Top) (inr n) k = (there, here)
    where
      there : BotC (node a ks) (inl Top) → BotC (node a ks) (inr n)
      there (inl x) = absurd x
      there (inr x) = inr (x.0, (k.0, first_left ks n k.1))

      here : BotC (node a ks) (inr n) → BotC (node a ks) (inl Top)
      here (inl x) = inr (s k.0 x.0 (first_kids ks n k.1) (right_first ks n k.1 x.1), tt)
      here (inr x) = inr (x.0, tt)
  bot-node (inl Bottom) (inr n) k = absurd k
  bot-node (inr m) (inl Top) k = absurd k
  bot-node (inr m) (inl Bottom) k = (λ x. inl tt, λ x. inl (k.0, last_right ks m k.1))
  bot-node (inr m) (inr n) k = two (with_it (r m n k)) (with_it (with_it (l m n k)))

module _ (t : Tree Box) (ts : Forest Box) where
  pub left-more : ClosedT t (TopC t) → ClosedF ts (LeftF ts) → ClosedF (more t ts) (LeftF (more t ts))
  left-more p l (inl m) (inl n) k = p m n k
  left-more p l (inl m) (inr n) k = (λ x. (top_bottom t m k.0 x, first_left ts n k.1), λ x. inr (x.0, own_dn t m k.0))
  left-more p l (inr m) (inl n) k = absurd k
  left-more p l (inr m) (inr n) k = with_it (l m n k)

  pub right-more : ClosedT t (BotC t) → ClosedF ts (RightF ts) → ClosedF (more t ts) (RightF (more t ts))
  right-more p r (inl m) (inl n) k = with_it (p m n k)
  right-more p r (inl m) (inr n) k = (λ x. left_right ts n x.0 (first_left ts n k.1), λ x. (right_first ts n k.1 x, inl (own_dn t m k.0)))
  right-more p r (inr m) (inl n) k = absurd k
  right-more p r (inr m) (inr n) k = r m n k
