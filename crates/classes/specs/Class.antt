-- The class of a box that is not through, and whose gap is not passed out.
use Rattle.std.specs.Prelude.{◌≡◌, refl, Bool, true, false, ◌&&◌}
use Rattle.std.proofs.Common.{sym, ◌∙◌, inl, inr, true≢false}
use Rattle.tree.specs.Tree.{Tree, Forest, node, none, more}
use Rattle.margin.specs.declared.CollapsibleMarginSet.{CollapsibleMarginSet}
use Rattle.classes.specs.Margins.{Box, Side, Top, Bottom, MarT, MarF, Own, FirstTop, LastBottom, IsNone, LinkT, LinkF, Joined}
use Rattle.classes.specs.Spots.{SpotT, SpotF, own_top, top_t, top_f, IsChild, ParentT, ParentF}
use Rattle.classes.specs.Stacking.{thru_t, Cur, begin, past, top_set, bot_set, thru_at_f, out_at_t, out_at_f}
use Rattle.classes.specs.Collect.{LeftF, BotC, ClosedT, ClosedF, both, left, right, with_it, own_up, own_dn, top_bottom, bot_top, first_left}
use Rattle.classes.specs.Linked.{carry}

-- it is a child and all before it are through: its class reaches the left edge
abbrev pub reach : (ts : Forest Box) → SpotF ts → Bool
reach none p = false
reach (more t ts) (inl u) = true
reach (more t ts) (inr (inl p)) = false
reach (more t ts) (inr (inr p)) = thru_t t && reach ts p

-- not passed out
abbrev mutual
  pub InT : (t : Tree Box) → SpotT t → Type 0
  InT (node a ks) p = (a.start ≡ true → reach ks p ≡ true → ⊥) × InF ks p

  pub InF : (ts : Forest Box) → SpotF ts → Type 0
  InF none p = ⊥
  InF (more t ts) (inl u) = Unit {0}
  InF (more t ts) (inr (inl p)) = InT t p
  InF (more t ts) (inr (inr p)) = InF ts p

-- its class
abbrev mutual
  pub ClsT : (t : Tree Box) → SpotT t → MarT t → Type 0
  ClsT (node a ks) p (inl s) = ⊥
  ClsT (node a ks) p (inr m) = ClsF ks p m

  pub ClsF : (ts : Forest Box) → SpotF ts → MarF ts → Type 0
  ClsF none p m = ⊥
  ClsF (more t ts) (inl u) m = LeftF (more t ts) m
  ClsF (more t ts) (inr (inl p)) (inl m) = ClsT t p m
  ClsF (more t ts) (inr (inl p)) (inr m) = ⊥
  ClsF (more t ts) (inr (inr p)) (inl m) = (reach ts p ≡ true) × BotC t m
  ClsF (more t ts) (inr (inr p)) (inr m) = ClsF ts p m

own_cls : (s : Side) (t : Tree Box) (p : SpotT t) (m : MarT t) → Own s t m → ClsT t p m → ⊥
own_cls s (node a ks) p (inl r) h c = c
own_cls s (node a ks) p (inr m) h c = h

pub reach_first : (ts : Forest Box) (p : SpotF ts) (m : MarF ts) → reach ts p ≡ true → FirstTop ts m → ClsF ts p m
reach_first none p m e h = h
reach_first (more t ts) (inl u) m e h = first_left (more t ts) m h
reach_first (more t ts) (inr (inl p)) m e h = absurd (true≢false (sym e))
reach_first (more t ts) (inr (inr p)) (inl m) e h = (right (thru_t t) _ e, inr (left _ (reach ts p) e, own_up t m h))
reach_first (more t ts) (inr (inr p)) (inr m) e h = absurd h

first_reach : (ts : Forest Box) (p : SpotF ts) (m : MarF ts) → FirstTop ts m → ClsF ts p m → reach ts p ≡ true
first_reach none p m h c = absurd h
first_reach (more t ts) (inl u) m h c = refl
first_reach (more t ts) (inr (inl p)) (inl m) h c = absurd (own_cls Top t p m h c)
first_reach (more t ts) (inr (inl p)) (inr m) h c = absurd c
first_reach (more t ts) (inr (inr p)) (inl m) h c = both _ _ (bot_top t m h c.1) c.0
first_reach (more t ts) (inr (inr p)) (inr m) h c = absurd h

none_spot : (ts : Forest Box) → IsNone ts → SpotF ts → ⊥
none_spot none h p = p
none_spot (more t ts) h p = h

last_never : (ts : Forest Box) (p : SpotF ts) (m : MarF ts) → thru_at_f ts p ≡ false → LastBottom ts m → ClsF ts p m → ⊥
last_never none p m e h c = h
last_never (more t ts) (inl u) (inl m) e h c = true≢false (sym (top_bottom t m h.0 c) ∙ e)
last_never (more t ts) (inl u) (inr m) e h c = true≢false (sym c.0 ∙ e)
last_never (more t ts) (inr (inl p)) (inl m) e h c = own_cls Bottom t p m h.0 c
last_never (more t ts) (inr (inl p)) (inr m) e h c = c
last_never (more t ts) (inr (inr p)) (inl m) e h c = none_spot ts h.1 p
last_never (more t ts) (inr (inr p)) (inr m) e h c = last_never ts p m e h c

-- ---- closed under links

pub cls_node : (a : Box) (ks : Forest Box) (p : SpotF ks) → thru_at_f ks p ≡ false → InT (node a ks) p → ClosedF ks (ClsF ks p) → ClosedT (node a ks) (ClsT (node a ks) p)
cls_node a ks p e i h (inl Top) (inl z) k = (λ x. absurd x, λ x. absurd x)
cls_node a ks p e i h (inl Bottom) (inl z) k = absurd k
cls_node a ks p e i h (inl Top) (inr n) k = (λ x. absurd x, λ x. i.0 k.0 (first_reach ks p n k.1 x))
cls_node a ks p e i h (inl Bottom) (inr n) k = absurd k
cls_node a ks p e i h (inr m) (inl Top) k = absurd k
cls_node a ks p e i h (inr m) (inl Bottom) k = (λ x. last_never ks p m e k.1 x, λ x. absurd x)
cls_node a ks p e i h (inr m) (inr n) k = h m n k

pub cls_later : (t : Tree Box) (ts : Forest Box) (p : SpotF ts) → ClosedT t (BotC t) → ClosedF ts (ClsF ts p) → ClosedF (more t ts) (ClsF (more t ts) (inr (inr p)))
cls_later t ts p b h (inl m) (inl n) k = with_it (b m n k)
cls_later t ts p b h (inl m) (inr n) k = (λ x. reach_first ts p n x.0 k.1, λ x. (first_reach ts p n k.1 x, inl (own_dn t m k.0)))
cls_later t ts p b h (inr m) (inl n) k = absurd k
cls_later t ts p b h (inr m) (inr n) k = h m n k

pub cls_below : (t : Tree Box) (ts : Forest Box) (p : SpotT t) → ClosedT t (ClsT t p) → ClosedF (more t ts) (ClsF (more t ts) (inr (inl p)))
cls_below t ts p h (inl m) (inl n) k = h m n k
cls_below t ts p h (inl m) (inr n) k = (λ x. absurd (own_cls Bottom t p m k.0 x), λ x. absurd x)
cls_below t ts p h (inr m) (inl n) k = absurd k
cls_below t ts p h (inr m) (inr n) k = (λ x. absurd x, λ x. absurd x)

-- ---- joined by links

abbrev pub ClsJT : (t : Tree Box) → SpotT t → Type 0
ClsJT t p = (m : MarT t) → ClsT t p m → Joined (LinkT t) (top_t t p) m

abbrev pub ClsJF : (ts : Forest Box) → SpotF ts → Type 0
ClsJF ts p = (m : MarF ts) → ClsF ts p m → Joined (LinkF ts) (top_f ts p) m

pub joined_node : (a : Box) (ks : Forest Box) (p : SpotF ks) → ClsJF ks p → ClsJT (node a ks) p
joined_node a ks p h (inl s) c = absurd c
joined_node a ks p h (inr m) c = carry (LinkF ks) (LinkT (node a ks)) (λ m. inr m) (λ m n r. r) (top_f ks p) m (h m c)

pub joined_below : (t : Tree Box) (ts : Forest Box) (p : SpotT t) → ClsJT t p → ClsJF (more t ts) (inr (inl p))
joined_below t ts p h (inl m) c = carry (LinkT t) (LinkF (more t ts)) (λ m. inl m) (λ m n r. r) (top_t t p) m (h m c)
joined_below t ts p h (inr m) c = absurd c

-- it holds its own top
cls_this : (t : Tree Box) (ts : Forest Box) → LeftF (more t ts) (inl (own_top t))
cls_this (node a ks) ts = inl tt

mutual
  pub cls_own_t : (t : Tree Box) (p : SpotT t) → ClsT t p (top_t t p)
  cls_own_t (node a ks) p = cls_own_f ks p

  cls_own_f : (ts : Forest Box) (p : SpotF ts) → ClsF ts p (top_f ts p)
  cls_own_f none p = absurd p
  cls_own_f (more t ts) (inl u) = cls_this t ts
  cls_own_f (more t ts) (inr (inl p)) = cls_own_t t p
  cls_own_f (more t ts) (inr (inr p)) = cls_own_f ts p

-- and it does not hold the parent's top
mutual
  pub cls_parent_t : (t : Tree Box) (p : SpotT t) (m : MarT t) → ParentT t p m → ClsT t p m → ⊥
  cls_parent_t (node a ks) p (inl s) h c = c
  cls_parent_t (node a ks) p (inr m) h c = cls_parent_f ks p m h c

  cls_parent_f : (ts : Forest Box) (p : SpotF ts) (m : MarF ts) → ParentF ts p m → ClsF ts p m → ⊥
  cls_parent_f none p m h c = h
  cls_parent_f (more t ts) (inl u) m h c = h
  cls_parent_f (more t ts) (inr (inl p)) (inl m) h c = cls_parent_t t p m h c
  cls_parent_f (more t ts) (inr (inl p)) (inr m) h c = h
  cls_parent_f (more t ts) (inr (inr p)) (inl m) h c = h
  cls_parent_f (more t ts) (inr (inr p)) (inr m) h c = cls_parent_f ts p m h c

-- ---- passed out or not

past_first : (c : Cur) (b : Bool) (t u : CollapsibleMarginSet) → (past c b t u).first ≡ true → (b ≡ true) × (c.first ≡ true)
past_first c true t u e = (refl, e)
past_first c false t u e = (e, absurd (true≢false (sym e)))

first_past : (c : Cur) (b : Bool) (t u : CollapsibleMarginSet) → b ≡ true → c.first ≡ true → (past c b t u).first ≡ true
first_past c true t u e d = d
first_past c false t u e d = e

mutual
  pub not_out_t : (t : Tree Box) (p : SpotT t) → out_at_t t p ≡ false → InT t p
  not_out_t (node a ks) p e = let h = not_out_f ks a.start begin p e in (λ s r. h.0 s refl r, h.1)

  not_out_f : (ts : Forest Box) (s : Bool) (c : Cur) (p : SpotF ts) → out_at_f ts s c p ≡ false → (s ≡ true → c.first ≡ true → reach ts p ≡ true → ⊥) × InF ts p
  not_out_f none s c p e = absurd p
  not_out_f (more t ts) s c (inl u) e = (λ x y z. true≢false (sym (both _ _ y x) ∙ e), tt)
  not_out_f (more t ts) s c (inr (inl p)) e = (λ x y z. true≢false (sym z), not_out_t t p e)
  not_out_f (more t ts) s c (inr (inr p)) e =
      let h = not_out_f ts s (past c (thru_t t) (top_set t) (bot_set t)) p e in
      (λ x y z. h.0 x (first_past c (thru_t t) (top_set t) (bot_set t) (left _ (reach ts p) z) y) (right (thru_t t) _ z), h.1)

pub out_child : (ts : Forest Box) (s : Bool) (c : Cur) (p : SpotF ts) → IsChild ts p → out_at_f ts s c p ≡ true → (s ≡ true) × (c.first ≡ true) × (reach ts p ≡ true)
out_child none s c p h e = absurd h
out_child (more t ts) s c (inl u) h e = (right c.first s e, left c.first s e, refl)
out_child (more t ts) s c (inr (inl p)) h e = absurd h
out_child (more t ts) s c (inr (inr p)) h e =
    let k = out_child ts s (past c (thru_t t) (top_set t) (bot_set t)) p h e in
    let f = past_first c (thru_t t) (top_set t) (bot_set t) k.1 in
    (k.0, f.1, both _ _ f.0 k.2)

abbrev pub OutJT : (t : Tree Box) → SpotT t → Type 0
OutJT t p = (m : MarT t) → ParentT t p m → out_at_t t p ≡ true → Joined (LinkT t) (top_t t p) m

abbrev pub OutJF : (ts : Forest Box) → SpotF ts → Type 0
OutJF ts p = (s : Bool) (c : Cur) (m : MarF ts) → ParentF ts p m → out_at_f ts s c p ≡ true → Joined (LinkF ts) (top_f ts p) m

pub out_below : (t : Tree Box) (ts : Forest Box) (p : SpotT t) → OutJT t p → OutJF (more t ts) (inr (inl p))
out_below t ts p j s c (inl m) h e = carry (LinkT t) (LinkF (more t ts)) (λ m. inl m) (λ m n r. r) (top_t t p) m (j m h e)
out_below t ts p j s c (inr m) h e = absurd h

pub out_later : (t : Tree Box) (ts : Forest Box) (p : SpotF ts) → OutJF ts p → OutJF (more t ts) (inr (inr p))
out_later t ts p j s c (inl m) h e = absurd h
out_later t ts p j s c (inr m) h e = carry (LinkF ts) (LinkF (more t ts)) (λ m. inr m) (λ m n r. r) (top_f ts p) m (j s (past c (thru_t t) (top_set t) (bot_set t)) m h e)
