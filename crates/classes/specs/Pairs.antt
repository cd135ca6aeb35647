-- T and B are the pairs of what is collected.
use Rattle.std.specs.Prelude.{◌≡◌, refl, ◌⊎◌, Bool, true, false, ◌&&◌, Float}
use Rattle.std.proofs.Common.{sym, subst, ◌∙◌, inl, inr, true≢false}
use Rattle.tree.specs.Tree.{Tree, Forest, node, none, more}
use Rattle.margin.specs.Margin.{joined_with}
use Rattle.margin.specs.declared.CollapsibleMarginSet.{CollapsibleMarginSet}
use Rattle.classes.specs.Margins.{Box, Top, Bottom, MarT, MarF, val_t, val_f, Values}
use Rattle.classes.specs.Stacking.{thru_t, all_thru, Cur, begin, past, given_out, top_set, bot_set, stack}
use Rattle.classes.specs.Sets.{Pair, pair_same, pair_none, pair_one, pair_or}
use Rattle.classes.specs.Collect.{UpT, DnT, LeftF, RightF, TopC, BotC, both, left, right}

abbrev pub UpV : Tree Box → Float → Type 0
UpV t x = Values (val_t t) (UpT t) x

abbrev pub DnV : Tree Box → Float → Type 0
DnV t x = Values (val_t t) (DnT t) x

abbrev pub LeftV : Forest Box → Float → Type 0
LeftV ts x = Values (val_f ts) (LeftF ts) x

abbrev pub RightV : Forest Box → Float → Type 0
RightV ts x = Values (val_f ts) (RightF ts) x

-- the two hypotheses of a box, and of siblings
abbrev pub Fine : Tree Box → Type 0
Fine t = Pair (UpV t) (top_set t) × Pair (DnV t) (bot_set t)

abbrev pub FineF : Forest Box → Type 0
FineF none = Unit {0}
FineF (more t ts) = Fine t × FineF ts

-- ---- one child

-- the strut after a child
pub past_strut : (P U D : Float → Type 0) (c : Cur) (b : Bool) (t u : CollapsibleMarginSet) → Pair P c.strut → Pair U t → Pair D u
    → Pair (λ x. ((b ≡ true) × (P x ⊎ U x)) ⊎ D x) (past c b t u).strut
past_strut P U D c true t u p q r =
    pair_same (λ x. (P x ⊎ U x) ⊎ D x) _ _ there here (pair_or (λ x. P x ⊎ U x) D _ _ (pair_or P U _ _ p q) r)
  where
    there : (x : Float) → (P x ⊎ U x) ⊎ D x → ((true ≡ true) × (P x ⊎ U x)) ⊎ D x
    there x (inl h) = inl (refl, h)
    there x (inr h) = inr h

    here : (x : Float) → ((true ≡ true) × (P x ⊎ U x)) ⊎ D x → (P x ⊎ U x) ⊎ D x
    here x (inl h) = inl h.1
    here x (inr h) = inr h
past_strut P U D c false t u p q r = pair_same D _ _ (λ x h. inr h) here r
  where
    here : (x : Float) → ((false ≡ true) × (P x ⊎ U x)) ⊎ D x → D x
    here x (inl h) = absurd (true≢false (sym h.0))
    here x (inr h) = h

-- the top set after a child
pub past_top : (Q U D : Float → Type 0) (s top : CollapsibleMarginSet) (f b : Bool) (t u : CollapsibleMarginSet) → Pair Q top → Pair U t → Pair D u
    → Pair (λ x. Q x ⊎ ((f ≡ true) × (U x ⊎ ((b ≡ true) × D x)))) (past (record { strut = s; top = top; first = f }) b t u).top
past_top Q U D s top true true t u p q r =
    pair_same (λ x. (Q x ⊎ U x) ⊎ D x) _ _ there here (pair_or (λ x. Q x ⊎ U x) D _ _ (pair_or Q U _ _ p q) r)
  where
    there : (x : Float) → (Q x ⊎ U x) ⊎ D x → Q x ⊎ ((true ≡ true) × (U x ⊎ ((true ≡ true) × D x)))
    there x (inl (inl h)) = inl h
    there x (inl (inr h)) = inr (refl, inl h)
    there x (inr h) = inr (refl, inr (refl, h))

    shut : (x : Float) → U x ⊎ ((true ≡ true) × D x) → (Q x ⊎ U x) ⊎ D x
    shut x (inl h) = inl (inr h)
    shut x (inr h) = inr h.1

    here : (x : Float) → Q x ⊎ ((true ≡ true) × (U x ⊎ ((true ≡ true) × D x))) → (Q x ⊎ U x) ⊎ D x
    here x (inl h) = inl (inl h)
    here x (inr h) = shut x h.1
past_top Q U D s top true false t u p q r = pair_same (λ x. Q x ⊎ U x) _ _ there here (pair_or Q U _ _ p q)
  where
    there : (x : Float) → Q x ⊎ U x → Q x ⊎ ((true ≡ true) × (U x ⊎ ((false ≡ true) × D x)))
    there x (inl h) = inl h
    there x (inr h) = inr (refl, inl h)

    shut : (x : Float) → U x ⊎ ((false ≡ true) × D x) → Q x ⊎ U x
    shut x (inl h) = inr h
    shut x (inr h) = absurd (true≢false (sym h.0))

    here : (x : Float) → Q x ⊎ ((true ≡ true) × (U x ⊎ ((false ≡ true) × D x))) → Q x ⊎ U x
    here x (inl h) = inl h
    here x (inr h) = shut x h.1
past_top Q U D s top false true t u p q r = pair_same Q _ _ (λ x h. inl h) here p
  where
    here : (x : Float) → Q x ⊎ ((false ≡ true) × (U x ⊎ ((true ≡ true) × D x))) → Q x
    here x (inl h) = h
    here x (inr h) = absurd (true≢false (sym h.0))
past_top Q U D s top false false t u p q r = pair_same Q _ _ (λ x h. inl h) here p
  where
    here : (x : Float) → Q x ⊎ ((false ≡ true) × (U x ⊎ ((false ≡ true) × D x))) → Q x
    here x (inl h) = h
    here x (inr h) = absurd (true≢false (sym h.0))

-- ---- the stack, from any cursor

abbrev pub AfterS : (ts : Forest Box) → (Float → Type 0) → Float → Type 0
AfterS ts P x = ((all_thru ts ≡ true) × P x) ⊎ RightV ts x

abbrev pub NextS : Tree Box → (Float → Type 0) → Float → Type 0
NextS t P x = ((thru_t t ≡ true) × (P x ⊎ UpV t x)) ⊎ DnV t x

pub stack_strut : (ts : Forest Box) (c : Cur) (P : Float → Type 0) → FineF ts → Pair P c.strut → Pair (AfterS ts P) (stack ts c).strut
unfolding stack
stack_strut none c P g p = pair_same P _ _ (λ x h. inl (refl, h)) here p
  where
    here : (x : Float) → AfterS none P x → P x
    here x (inl h) = h.1
    here x (inr h) = absurd h.0
stack_strut (more t ts) c P g p =
    pair_same (AfterS ts (NextS t P)) _ _ there here (stack_strut ts (past c (thru_t t) (top_set t) (bot_set t)) (NextS t P) g.1 (past_strut P (UpV t) (DnV t) c (thru_t t) (top_set t) (bot_set t) p g.0.0 g.0.1))
  where
    there : (x : Float) → AfterS ts (NextS t P) x → AfterS (more t ts) P x
    there x (inl h) = go h.1
      where
        on-side : thru_t t ≡ true → P x ⊎ UpV t x → AfterS (more t ts) P x
        on-side e (inl k) = inl (both _ _ e h.0, k)
        on-side e (inr k) = inr (inl k.0, (h.0, inr (e, k.1)), k.2)

        go : ((thru_t t ≡ true) × (P x ⊎ UpV t x)) ⊎ DnV t x → AfterS (more t ts) P x
        go (inl k) = on-side k.0 k.1
        go (inr k) = inr (inl k.0, (h.0, inl k.1), k.2)
    there x (inr h) = inr (inr h.0, h.1, h.2)

    here : (x : Float) → AfterS (more t ts) P x → AfterS ts (NextS t P) x
    here x (inl h) = inl (right (thru_t t) _ h.0, inl (left _ (all_thru ts) h.0, inl h.1))
    here x (inr h) = go h.0 h.1 h.2
      where
        by : (m : MarT t) → all_thru ts ≡ true → BotC t m → val_t t m ≡ x → AfterS ts (NextS t P) x
        by m e (inl d) v = inl (e, inr (m, d, v))
        by m e (inr u) v = inl (e, inl (u.0, inr (m, u.1, v)))

        go : (m : MarF (more t ts)) → RightF (more t ts) m → val_f (more t ts) m ≡ x → AfterS ts (NextS t P) x
        go (inl m) r v = by m r.0 r.1 v
        go (inr m) r v = inr (m, r, v)

abbrev pub after_t : Tree Box → Cur → Cur
after_t t c = past c (thru_t t) (top_set t) (bot_set t)

abbrev NextT : Tree Box → Bool → (Float → Type 0) → Float → Type 0
NextT t f Q x = Q x ⊎ ((f ≡ true) × (UpV t x ⊎ ((thru_t t ≡ true) × DnV t x)))

abbrev pub AfterT : (ts : Forest Box) → Bool → (Float → Type 0) → Float → Type 0
AfterT ts f Q x = Q x ⊎ ((f ≡ true) × LeftV ts x)

past_top_first : (c : Cur) (b : Bool) (t u : CollapsibleMarginSet) → (past c b t u).first ≡ (b && c.first)
past_top_first c true t u = refl
past_top_first c false t u = refl

pub stack_top : (ts : Forest Box) (c : Cur) (Q : Float → Type 0) → FineF ts → Pair Q c.top → Pair (AfterT ts c.first Q) (stack ts c).top
unfolding stack
stack_top none c Q g p = pair_same Q _ _ (λ x h. inl h) here p
  where
    here : (x : Float) → AfterT none c.first Q x → Q x
    here x (inl h) = h
    here x (inr h) = absurd h.1.0
stack_top (more t ts) c Q g p =
    pair_same (AfterT ts (after_t t c).first (NextT t c.first Q)) _ _ there here (stack_top ts (after_t t c) (NextT t c.first Q) g.1 (past_top Q (UpV t) (DnV t) c.strut c.top c.first (thru_t t) (top_set t) (bot_set t) p g.0.0 g.0.1))
  where
    first-is : (after_t t c).first ≡ (thru_t t && c.first)
    first-is = past_top_first c (thru_t t) (top_set t) (bot_set t)

    there : (x : Float) → AfterT ts (after_t t c).first (NextT t c.first Q) x → AfterT (more t ts) c.first Q x
    there x (inl (inl h)) = inl h
    there x (inl (inr h)) = go h.1
      where
        go : UpV t x ⊎ ((thru_t t ≡ true) × DnV t x) → AfterT (more t ts) c.first Q x
        go (inl k) = inr (h.0, (inl k.0, inl k.1, k.2))
        go (inr k) = inr (h.0, (inl k.1.0, inr (k.0, k.1.1), k.1.2))
    there x (inr h) =
        let e = sym first-is ∙ h.0 in
        inr (right (thru_t t) c.first e, (inr h.1.0, (left (thru_t t) c.first e, h.1.1), h.1.2))

    here : (x : Float) → AfterT (more t ts) c.first Q x → AfterT ts (after_t t c).first (NextT t c.first Q) x
    here x (inl h) = inl (inl h)
    here x (inr h) = go h.1.0 h.1.1 h.1.2
      where
        by : (m : MarT t) → TopC t m → val_t t m ≡ x → AfterT ts (after_t t c).first (NextT t c.first Q) x
        by m (inl u) v = inl (inr (h.0, inl (m, u, v)))
        by m (inr d) v = inl (inr (h.0, inr (d.0, (m, d.1, v))))

        go : (m : MarF (more t ts)) → LeftF (more t ts) m → val_f (more t ts) m ≡ x → AfterT ts (after_t t c).first (NextT t c.first Q) x
        go (inl m) l v = by m l v
        go (inr m) l v = inr (first-is ∙ both _ _ l.0 h.0, (m, l.1, v))

-- ---- a box

-- its own margin, and what is passed out
own_pair : (W R : Float → Type 0) (b : Bool) (s : CollapsibleMarginSet) (m : Float) → Pair W s → (R m) → ((x : Float) → b ≡ true → W x → R x) → ((x : Float) → R x → (x ≡ m) ⊎ ((b ≡ true) × W x)) → Pair R (given_out b s m)
unfolding joined_with
own_pair W R true s m w own f g = pair_same (λ x. W x ⊎ (x ≡ m)) _ _ there here (pair_or W (λ x. x ≡ m) _ _ w (pair_one (λ x. x ≡ m) m refl (λ x e. e)))
  where
    there : (x : Float) → W x ⊎ (x ≡ m) → R x
    there x (inl h) = f x refl h
    there x (inr e) = subst R (sym e) own

    turn : (x : Float) → (x ≡ m) ⊎ ((true ≡ true) × W x) → W x ⊎ (x ≡ m)
    turn x (inl e) = inr e
    turn x (inr h) = inl h.1

    here : (x : Float) → R x → W x ⊎ (x ≡ m)
    here x r = turn x (g x r)
own_pair W R false s m w own f g = pair_same (λ x. (x ≡ m) ⊎ (x ≡ m)) _ _ there here (pair_or (λ x. x ≡ m) (λ x. x ≡ m) _ _ (pair_one (λ x. x ≡ m) m refl (λ x e. e)) (pair_one (λ x. x ≡ m) m refl (λ x e. e)))
  where
    there : (x : Float) → (x ≡ m) ⊎ (x ≡ m) → R x
    there x (inl e) = subst R (sym e) own
    there x (inr e) = subst R (sym e) own

    turn : (x : Float) → (x ≡ m) ⊎ ((false ≡ true) × W x) → (x ≡ m) ⊎ (x ≡ m)
    turn x (inl e) = inr e
    turn x (inr h) = absurd (true≢false (sym h.0))

    here : (x : Float) → R x → (x ≡ m) ⊎ (x ≡ m)
    here x r = turn x (g x r)

abbrev Nothing : Float → Type 0
Nothing x = ⊥

pub up_fine : (a : Box) (ks : Forest Box) → FineF ks → Pair (UpV (node a ks)) (top_set (node a ks))
unfolding top_set
up_fine a ks g =
    own_pair (AfterT ks true Nothing) (UpV (node a ks)) a.start (stack ks begin).top a.above (stack_top ks begin Nothing g (pair_none Nothing (λ x h. h)))
    (inl Top, tt, refl) there here
  where
    there : (x : Float) → a.start ≡ true → AfterT ks true Nothing x → UpV (node a ks) x
    there x e (inl h) = absurd h
    there x e (inr h) = (inr h.1.0, (e, h.1.1), h.1.2)

    here : (x : Float) → UpV (node a ks) x → (x ≡ a.above) ⊎ ((a.start ≡ true) × AfterT ks true Nothing x)
    here x r = go r.0 r.1 r.2
      where
        go : (m : MarT (node a ks)) → UpT (node a ks) m → val_t (node a ks) m ≡ x → (x ≡ a.above) ⊎ ((a.start ≡ true) × AfterT ks true Nothing x)
        go (inl Top) u v = inl (sym v)
        go (inl Bottom) u v = absurd u
        go (inr m) u v = inr (u.0, inr (refl, (m, u.1, v)))

pub dn_fine : (a : Box) (ks : Forest Box) → FineF ks → Pair (DnV (node a ks)) (bot_set (node a ks))
unfolding bot_set
dn_fine a ks g =
    own_pair (AfterS ks Nothing) (DnV (node a ks)) a.end (stack ks begin).strut a.under (stack_strut ks begin Nothing g (pair_none Nothing (λ x h. h)))
    (inl Bottom, tt, refl) there here
  where
    there : (x : Float) → a.end ≡ true → AfterS ks Nothing x → DnV (node a ks) x
    there x e (inl h) = absurd h.1
    there x e (inr h) = (inr h.0, (e, h.1), h.2)

    here : (x : Float) → DnV (node a ks) x → (x ≡ a.under) ⊎ ((a.end ≡ true) × AfterS ks Nothing x)
    here x r = go r.0 r.1 r.2
      where
        go : (m : MarT (node a ks)) → DnT (node a ks) m → val_t (node a ks) m ≡ x → (x ≡ a.under) ⊎ ((a.end ≡ true) × AfterS ks Nothing x)
        go (inl Top) u v = absurd u
        go (inl Bottom) u v = inl (sym v)
        go (inr m) u v = inr (u.0, inr (m, u.1, v))
