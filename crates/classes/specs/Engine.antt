-- A plain engine that computes: the margins of a class as a list, and their sum.
use Rattle.std.specs.Prelude.{◌≡◌, refl, ◌⊎◌, Bool, true, false, ◌&&◌, List, [], ◌∷◌, ◌++◌, map, ℕ, Float}
use Rattle.std.proofs.Common.{sym, inl, inr, true≢false}
use Rattle.tree.specs.Tree.{Tree, Forest, node, none, more}
use Rattle.margin.specs.Margin.{no_margins, set_of, joined, sum_of}
use Rattle.margin.specs.declared.CollapsibleMarginSet.{CollapsibleMarginSet}
use Rattle.classes.specs.Margins.{Box, Top, Bottom, MarT, MarF, val_t, val_f, Values}
use Rattle.classes.specs.Spots.{SpotT, SpotF, box_at_t}
use Rattle.classes.specs.Stacking.{thru_t, all_thru, Cur, past}
use Rattle.classes.specs.Sets.{Pair, pair_none, pair_one, pair_join}
use Rattle.classes.specs.Collect.{Iff, UpT, DnT, LeftF, TopC, BotC}
use Rattle.classes.specs.Class.{reach, ClsT, ClsF}
use Rattle.classes.specs.Pairs.{UpV, DnV, LeftV, RightV}

abbrev pub app : List Float → List Float → List Float
app [] k = k
app (x ∷ l) k = x ∷ app l k

abbrev pub only_if : Bool → List Float → List Float
only_if true l = l
only_if false l = []

-- the margins that a box's top takes, its bottom, the left edge of siblings, their right edge
abbrev mutual
  pub up_l : Tree Box → List Float
  up_l (node a ks) = a.above ∷ only_if a.start (left_l ks)

  pub dn_l : Tree Box → List Float
  dn_l (node a ks) = a.under ∷ only_if a.end (right_l ks)

  pub left_l : Forest Box → List Float
  left_l none = []
  left_l (more t ts) = app (app (up_l t) (only_if (thru_t t) (dn_l t))) (only_if (thru_t t) (left_l ts))

  pub right_l : Forest Box → List Float
  right_l none = []
  right_l (more t ts) = app (only_if (all_thru ts) (app (dn_l t) (only_if (thru_t t) (up_l t)))) (right_l ts)

-- the class of a box
abbrev mutual
  pub class_t : (t : Tree Box) → SpotT t → List Float
  class_t (node a ks) p = class_f ks p

  pub class_f : (ts : Forest Box) → SpotF ts → List Float
  class_f none p = []
  class_f (more t ts) (inl u) = left_l (more t ts)
  class_f (more t ts) (inr (inl p)) = class_t t p
  class_f (more t ts) (inr (inr p)) = app (only_if (reach ts p) (app (dn_l t) (only_if (thru_t t) (up_l t)))) (class_f ts p)

-- largest from 0 over them plus smallest from 0 over them
unfoldable pub pair_of : List Float → CollapsibleMarginSet
pair_of [] = no_margins
pair_of (x ∷ l) = joined (set_of x) (pair_of l)

unfoldable pub plain_gap : (t : Tree Box) → SpotT t → Float
plain_gap t p = sum_of (pair_of (class_t t p))

-- ---- members

abbrev pub In : List Float → Float → Type 0
In [] x = ⊥
In (y ∷ l) x = (x ≡ y) ⊎ In l x

in_cons : (y : Float) (l k : List Float) (x : Float) → Iff (In (app l k) x) (In l x ⊎ In k x) → Iff ((x ≡ y) ⊎ In (app l k) x) (((x ≡ y) ⊎ In l x) ⊎ In k x)
in_cons y l k x h = (there, here)
  where
    up : In l x ⊎ In k x → ((x ≡ y) ⊎ In l x) ⊎ In k x
    up (inl g) = inl (inr g)
    up (inr g) = inr g

    there : (x ≡ y) ⊎ In (app l k) x → ((x ≡ y) ⊎ In l x) ⊎ In k x
    there (inl e) = inl (inl e)
    there (inr g) = up (h.0 g)

    here : ((x ≡ y) ⊎ In l x) ⊎ In k x → (x ≡ y) ⊎ In (app l k) x
    here (inl (inl e)) = inl e
    here (inl (inr g)) = inr (h.1 (inl g))
    here (inr g) = inr (h.1 (inr g))

none_or : {A : Type 0} → ⊥ ⊎ A → A
none_or (inl h) = absurd h
none_or (inr h) = h

in_app : (l k : List Float) (x : Float) → Iff (In (app l k) x) (In l x ⊎ In k x)
in_app [] k x = (λ h. inr h, λ h. none_or h)
in_app (y ∷ l) k x = in_cons y l k x (in_app l k x)

in_if : (b : Bool) (l : List Float) (x : Float) → Iff (In (only_if b l) x) ((b ≡ true) × In l x)
in_if true l x = (λ h. (refl, h), λ h. h.1)
in_if false l x = (λ h. absurd h, λ h. absurd (true≢false (sym h.0)))

pub then : {A B C : Type 0} → Iff A B → Iff B C → Iff A C
then p q = (λ a. q.0 (p.0 a), λ c. p.1 (q.1 c))

either : {A B C D : Type 0} → Iff A B → Iff C D → Iff (A ⊎ C) (B ⊎ D)
either {A} {B} {C} {D} p q = (there, here)
  where
    there : A ⊎ C → B ⊎ D
    there (inl x) = inl (p.0 x)
    there (inr x) = inr (q.0 x)

    here : B ⊎ D → A ⊎ C
    here (inl x) = inl (p.1 x)
    here (inr x) = inr (q.1 x)

given : {A B C : Type 0} → Iff A B → Iff (C × A) (C × B)
given p = (λ x. (x.0, p.0 x.1), λ x. (x.0, p.1 x.1))

pub app_if : (b : Bool) (l k : List Float) (x : Float) (P Q : Type 0) → Iff (In l x) P → Iff (In k x) Q → Iff (In (app l (only_if b k)) x) (P ⊎ ((b ≡ true) × Q))
app_if b l k x P Q p q = then (in_app l (only_if b k) x) (either p (then (in_if b k x) (given q)))

pub if_app : (b : Bool) (l k : List Float) (x : Float) (P Q : Type 0) → Iff (In l x) P → Iff (In k x) Q → Iff (In (app (only_if b l) k) x) (((b ≡ true) × P) ⊎ Q)
if_app b l k x P Q p q = then (in_app (only_if b l) k x) (either (then (in_if b l x) (given p)) q)

pub cons_if : (y : Float) (b : Bool) (l : List Float) (x : Float) (Q : Type 0) → Iff (In l x) Q → Iff (In (y ∷ only_if b l) x) ((x ≡ y) ⊎ ((b ≡ true) × Q))
cons_if y b l x Q q = either (λ h. h, λ h. h) (then (in_if b l x) (given q))

-- ---- values, by cases

pub up_cases : (a : Box) (ks : Forest Box) (x : Float) → Iff ((x ≡ a.above) ⊎ ((a.start ≡ true) × LeftV ks x)) (UpV (node a ks) x)
up_cases a ks x = (there, λ h. here h.0 h.1 h.2)
  where
    there : (x ≡ a.above) ⊎ ((a.start ≡ true) × LeftV ks x) → UpV (node a ks) x
    there (inl e) = (inl Top, tt, sym e)
    there (inr h) = (inr h.1.0, (h.0, h.1.1), h.1.2)

    here : (m : MarT (node a ks)) → UpT (node a ks) m → val_t (node a ks) m ≡ x → (x ≡ a.above) ⊎ ((a.start ≡ true) × LeftV ks x)
    here (inl Top) u v = inl (sym v)
    here (inl Bottom) u v = absurd u
    here (inr m) u v = inr (u.0, (m, u.1, v))

pub dn_cases : (a : Box) (ks : Forest Box) (x : Float) → Iff ((x ≡ a.under) ⊎ ((a.end ≡ true) × RightV ks x)) (DnV (node a ks) x)
dn_cases a ks x = (there, λ h. here h.0 h.1 h.2)
  where
    there : (x ≡ a.under) ⊎ ((a.end ≡ true) × RightV ks x) → DnV (node a ks) x
    there (inl e) = (inl Bottom, tt, sym e)
    there (inr h) = (inr h.1.0, (h.0, h.1.1), h.1.2)

    here : (m : MarT (node a ks)) → DnT (node a ks) m → val_t (node a ks) m ≡ x → (x ≡ a.under) ⊎ ((a.end ≡ true) × RightV ks x)
    here (inl Top) u v = absurd u
    here (inl Bottom) u v = inl (sym v)
    here (inr m) u v = inr (u.0, (m, u.1, v))

abbrev pub TopV : Tree Box → Float → Type 0
TopV t x = UpV t x ⊎ ((thru_t t ≡ true) × DnV t x)

abbrev pub BotV : Tree Box → Float → Type 0
BotV t x = DnV t x ⊎ ((thru_t t ≡ true) × UpV t x)

pub left_cases : (t : Tree Box) (ts : Forest Box) (x : Float) → Iff (TopV t x ⊎ ((thru_t t ≡ true) × LeftV ts x)) (LeftV (more t ts) x)
left_cases t ts x = (there, λ h. here h.0 h.1 h.2)
  where
    there : TopV t x ⊎ ((thru_t t ≡ true) × LeftV ts x) → LeftV (more t ts) x
    there (inl (inl h)) = (inl h.0, inl h.1, h.2)
    there (inl (inr h)) = (inl h.1.0, inr (h.0, h.1.1), h.1.2)
    there (inr h) = (inr h.1.0, (h.0, h.1.1), h.1.2)

    by : (m : MarT t) → TopC t m → val_t t m ≡ x → TopV t x
    by m (inl u) v = inl (m, u, v)
    by m (inr d) v = inr (d.0, (m, d.1, v))

    here : (m : MarF (more t ts)) → LeftF (more t ts) m → val_f (more t ts) m ≡ x → TopV t x ⊎ ((thru_t t ≡ true) × LeftV ts x)
    here (inl m) l v = inl (by m l v)
    here (inr m) l v = inr (l.0, (m, l.1, v))

-- the right edge, and a later box: by what b says
pub bot_cases : (t : Tree Box) (ts : Forest Box) (b : Bool) (C : MarF ts → Type 0) (D : MarF (more t ts) → Type 0) (x : Float)
    → ((m : MarT t) → Iff ((b ≡ true) × BotC t m) (D (inl m))) → ((m : MarF ts) → Iff (C m) (D (inr m)))
    → Iff (((b ≡ true) × BotV t x) ⊎ Values (val_f ts) C x) (Values (val_f (more t ts)) D x)
bot_cases t ts b C D x f g = (there, λ h. here h.0 h.1 h.2)
  where
    side : b ≡ true → BotV t x → Values (val_f (more t ts)) D x
    side e (inl h) = (inl h.0, (f h.0).0 (e, inl h.1), h.2)
    side e (inr h) = (inl h.1.0, (f h.1.0).0 (e, inr (h.0, h.1.1)), h.1.2)

    there : ((b ≡ true) × BotV t x) ⊎ Values (val_f ts) C x → Values (val_f (more t ts)) D x
    there (inl h) = side h.0 h.1
    there (inr h) = (inr h.0, (g h.0).0 h.1, h.2)

    by : (m : MarT t) → BotC t m → val_t t m ≡ x → BotV t x
    by m (inl d) v = inl (m, d, v)
    by m (inr u) v = inr (u.0, (m, u.1, v))

    here : (m : MarF (more t ts)) → D m → val_f (more t ts) m ≡ x → ((b ≡ true) × BotV t x) ⊎ Values (val_f ts) C x
    here (inl m) d v = let k = (f m).1 d in inl (k.0, by m k.1 v)
    here (inr m) d v = inr (m, (g m).1 d, v)

-- ---- the lists hold just the values

pub no_values : (C : MarF none → Type 0) (x : Float) → Iff ⊥ (Values (val_f none) C x)
no_values C x = (λ h. absurd h, λ h. absurd h.0)

pub below_cases : (t : Tree Box) (ts : Forest Box) (p : SpotT t) (x : Float) → Iff (Values (val_t t) (ClsT t p) x) (Values (val_f (more t ts)) (ClsF (more t ts) (inr (inl p))) x)
below_cases t ts p x = (λ h. (inl h.0, h.1, h.2), λ h. here h.0 h.1 h.2)
  where
    here : (m : MarF (more t ts)) → ClsF (more t ts) (inr (inl p)) m → val_f (more t ts) m ≡ x → Values (val_t t) (ClsT t p) x
    here (inl m) c v = (m, c, v)
    here (inr m) c v = absurd c

pub node_cases : (a : Box) (ks : Forest Box) (p : SpotF ks) (x : Float) → Iff (Values (val_f ks) (ClsF ks p) x) (Values (val_t (node a ks)) (ClsT (node a ks) p) x)
node_cases a ks p x = (λ h. (inr h.0, h.1, h.2), λ h. here h.0 h.1 h.2)
  where
    here : (m : MarT (node a ks)) → ClsT (node a ks) p m → val_t (node a ks) m ≡ x → Values (val_f ks) (ClsF ks p) x
    here (inl s) c v = absurd c
    here (inr m) c v = (m, c, v)

-- ---- the sum

pub pair_of_lem : (l : List Float) → Pair (In l) (pair_of l)
unfolding pair_of
pair_of_lem [] = pair_none (In []) (λ x h. h)
pair_of_lem (y ∷ l) = pair_join (λ x. x ≡ y) (In l) (In (y ∷ l)) (set_of y) (pair_of l) (λ x h. h) (λ x h. inl h) (λ x h. inr h) (pair_one (λ x. x ≡ y) y refl (λ x e. e)) (pair_of_lem l)

-- ---- is the gap passed out: own start of the parent, and every sibling before it through

abbrev mutual
  pub plain_out_t : (t : Tree Box) → SpotT t → Bool
  plain_out_t (node a ks) p = plain_out_f ks a.start p

  pub plain_out_f : (ts : Forest Box) → Bool → SpotF ts → Bool
  plain_out_f none s p = false
  plain_out_f (more t ts) s (inl u) = s
  plain_out_f (more t ts) s (inr (inl p)) = plain_out_t t p
  plain_out_f (more t ts) s (inr (inr p)) = plain_out_f ts (s && thru_t t) p

and_true : (x : Bool) → x ≡ (x && true)
and_true true = refl
and_true false = refl

and_false : (x : Bool) → false ≡ (x && false)
and_false true = refl
and_false false = refl

pub first_and : (c : Cur) (b s : Bool) (t u : CollapsibleMarginSet) → ((past c b t u).first && s) ≡ ((c.first && s) && b)
first_and c true s t u = and_true (c.first && s)
first_and c false s t u = and_false (c.first && s)

-- ---- what the plain engine tells of each box below the root, in order, with its node

pub data Told : Type 0 where
  Through : Told
  Passed : Told
  Gap : Float → Told

abbrev pub told_by : Bool → Bool → Float → Told
told_by true o g = Through
told_by false true g = Passed
told_by false false g = Gap g

-- from the boxes' margins, own start, own end and through alone
abbrev pub told_at : (t : Tree Box) → SpotT t → Told
told_at t p = told_by (box_at_t t p).through (plain_out_t t p) (plain_gap t p)

abbrev mutual
  pub spots_t : (t : Tree Box) → List (SpotT t)
  spots_t (node a ks) = spots_f ks

  pub spots_f : (ts : Forest Box) → List (SpotF ts)
  spots_f none = []
  spots_f (more t ts) = inl tt ∷ (map (λ (p : SpotT t). inr (inl p)) (spots_t t) ++ map (λ (p : SpotF ts). inr (inr p)) (spots_f ts))

abbrev pub engine : Tree Box → List (ℕ × Told)
engine t = map (λ (p : SpotT t). ((box_at_t t p).node, told_at t p)) (spots_t t)
