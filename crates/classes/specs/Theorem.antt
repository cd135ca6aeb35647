-- The gap of step J is the sum of its class.
use Rattle.std.specs.Prelude.{◌≡◌, ◌⊎◌, true, false, Float}
use Rattle.std.proofs.Common.{sym, inl, inr, true≢false}
use Rattle.tree.specs.Tree.{Tree, Forest, none, more}
use Rattle.margin.specs.declared.CollapsibleMarginSet.{CollapsibleMarginSet}
use Rattle.classes.specs.Margins.{Box, MarT, MarF, val_t, val_f, Values}
use Rattle.classes.specs.Spots.{SpotT, SpotF}
use Rattle.classes.specs.Stacking.{thru_t, thru_at_t, gap_set_t}
use Rattle.classes.specs.Sets.{Pair, pair_same}
use Rattle.classes.specs.Collect.{BotC, both, left, right}
use Rattle.classes.specs.Class.{reach, ClsT, ClsF}
use Rattle.classes.specs.Pairs.{UpV, NextS}

abbrev pub ClsVT : (t : Tree Box) → SpotT t → Float → Type 0
ClsVT t p x = Values (val_t t) (ClsT t p) x

abbrev ClsVF : (ts : Forest Box) → SpotF ts → Float → Type 0
ClsVF ts p x = Values (val_f ts) (ClsF ts p) x

-- with what the cursor brings from before
abbrev pub WithV : (ts : Forest Box) → SpotF ts → (Float → Type 0) → Float → Type 0
WithV ts p P x = ((reach ts p ≡ true) × P x) ⊎ ClsVF ts p x

abbrev pub GapT : Tree Box → Type 0
GapT t = (p : SpotT t) → thru_at_t t p ≡ false → Pair (ClsVT t p) (gap_set_t t p)

abbrev pub GapF : Forest Box → Type 0
GapF none = Unit {0}
GapF (more t ts) = GapT t × GapF ts

pub gap_below : (t : Tree Box) (ts : Forest Box) (P : Float → Type 0) (p : SpotT t) (s : CollapsibleMarginSet) → Pair (ClsVT t p) s → Pair (WithV (more t ts) (inr (inl p)) P) s
gap_below t ts P p s h = pair_same (ClsVT t p) _ _ (λ x k. inr (inl k.0, k.1, k.2)) here h
  where
    here : (x : Float) → WithV (more t ts) (inr (inl p)) P x → ClsVT t p x
    here x (inl k) = absurd (true≢false (sym k.0))
    here x (inr k) = go k.0 k.1 k.2
      where
        go : (m : MarF (more t ts)) → ClsF (more t ts) (inr (inl p)) m → val_f (more t ts) m ≡ x → ClsVT t p x
        go (inl m) c v = (m, c, v)
        go (inr m) c v = absurd c

pub gap_later : (t : Tree Box) (ts : Forest Box) (P : Float → Type 0) (p : SpotF ts) (s : CollapsibleMarginSet) → Pair (WithV ts p (NextS t P)) s → Pair (WithV (more t ts) (inr (inr p)) P) s
gap_later t ts P p s h = pair_same (WithV ts p (NextS t P)) _ _ there here h
  where
    there : (x : Float) → WithV ts p (NextS t P) x → WithV (more t ts) (inr (inr p)) P x
    there x (inl k) = go k.1
      where
        on-side : thru_t t ≡ true → P x ⊎ UpV t x → WithV (more t ts) (inr (inr p)) P x
        on-side e (inl v) = inl (both _ _ e k.0, v)
        on-side e (inr v) = inr (inl v.0, (k.0, inr (e, v.1)), v.2)

        go : NextS t P x → WithV (more t ts) (inr (inr p)) P x
        go (inl v) = on-side v.0 v.1
        go (inr v) = inr (inl v.0, (k.0, inl v.1), v.2)
    there x (inr k) = inr (inr k.0, k.1, k.2)

    here : (x : Float) → WithV (more t ts) (inr (inr p)) P x → WithV ts p (NextS t P) x
    here x (inl k) = inl (right (thru_t t) _ k.0, inl (left _ (reach ts p) k.0, inl k.1))
    here x (inr k) = go k.0 k.1 k.2
      where
        by : (m : MarT t) → reach ts p ≡ true → BotC t m → val_t t m ≡ x → WithV ts p (NextS t P) x
        by m e (inl d) v = inl (e, inr (m, d, v))
        by m e (inr u) v = inl (e, inl (u.0, inr (m, u.1, v)))

        go : (m : MarF (more t ts)) → ClsF (more t ts) (inr (inr p)) m → val_f (more t ts) m ≡ x → WithV ts p (NextS t P) x
        go (inl m) c v = by m c.0 c.1 v
        go (inr m) c v = inr (m, c, v)

abbrev pub Nothing : Float → Type 0
Nothing x = ⊥
