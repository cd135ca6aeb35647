-- The gap of step J is the sum of its class.
use Rattle.std.specs.Prelude.{◌≡◌, refl, ◌⊎◌, Bool, true, false, cond, Float}
use Rattle.std.proofs.Common.{sym, ap, ◌∙◌, inl, inr, true≢false}
use Rattle.geometry.specs.Geometry.{zero_f}
use Rattle.tree.specs.Tree.{Tree, Forest, node, none, more}
use Rattle.margin.specs.Margin.{joined, sum_of}
use Rattle.margin.specs.declared.CollapsibleMarginSet.{CollapsibleMarginSet}
use Rattle.classes.specs.Margins.{Box, MarT, MarF, val_t, val_f, Values, Sum}
use Rattle.classes.specs.Spots.{SpotT, SpotF, ParentT, ClassOf}
use Rattle.classes.specs.Stacking.{thru_t, Cur, begin, top_set, bot_set, thru_at_t, thru_at_f, out_at_t, gap_set_t, gap_set_f, gap_at}
use Rattle.classes.specs.Sets.{Pair, pair_same, pair_none, pair_or}
use Rattle.classes.specs.Collect.{Iff, LeftF, TopC, BelowT}
use Rattle.classes.specs.Class.{ClsT, not_out_t, cls_parent_t}
use Rattle.classes.proofs.Class.{is_class, out_joined_t}
use Rattle.classes.specs.Pairs.{UpV, DnV, NextS, past_strut, after_t}
use Rattle.classes.proofs.Pairs.{fine_t}
use Rattle.classes.specs.Theorem.{ClsVT, WithV, GapT, GapF, gap_below, gap_later, Nothing}

gap_this : (t : Tree Box) (ts : Forest Box) (P : Float → Type 0) (s : CollapsibleMarginSet) → thru_t t ≡ false → Pair P s → Pair (WithV (more t ts) (inl tt) P) (joined s (top_set t))
gap_this t ts P s e p = pair_same (λ x. P x ⊎ UpV t x) _ _ there here (pair_or P (UpV t) _ _ p (fine_t t).0)
  where
    there : (x : Float) → P x ⊎ UpV t x → WithV (more t ts) (inl tt) P x
    there x (inl h) = inl (refl, h)
    there x (inr h) = inr (inl h.0, inl h.1, h.2)

    here : (x : Float) → WithV (more t ts) (inl tt) P x → P x ⊎ UpV t x
    here x (inl h) = inl h.1
    here x (inr h) = go h.0 h.1 h.2
      where
        by : (m : MarT t) → TopC t m → val_t t m ≡ x → P x ⊎ UpV t x
        by m (inl u) v = inr (m, u, v)
        by m (inr d) v = absurd (true≢false (sym d.0 ∙ e))

        go : (m : MarF (more t ts)) → LeftF (more t ts) m → val_f (more t ts) m ≡ x → P x ⊎ UpV t x
        go (inl m) l v = by m l v
        go (inr m) l v = absurd (true≢false (sym l.0 ∙ e))

gap_pair : (ts : Forest Box) (c : Cur) (P : Float → Type 0) (p : SpotF ts) → GapF ts → thru_at_f ts p ≡ false → Pair P c.strut → Pair (WithV ts p P) (gap_set_f ts c p)
gap_pair none c P p g e q = absurd p
gap_pair (more t ts) c P (inl u) g e q = gap_this t ts P c.strut e q
gap_pair (more t ts) c P (inr (inl p)) g e q = gap_below t ts P p (gap_set_t t p) (g.0 p e)
gap_pair (more t ts) c P (inr (inr p)) g e q =
    gap_later t ts P p _
    (gap_pair ts (after_t t c) (NextS t P) p g.1 e (past_strut P (UpV t) (DnV t) c (thru_t t) (top_set t) (bot_set t) q (fine_t t).0 (fine_t t).1))

gap_node : (a : Box) (ks : Forest Box) → GapF ks → GapT (node a ks)
gap_node a ks g p e = pair_same (WithV ks p Nothing) _ _ there here (gap_pair ks begin Nothing p g e (pair_none Nothing (λ x h. h)))
  where
    there : (x : Float) → WithV ks p Nothing x → ClsVT (node a ks) p x
    there x (inl h) = absurd h.1
    there x (inr h) = (inr h.0, h.1, h.2)

    here : (x : Float) → ClsVT (node a ks) p x → WithV ks p Nothing x
    here x h = go h.0 h.1 h.2
      where
        go : (m : MarT (node a ks)) → ClsT (node a ks) p m → val_t (node a ks) m ≡ x → WithV ks p Nothing x
        go (inl s) c v = absurd c
        go (inr m) c v = inr (m, c, v)

mutual
  gap_t : (t : Tree Box) → GapT t
  gap_t (node a ks) = gap_node a ks (gap_f ks)

  gap_f : (ts : Forest Box) → GapF ts
  gap_f none = tt
  gap_f (more t ts) = (gap_t t, gap_f ts)

-- ---- the theorem

-- For each box below the root that is not through: its gap is passed out exactly if its top and its parent's top are in one class.
pub passed_out_lem : (t : Tree Box) → BelowT t → (p : SpotT t) → thru_at_t t p ≡ false → (m : MarT t) → ParentT t p m → Iff (out_at_t t p ≡ true) (ClassOf t p m)
passed_out_lem t b p e m h = (λ o. out_joined_t t p m h o, λ j. go (out_at_t t p) refl j)
  where
    go : (o : Bool) → out_at_t t p ≡ o → ClassOf t p m → out_at_t t p ≡ true
    go true q j = q
    go false q j = absurd (cls_parent_t t p m h ((is_class t p b e (not_out_t t p q) m).0 j))

-- If not, the gap is the largest positive plus the smallest negative of the class.
pub gap_is_sum : (t : Tree Box) → BelowT t → (p : SpotT t) → thru_at_t t p ≡ false → out_at_t t p ≡ false → Sum (λ x. Values (val_t t) (ClassOf t p) x) (gap_at t p)
unfolding sum_of
gap_is_sum t b p e o =
    record { positive = (gap_set_t t p).positive; negative = (gap_set_t t p).negative; most = whole.most; least = whole.least; is = ap (λ (w : Bool). cond w zero_f (sum_of (gap_set_t t p))) o }
  where
    whole : Pair (λ x. Values (val_t t) (ClassOf t p) x) (gap_set_t t p)
    whole = pair_same (ClsVT t p) _ _ (λ x h. (h.0, (is_class t p b e (not_out_t t p o) h.0).1 h.1, h.2)) (λ x h. (h.0, (is_class t p b e (not_out_t t p o) h.0).0 h.1, h.2)) (gap_t t p e)
