-- The class of a box that is not through, and whose gap is not passed out.
use Rattle.std.specs.Prelude.{◌≡◌, false}
use Rattle.std.proofs.Common.{inl, inr}
use Rattle.tree.specs.Tree.{Tree, Forest, node, none, more}
use Rattle.classes.specs.Margins.{Box, Top, Bottom, MarT, LinkT, LinkF, Joined, back}
use Rattle.classes.specs.Spots.{SpotT, SpotF, top_t, top_f}
use Rattle.classes.specs.Stacking.{begin, thru_at_t, thru_at_f}
use Rattle.classes.specs.Collect.{Iff, BelowT, below, NoBridgeF, ClosedT, ClosedF}
use Rattle.classes.proofs.Collect.{left_closed, bot_closed}
use Rattle.classes.specs.Linked.{carry, chain, close, own, own_bottom, first_of}
use Rattle.classes.proofs.Linked.{left_joined, bot_joined}
use Rattle.classes.specs.Class.{InT, InF, ClsT, ClsF, reach_first, cls_node, cls_later, cls_below, ClsJT, ClsJF, joined_node, joined_below, cls_own_t, out_child, OutJT, OutJF, out_below, out_later}

mutual
  pub cls_closed_t : (t : Tree Box) (p : SpotT t) → BelowT t → thru_at_t t p ≡ false → InT t p → ClosedT t (ClsT t p)
  cls_closed_t (node a ks) p b e i = cls_node a ks p e i (cls_closed_f ks p b e i.1)

  cls_closed_f : (ts : Forest Box) (p : SpotF ts) → NoBridgeF ts → thru_at_f ts p ≡ false → InF ts p → ClosedF ts (ClsF ts p)
  cls_closed_f none p b e i = absurd p
  cls_closed_f (more t ts) (inl u) b e i = left_closed (more t ts) b
  cls_closed_f (more t ts) (inr (inl p)) b e i = cls_below t ts p (cls_closed_t t p (below t b.0) e i)
  cls_closed_f (more t ts) (inr (inr p)) b e i = cls_later t ts p (bot_closed t b.0) (cls_closed_f ts p b.1 e i)

joined_this : (t : Tree Box) (ts : Forest Box) → ClsJF (more t ts) (inl tt)
joined_this (node a ks) ts m c = left_joined (more (node a ks) ts) m c (inl (inl Top)) tt

joined_later : (t : Tree Box) (ts : Forest Box) (p : SpotF ts) → ClsJF ts p → ClsJF (more t ts) (inr (inr p))
joined_later t ts p h (inl m) c =
    let f = first_of ts (top_f ts p) in
    chain (LinkF (more t ts)) (inr (top_f ts p)) (inl (own Bottom t)) (inl m)
    (back (inr f.0) (inl (own Bottom t)) (carry (LinkF ts) (LinkF (more t ts)) (λ m. inr m) (λ m n r. r) (top_f ts p) f.0 (h f.0 (reach_first ts p f.0 c.0 f.1))) (own_bottom t, f.1))
    (carry (LinkT t) (LinkF (more t ts)) (λ m. inl m) (λ m n r. r) (own Bottom t) m (bot_joined t m c.1 (own Bottom t) (own_bottom t)))
joined_later t ts p h (inr m) c = carry (LinkF ts) (LinkF (more t ts)) (λ m. inr m) (λ m n r. r) (top_f ts p) m (h m c)

mutual
  pub cls_joined_t : (t : Tree Box) (p : SpotT t) → ClsJT t p
  cls_joined_t (node a ks) p = joined_node a ks p (cls_joined_f ks p)

  pub cls_joined_f : (ts : Forest Box) (p : SpotF ts) → ClsJF ts p
  cls_joined_f none p = absurd p
  cls_joined_f (more t ts) (inl u) = joined_this t ts
  cls_joined_f (more t ts) (inr (inl p)) = joined_below t ts p (cls_joined_t t p)
  cls_joined_f (more t ts) (inr (inr p)) = joined_later t ts p (cls_joined_f ts p)

-- so it is the class
pub is_class : (t : Tree Box) (p : SpotT t) → BelowT t → thru_at_t t p ≡ false → InT t p → (m : MarT t) → Iff (Joined (LinkT t) (top_t t p) m) (ClsT t p m)
is_class t p b e i m = (close (LinkT t) (ClsT t p) (top_t t p) (cls_closed_t t p b e i) (cls_own_t t p) m, cls_joined_t t p m)

out_node : (a : Box) (ks : Forest Box) (p : SpotF ks) → OutJF ks p → OutJT (node a ks) p
out_node a ks p j (inl Top) h e =
    let o = out_child ks a.start begin p h e in
    let f = first_of ks (top_f ks p) in
    back (inr f.0) (inl Top) (carry (LinkF ks) (LinkT (node a ks)) (λ m. inr m) (λ m n r. r) (top_f ks p) f.0 (cls_joined_f ks p f.0 (reach_first ks p f.0 o.2 f.1))) (o.0, f.1)
out_node a ks p j (inl Bottom) h e = absurd h
out_node a ks p j (inr m) h e = carry (LinkF ks) (LinkT (node a ks)) (λ m. inr m) (λ m n r. r) (top_f ks p) m (j a.start begin m h e)

mutual
  pub out_joined_t : (t : Tree Box) (p : SpotT t) → OutJT t p
  out_joined_t (node a ks) p = out_node a ks p (out_joined_f ks p)

  out_joined_f : (ts : Forest Box) (p : SpotF ts) → OutJF ts p
  out_joined_f none p = absurd p
  out_joined_f (more t ts) (inl u) = λ s c m h. absurd h
  out_joined_f (more t ts) (inr (inl p)) = out_below t ts p (out_joined_t t p)
  out_joined_f (more t ts) (inr (inr p)) = out_later t ts p (out_joined_f ts p)
