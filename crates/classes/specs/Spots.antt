-- The boxes below the root, by where they stand: a box's own numbers, its top margin and the class of that, and its parent's top margin.
use Rattle.std.specs.Prelude.{◌⊎◌}
use Rattle.std.proofs.Common.{inl, inr}
use Rattle.tree.specs.Tree.{Tree, Forest, node, none, more}
use Rattle.classes.specs.Margins.{Box, Top, Bottom, MarT, MarF, LinkT, Joined}

-- a child: this one, one below it, or a later one
abbrev mutual
  pub SpotT : Tree Box → Type 0
  SpotT (node a ks) = SpotF ks

  pub SpotF : Forest Box → Type 0
  SpotF none = ⊥
  SpotF (more t ts) = Unit {0} ⊎ (SpotT t ⊎ SpotF ts)

abbrev pub own_top : (t : Tree Box) → MarT t
own_top (node a ks) = inl Top

-- its top margin
abbrev mutual
  pub top_t : (t : Tree Box) → SpotT t → MarT t
  top_t (node a ks) p = inr (top_f ks p)

  pub top_f : (ts : Forest Box) → SpotF ts → MarF ts
  top_f none p = absurd p
  top_f (more t ts) (inl u) = inl (own_top t)
  top_f (more t ts) (inr (inl p)) = inl (top_t t p)
  top_f (more t ts) (inr (inr p)) = inr (top_f ts p)

-- a margin that is its parent's top
abbrev pub IsChild : (ts : Forest Box) → SpotF ts → Type 0
IsChild none p = ⊥
IsChild (more t ts) (inl u) = Unit {0}
IsChild (more t ts) (inr (inl p)) = ⊥
IsChild (more t ts) (inr (inr p)) = IsChild ts p

abbrev mutual
  pub ParentT : (t : Tree Box) → SpotT t → MarT t → Type 0
  ParentT (node a ks) p (inl Top) = IsChild ks p
  ParentT (node a ks) p (inl Bottom) = ⊥
  ParentT (node a ks) p (inr m) = ParentF ks p m

  pub ParentF : (ts : Forest Box) → SpotF ts → MarF ts → Type 0
  ParentF none p m = ⊥
  ParentF (more t ts) (inl u) m = ⊥
  ParentF (more t ts) (inr (inl p)) (inl m) = ParentT t p m
  ParentF (more t ts) (inr (inl p)) (inr m) = ⊥
  ParentF (more t ts) (inr (inr p)) (inl m) = ⊥
  ParentF (more t ts) (inr (inr p)) (inr m) = ParentF ts p m

-- the box there
abbrev pub box_on : Tree Box → Box
box_on (node a ks) = a

abbrev mutual
  pub box_at_t : (t : Tree Box) → SpotT t → Box
  box_at_t (node a ks) p = box_at_f ks p

  pub box_at_f : (ts : Forest Box) → SpotF ts → Box
  box_at_f none p = absurd p
  box_at_f (more t ts) (inl u) = box_on t
  box_at_f (more t ts) (inr (inl p)) = box_at_t t p
  box_at_f (more t ts) (inr (inr p)) = box_at_f ts p

-- the class of the top margin of the box at p: the margins joined to it
abbrev pub ClassOf : (t : Tree Box) → SpotT t → MarT t → Type 0
ClassOf t p m = Joined (LinkT t) (top_t t p) m
