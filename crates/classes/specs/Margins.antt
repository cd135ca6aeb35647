-- Margins for a reviewer of CSS 2.2 8.3.1: which margins adjoin, what a class is, and the one number that a class collapses to.
-- Boxes are the laid ones only: hidden and out-of-flow nodes are not in the tree, so siblings here are next to each other in flow.
use Rattle.std.specs.Prelude.{ℕ, ◌≡◌, ◌⊎◌, Bool, true, false, Float}
use Rattle.std.proofs.Common.{inl, inr}
use Rattle.std.specs.Float.Ieee.{lt, add}
use Rattle.std.specs.Float.{binary32}
use Rattle.geometry.specs.Geometry.{zero_f}
use Rattle.tree.specs.Tree.{Tree, Forest, node, none, more}

-- A laid box: its node and height; two margins; own start (I), own end as L leaves it, through (N); what J did: the gap, and if that was passed out.
pub record Box : Type 0 where
  pub node : ℕ
  pub height : Float
  pub above : Float
  pub under : Float
  pub start : Bool
  pub end : Bool
  pub through : Bool
  pub gap : Float
  pub passed : Bool

pub data Side : Type 0 where
  Top : Side
  Bottom : Side

-- a margin at or below a box: one of its own two, or one of a child's
abbrev mutual
  pub MarT : Tree Box → Type 0
  MarT (node a ks) = Side ⊎ MarF ks

  pub MarF : Forest Box → Type 0
  MarF none = ⊥
  MarF (more t ts) = MarT t ⊎ MarF ts

-- how large it is
abbrev mutual
  pub val_t : (t : Tree Box) → MarT t → Float
  val_t (node a ks) (inl Top) = a.above
  val_t (node a ks) (inl Bottom) = a.under
  val_t (node a ks) (inr m) = val_f ks m

  pub val_f : (ts : Forest Box) → MarF ts → Float
  val_f none m = absurd m
  val_f (more t ts) (inl m) = val_t t m
  val_f (more t ts) (inr m) = val_f ts m

-- the box's own margin on that side
abbrev pub IsSide : Side → Side → Type 0
IsSide Top Top = Unit {0}
IsSide Top Bottom = ⊥
IsSide Bottom Top = ⊥
IsSide Bottom Bottom = Unit {0}

abbrev pub Own : Side → (t : Tree Box) → MarT t → Type 0
Own s (node a ks) (inl r) = IsSide s r
Own s (node a ks) (inr m) = ⊥

-- the first child's top
abbrev pub FirstTop : (ts : Forest Box) → MarF ts → Type 0
FirstTop none m = ⊥
FirstTop (more t ts) (inl m) = Own Top t m
FirstTop (more t ts) (inr m) = ⊥

-- the last child's bottom
abbrev pub IsNone : Forest Box → Type 0
IsNone none = Unit {0}
IsNone (more t ts) = ⊥

abbrev pub LastBottom : (ts : Forest Box) → MarF ts → Type 0
LastBottom none m = ⊥
LastBottom (more t ts) (inl m) = Own Bottom t m × IsNone ts
LastBottom (more t ts) (inr m) = LastBottom ts m

-- The four links, and no others: through, own start, own end, and a bottom with the next top.
abbrev mutual
  pub LinkT : (t : Tree Box) → MarT t → MarT t → Type 0
  LinkT (node a ks) (inl Top) (inl Bottom) = a.through ≡ true
  LinkT (node a ks) (inl Top) (inr m) = (a.start ≡ true) × FirstTop ks m
  LinkT (node a ks) (inr m) (inl Bottom) = (a.end ≡ true) × LastBottom ks m
  LinkT (node a ks) (inr m) (inr n) = LinkF ks m n
  LinkT (node a ks) (inl Top) (inl Top) = ⊥
  LinkT (node a ks) (inl Bottom) n = ⊥
  LinkT (node a ks) (inr m) (inl Top) = ⊥

  pub LinkF : (ts : Forest Box) → MarF ts → MarF ts → Type 0
  LinkF none m n = ⊥
  LinkF (more t ts) (inl m) (inr n) = Own Bottom t m × FirstTop ts n
  LinkF (more t ts) (inl m) (inl n) = LinkT t m n
  LinkF (more t ts) (inr m) (inr n) = LinkF ts m n
  LinkF (more t ts) (inr m) (inl n) = ⊥

-- joined by links, either way: a class is all that is joined to one of its margins
pub data Joined {A : Type 0} (R : A → A → Type 0) (x : A) : A → Type 0 where
  self : Joined R x x
  on : (y z : A) → Joined R x y → R y z → Joined R x z
  back : (y z : A) → Joined R x y → R z y → Joined R x z

-- x is a value of one of these margins
abbrev pub Values : {M : Type 0} → (M → Float) → (M → Type 0) → Float → Type 0
Values {M} val P x = (m : M) × P m × (val m ≡ x)

-- the largest positive of some values, 0 if there is none; the smallest negative
pub record Largest (C : Float → Type 0) (x : Float) : Type 0 where
  pub none_above : (y : Float) → C y → lt x y ≡ false
  pub one : (x ≡ zero_f) ⊎ ((lt zero_f x ≡ true) × C x)

pub record Smallest (C : Float → Type 0) (x : Float) : Type 0 where
  pub none_below : (y : Float) → C y → lt y x ≡ false
  pub one : (x ≡ zero_f) ⊎ ((lt x zero_f ≡ true) × C x)

-- g is the one plus the other
pub record Sum (C : Float → Type 0) (g : Float) : Type 0 where
  pub positive : Float
  pub negative : Float
  pub most : Largest C positive
  pub least : Smallest C negative
  pub is : g ≡ add binary32 positive negative
