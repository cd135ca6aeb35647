-- Where a row's baseline comes from: it is that of a leaf at or below the node, moved by the places of the boxes between.
use Rattle.std.specs.Prelude.{◌≡◌, Bool, true, false, ◌⊎◌, Float, Some}
use Rattle.geometry.specs.Floats.{◌⊕◌}
use Rattle.style.specs.Codes.{flag_at}
use Rattle.style.specs.Flow.{is_leaf}
use Rattle.tree.specs.Tree.{Tree, Forest, node, none, more, root_t}
use Rattle.steps.specs.Row.{Row, is_laid}
use Rattle.steps.specs.Page.{Site}

-- a row that has a baseline, and which
abbrev pub lined : Row → Bool
lined r = flag_at r.bits 9

abbrev pub line_in : Row → Float
line_in r = r.answer.baseline

-- M moved a child by d to its place y, and its baseline c with it
pub record Shifted (y c b : Float) : Type 0 where
  pub before : Float
  pub d : Float
  pub place : y ≡ before ⊕ d
  pub line : b ≡ (before ⊕ c) ⊕ d

-- b is the baseline c of a child at place y
abbrev pub Moved : Float → Float → Float → Type 0
Moved y c b = (b ≡ y ⊕ c) ⊎ Shifted y c b

-- a leaf's own
pub record OfLeaf (s : Site) (b : Float) : Type 0 where
  pub leaf : is_leaf s.style.kind ≡ true
  pub own : s.style.measure.baseline ≡ Some b

-- a child in flow that has one, which comes from where `from` says
pub record FromChild (r : Row) (from : Type 0) (b : Float) : Type 0 where
  pub laid : is_laid r ≡ true
  pub has : lined r ≡ true
  pub below : from
  pub moved : Moved r.place.y (line_in r) b

-- b at a node is the leaf's, or that of the first child in flow that has one, with none before it
abbrev mutual
  pub CarriesT : Tree Site → Tree Row → Float → Type 0
  CarriesT (node s ks) (node r us) b = OfLeaf s b ⊎ FirstF ks us b

  pub FirstF : Forest Site → Forest Row → Float → Type 0
  FirstF none us b = ⊥
  FirstF (more t ts) none b = ⊥
  FirstF (more t ts) (more u us) b = FromChild (root_t u) (CarriesT t u (line_in (root_t u))) b ⊎ ((lined (root_t u) ≡ false) × FirstF ts us b)

-- so at each node whose row has a baseline
abbrev mutual
  pub SaysT : Tree Site → Tree Row → Type 0
  SaysT (node s ks) (node r us) = (lined r ≡ true → CarriesT (node s ks) (node r us) (line_in r)) × SaysF ks us

  pub SaysF : Forest Site → Forest Row → Type 0
  SaysF none us = Unit {0}
  SaysF (more t ts) none = ⊥
  SaysF (more t ts) (more u us) = SaysT t u × SaysF ts us
