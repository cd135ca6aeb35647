-- The theorem of a fresh layout.
use Rattle.std.specs.Prelude.{◌≡◌, true, false}
use Rattle.tree.specs.Tree.{Tree, Forest, node, none, more}
use Rattle.steps.specs.Page.{Site, Node}
use Rattle.steps.specs.declared.LayoutInput.{LayoutInput}
use Rattle.laws.specs.Trees.{AllT, AllF}
use Rattle.classes.specs.Margins.{MarT, val_t, Values, Sum}
use Rattle.classes.specs.Spots.{SpotT, ParentT, box_at_t, ClassOf}
use Rattle.classes.specs.Collect.{Iff}
use Rattle.classes.specs.Page.{NoRatioT, NoRatioF, LowT}
use Rattle.classes.proofs.Page.{page_passed, page-gap}
use Rattle.classes.specs.Fresh.{nodes_of, found_of, fresh_boxes, NoRatio, all_sites, low, fresh_unlaid}

mutual
  unfolding AllT

  ratio_t : (t : Tree Node) → AllT (λ (n : Node). NoRatio n.site) t → NoRatioT t
  ratio_t (node l ks) h = (h.0, ratio_f ks h.1)

  ratio_f : (ts : Forest Node) → AllF (λ (n : Node). NoRatio n.site) ts → NoRatioF ts
  ratio_f none h = tt
  ratio_f (more t ts) h = (ratio_t t h.0, ratio_f ts h.1)

pub fresh_low : (t : Tree Site) (q : LayoutInput) → AllT NoRatio t → LowT (nodes_of t q)
fresh_low t q h = low (nodes_of t q) (ratio_t (nodes_of t q) (all_sites NoRatio t q h))

-- For each laid box below the root that is not through, on a page without ratio:
module _ (t : Tree Site) (q : LayoutInput) (plain : AllT NoRatio t) (p : SpotT (fresh_boxes t q)) (stands : (box_at_t (fresh_boxes t q) p).through ≡ false) where
  -- J passes its gap out exactly if its top and its parent's top are in one class
  pub fresh-passed : (m : MarT (fresh_boxes t q)) → ParentT (fresh_boxes t q) p m → Iff ((box_at_t (fresh_boxes t q) p).passed ≡ true) (ClassOf (fresh_boxes t q) p m)
  fresh-passed = page_passed (nodes_of t q) q (found_of t q) (fresh_unlaid t q) (fresh_low t q plain) p stands

  -- if not, its gap is the largest positive plus the smallest negative of its class
  pub fresh-gap : (box_at_t (fresh_boxes t q) p).passed ≡ false → Sum (λ x. Values (val_t (fresh_boxes t q)) (ClassOf (fresh_boxes t q) p) x) (box_at_t (fresh_boxes t q) p).gap
  fresh-gap = page-gap (nodes_of t q) q (found_of t q) (fresh_unlaid t q) (fresh_low t q plain) p stands
