-- On a page whose pixel margins are 32-bit numbers the plain engine computes step J's gap.
use Rattle.std.specs.Prelude.{◌≡◌, refl, Bool, true, false, Float}
use Rattle.std.proofs.Common.{sym, subst, ◌∙◌, inl, inr}
use Rattle.geometry.specs.Geometry.{zero_f}
use Rattle.tree.specs.Tree.{Tree, Forest, node, none, more}
use Rattle.steps.specs.Page.{Site, Node}
use Rattle.steps.specs.declared.LayoutInput.{LayoutInput}
use Rattle.classes.specs.Margins.{Box, Top, Bottom, MarT, MarF, val_t, val_f}
use Rattle.classes.specs.Spots.{SpotT, box_at_t}
use Rattle.classes.specs.Stacking.{gap_noted_t, out_noted_t, thru_noted_t}
use Rattle.classes.specs.Engine.{plain_gap, plain_out_t, told_at}
use Rattle.classes.proofs.Engine.{gap_is_plain, out_is_plain}
use Rattle.classes.specs.Real.{UnlaidT}
use Rattle.classes.proofs.Real.{note_t}
use Rattle.classes.specs.Page.{LowT, boxes_of}
use Rattle.classes.proofs.Page.{below_root}
use Rattle.laws.specs.Trees.{AllT}
use Rattle.classes.specs.Fresh.{NoRatio, nodes_of, found_of, fresh_boxes, all_sites, fresh_unlaid}
use Rattle.classes.proofs.Fresh.{fresh_low}
use Rattle.classes.specs.Computes.{F32, FitT, FitBT, FitBF, box_fits_t, FitS, fit_t, did_at}

mutual
  val_fits_t : (t : Tree Box) → FitBT t → (m : MarT t) → F32 (val_t t m)
  val_fits_t (node a ks) h (inl Top) = h.0
  val_fits_t (node a ks) h (inl Bottom) = h.1
  val_fits_t (node a ks) h (inr m) = val_fits_f ks h.2 m

  val_fits_f : (ts : Forest Box) → FitBF ts → (m : MarF ts) → F32 (val_f ts m)
  val_fits_f none h m = absurd m
  val_fits_f (more t ts) h (inl m) = val_fits_t t h.0 m
  val_fits_f (more t ts) h (inr m) = val_fits_f ts h.1 m

-- bit for bit
pub page_computes : (t : Tree Node) (q : LayoutInput) (found : Float) → UnlaidT t → LowT t → FitT t → (p : SpotT (boxes_of t q found)) → (box_at_t (boxes_of t q found) p).through ≡ false
    → (box_at_t (boxes_of t q found) p).passed ≡ false → (box_at_t (boxes_of t q found) p).gap ≡ plain_gap (boxes_of t q found) p
page_computes t q found u r f p s o =
    let b = boxes_of t q found in
    let n = note_t t u q found zero_f false in
    gap_noted_t b p n
    ∙ gap_is_plain b (below_root t q found u r) p (sym (thru_noted_t b p) ∙ s) (sym (out_noted_t b p n) ∙ o)
    (λ x h. subst F32 h.2 (val_fits_t b (box_fits_t t f q found zero_f false) h.0))

pub fresh_computes : (t : Tree Site) (q : LayoutInput) → AllT NoRatio t → AllT FitS t → (p : SpotT (fresh_boxes t q)) → (box_at_t (fresh_boxes t q) p).through ≡ false → (box_at_t (fresh_boxes t q) p).passed ≡ false
    → (box_at_t (fresh_boxes t q) p).gap ≡ plain_gap (fresh_boxes t q) p
fresh_computes t q r f = page_computes (nodes_of t q) q (found_of t q) (fresh_unlaid t q) (fresh_low t q r) (fit_t (nodes_of t q) (all_sites FitS t q f))

-- is the gap passed out: the plain engine knows, with or without ratio
pub fresh_out : (t : Tree Site) (q : LayoutInput) (p : SpotT (fresh_boxes t q)) → (box_at_t (fresh_boxes t q) p).passed ≡ plain_out_t (fresh_boxes t q) p
fresh_out t q p = out_noted_t (fresh_boxes t q) p (note_t (nodes_of t q) (fresh_unlaid t q) q (found_of t q) zero_f false) ∙ out_is_plain (fresh_boxes t q) p

-- The plain engine tells of every box below the root what J did with it, bit for bit.
pub fresh_told : (t : Tree Site) (q : LayoutInput) → AllT NoRatio t → AllT FitS t → (p : SpotT (fresh_boxes t q)) → did_at (fresh_boxes t q) p ≡ told_at (fresh_boxes t q) p
fresh_told t q r f p = go (box_at_t b p).through (box_at_t b p).passed refl refl
  where
    b : Tree Box
    b = fresh_boxes t q

    go : (v w : Bool) → (box_at_t (fresh_boxes t q) p).through ≡ v → (box_at_t (fresh_boxes t q) p).passed ≡ w → did_at (fresh_boxes t q) p ≡ told_at (fresh_boxes t q) p
    go true w e d = rw e
    go false true e d = rw (e, ← fresh_out t q p, d)
    go false false e d = rw (e, ← fresh_out t q p, d, fresh_computes t q r f p e d)
