-- On a page whose pixel margins are 32-bit numbers the plain engine computes step J's gap.
use Rattle.std.specs.Prelude.{◌≡◌, refl, Bool, true, false, T, Float, Option, None, Some}
use Rattle.std.proofs.Common.{sym, subst}
use Rattle.std.specs.Float.Ieee.{fits}
use Rattle.std.specs.Float.{binary32}
use Rattle.std.specs.Float.Ieee.Bits.{of_bits-fits}
use Rattle.std.specs.Float.Ieee.Fits.{mul-fits}
use Rattle.geometry.specs.Geometry.{zero_f}
use Rattle.util.specs.Maybe.{or_zero}
use Rattle.length.specs.Length.{resolved_or_zero, resolved, scaled}
use Rattle.length.specs.declared.Length.{Length}
use Rattle.length.specs.declared.Length.TheVariants.{Auto, Pixels, Fraction}
use Rattle.tree.specs.Tree.{Tree, Forest, node, none, more}
use Rattle.style.specs.Flow.{is_leaf, flow_of}
use Rattle.steps.specs.Stack.{start_of, question_to, past_aside, past_hidden}
use Rattle.steps.specs.Page.{Site, Node}
use Rattle.style.specs.declared.Flow.{Flow}
use Rattle.style.specs.declared.Flow.TheVariants.{Gone, Out, In}
use Rattle.steps.specs.declared.LayoutInput.{LayoutInput}
use Rattle.steps.specs.declared.Frame.{Frame}
use Rattle.steps.specs.declared.Cursor.{Cursor}
use Rattle.steps.proofs.Clauses.{frame_at, style_t}
use Rattle.classes.specs.Margins.{Box}
use Rattle.classes.specs.Spots.{SpotT, box_at_t}
use Rattle.classes.specs.Engine.{Told, told_by}
use Rattle.classes.specs.Real.{box_t, box_f, box_t_at, box_f_at, box_f_none, next_c}
use Rattle.laws.specs.Trees.{AllT, AllF}

abbrev pub F32 : Float → Type 0
F32 x = T (fits binary32 x)

-- a pixel length is a 32-bit number
abbrev pub FitL : Length → Type 0
FitL Auto = Unit {0}
FitL (Pixels x) = F32 x
FitL (Fraction f) = Unit {0}

fit_resolved : (l : Length) (b : Option Float) → FitL l → F32 (resolved_or_zero l b)
unfolding resolved_or_zero resolved scaled
fit_resolved Auto b h = of_bits-fits binary32 0
fit_resolved (Pixels x) b h = h
fit_resolved (Fraction f) None h = of_bits-fits binary32 0
fit_resolved (Fraction f) (Some b) h = mul-fits binary32 f b

abbrev mutual
  pub FitT : Tree Node → Type 0
  FitT (node l ks) = FitL l.site.style.margin.top × FitL l.site.style.margin.bottom × FitF ks

  pub FitF : Forest Node → Type 0
  FitF none = Unit {0}
  FitF (more t ts) = FitT t × FitF ts

abbrev mutual
  pub FitBT : Tree Box → Type 0
  FitBT (node a ks) = F32 a.above × F32 a.under × FitBF ks

  pub FitBF : Forest Box → Type 0
  FitBF none = Unit {0}
  FitBF (more t ts) = FitBT t × FitBF ts

abbrev pub BoxFitT : Tree Node → Type 0
BoxFitT t = (q : LayoutInput) (found gap : Float) (p : Bool) → FitBT (box_t t q found gap p)

abbrev BoxFitF : Forest Node → Type 0
BoxFitF ts = (f : Frame) (c : Cursor) → FitBF (box_f ts f c)

fit_node : (l : Node) (ks : Forest Node) → FitL l.site.style.margin.top → FitL l.site.style.margin.bottom → BoxFitF ks → BoxFitT (node l ks)
fit_node l ks a b h q found gap p = go (is_leaf l.site.style.kind) refl
  where
    go : (w : Bool) → is_leaf l.site.style.kind ≡ w → FitBT (box_t (node l ks) q found gap p)
    go true e = subst FitBT (sym (box_t_at l ks q found gap p true e)) (fit_resolved _ q.parent a, fit_resolved _ q.parent b, tt)
    go false e = subst FitBT (sym (box_t_at l ks q found gap p false e)) (fit_resolved _ q.parent a, fit_resolved _ q.parent b, h (frame_at l q found) (start_of (frame_at l q found)))

fit_more : (t : Tree Node) (ts : Forest Node) → BoxFitT t → BoxFitF ts → BoxFitF (more t ts)
fit_more t ts h r f c = go (flow_of (style_t t)) refl
  where
    go : (w : Flow) → flow_of (style_t t) ≡ w → FitBF (box_f (more t ts) f c)
    go Gone e = subst FitBF (sym (box_f_at t ts f c Gone e)) (r f (past_hidden c))
    go Out e = subst FitBF (sym (box_f_at t ts f c Out e)) (r f (past_aside c))
    go In e = subst FitBF (sym (box_f_at t ts f c In e)) (h (question_to f (style_t t)) zero_f _ _, r f (next_c t f c))

mutual
  pub box_fits_t : (t : Tree Node) → FitT t → BoxFitT t
  box_fits_t (node l ks) h = fit_node l ks h.0 h.1 (box_fits_f ks h.2)

  box_fits_f : (ts : Forest Node) → FitF ts → BoxFitF ts
  box_fits_f none h = λ f c. subst FitBF (sym (box_f_none f c)) tt
  box_fits_f (more t ts) h = fit_more t ts (box_fits_t t h.0) (box_fits_f ts h.1)

-- ---- a fresh layout

-- both vertical margins of a node
abbrev pub FitS : Site → Type 0
FitS s = FitL s.style.margin.top × FitL s.style.margin.bottom

mutual
  unfolding AllT

  pub fit_t : (t : Tree Node) → AllT (λ (n : Node). FitS n.site) t → FitT t
  fit_t (node l ks) h = (h.0.0, h.0.1, fit_f ks h.1)

  fit_f : (ts : Forest Node) → AllF (λ (n : Node). FitS n.site) ts → FitF ts
  fit_f none h = tt
  fit_f (more t ts) h = (fit_t t h.0, fit_f ts h.1)

-- what J did with a box
abbrev pub did_at : (t : Tree Box) → SpotT t → Told
did_at t p = told_by (box_at_t t p).through (box_at_t t p).passed (box_at_t t p).gap
