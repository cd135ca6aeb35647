-- The theorem of a page: on a layout with nothing kept and no ratio.
use Rattle.std.specs.Prelude.{◌≡◌, refl, Bool, true, false, Float, None}
use Rattle.std.proofs.Common.{sym, ap, subst, ◌∙◌}
use Rattle.geometry.specs.Geometry.{zero_f}
use Rattle.tree.specs.Tree.{Tree, Forest, node, none, more}
use Rattle.style.specs.Flow.{is_leaf, flow_of}
use Rattle.steps.specs.Stack.{start_of, question_to, stepped, past_through, past_aside, past_hidden}
use Rattle.steps.specs.Height.{step_l, step_k}
use Rattle.steps.specs.Through.{finished, output_of, step_n}
use Rattle.steps.specs.Page.{Node}
use Rattle.steps.specs.Layout.{lay_t, lay_f}
use Rattle.style.specs.declared.Flow.{Flow}
use Rattle.style.specs.declared.Flow.TheVariants.{Gone, Out, In}
use Rattle.steps.specs.declared.LayoutInput.{LayoutInput}
use Rattle.steps.specs.declared.LayoutOutput.{LayoutOutput}
use Rattle.steps.specs.declared.BlockItem.{BlockItem}
use Rattle.steps.specs.declared.Frame.{Frame}
use Rattle.steps.specs.declared.Cursor.{Cursor}
use Rattle.steps.proofs.Clauses.{frame_at, style_t, block_out, stack_of}
use Rattle.classes.specs.Margins.{Box}
use Rattle.classes.specs.Stacking.{all_thru}
use Rattle.classes.specs.Collect.{NoBridgeT, NoBridgeF}
use Rattle.classes.specs.Real.{box_t, box_f, box_f_at, next_c}

abbrev mutual
  pub NoRatioT : Tree Node → Type 0
  NoRatioT (node l ks) = (l.site.style.ratio ≡ None) × NoRatioF ks

  pub NoRatioF : Forest Node → Type 0
  NoRatioF none = Unit {0}
  NoRatioF (more t ts) = NoRatioT t × NoRatioF ts

-- ---- children that are all through leave the cursor where it was

pub stepped_thru : (f : Frame) (c : Cursor) (i : BlockItem) (o : LayoutOutput) → o.through ≡ true → ((stepped f c i o).y ≡ c.y) × ((stepped f c i o).allThrough ≡ c.allThrough)
unfolding stepped past_through
stepped_thru f c i o e = (rw (e), rw (e))

abbrev pub Stay : Cursor → Cursor → Type 0
Stay d c = (d.y ≡ c.y) × (d.allThrough ≡ c.allThrough)

abbrev pub StayF : Forest Node → Type 0
StayF ts = (f : Frame) (c : Cursor) → all_thru (box_f ts f c) ≡ true → Stay (lay_f ts f c).last c

pub stay_by : (d e c : Cursor) → d ≡ e → Stay e c → Stay d c
stay_by d e c p s = (ap (λ (z : Cursor). z.y) p ∙ s.0, ap (λ (z : Cursor). z.allThrough) p ∙ s.1)

-- ---- no bridge

pub start_y : (f : Frame) → ((start_of f).y ≡ f.inset.top) × ((start_of f).allThrough ≡ true)
unfolding start_of
start_y f = (refl, refl)

pub out_is : (l : Node) (ks : Forest Node) (q : LayoutInput) (found : Float) → is_leaf l.site.style.kind ≡ false
    → ((lay_t (node l ks) q found).out.size.height ≡ step_l (frame_at l q found) (step_k (frame_at l q found) (stack_of l ks q found).last))
    × ((lay_t (node l ks) q found).out.through ≡ step_n (frame_at l q found) (stack_of l ks q found).last (step_l (frame_at l q found) (step_k (frame_at l q found) (stack_of l ks q found).last)))
unfolding finished output_of
out_is l ks q found e = (ap (λ (o : LayoutOutput). o.size.height) (block_out l ks q found e), ap (λ (o : LayoutOutput). o.through) (block_out l ks q found e))

abbrev pub BridgeT : Tree Node → Type 0
BridgeT t = (f : Frame) (gap : Float) (p : Bool) → NoBridgeT (box_t t (question_to f (style_t t)) zero_f gap p)

abbrev pub BridgeF : Forest Node → Type 0
BridgeF ts = (f : Frame) (c : Cursor) → NoBridgeF (box_f ts f c)

pub bridge_more : (t : Tree Node) (ts : Forest Node) → BridgeT t → BridgeF ts → BridgeF (more t ts)
bridge_more t ts h r f c = go (flow_of (style_t t)) refl
  where
    go : (w : Flow) → flow_of (style_t t) ≡ w → NoBridgeF (box_f (more t ts) f c)
    go Gone e = subst NoBridgeF (sym (box_f_at t ts f c Gone e)) (r f (past_hidden c))
    go Out e = subst NoBridgeF (sym (box_f_at t ts f c Out e)) (r f (past_aside c))
    go In e = subst NoBridgeF (sym (box_f_at t ts f c In e)) (h f _ _, r f (next_c t f c))

-- the root may have a ratio, and may be a bridge
abbrev pub LowT : Tree Node → Type 0
LowT (node l ks) = NoRatioF ks

-- ---- the page

-- the boxes of a page, the root with no gap
abbrev pub boxes_of : Tree Node → LayoutInput → Float → Tree Box
boxes_of t q found = box_t t q found zero_f false
