-- The theorem of a page: on a layout with nothing kept and no ratio.
use Rattle.std.specs.Prelude.{◌≡◌, refl, Bool, true, false, ◌&&◌, Float, None}
use Rattle.std.proofs.Common.{sym, ap, subst, ◌∙◌}
use Rattle.geometry.specs.Geometry.{zero_f}
use Rattle.tree.specs.Tree.{Tree, Forest, node, none, more, root_t}
use Rattle.style.specs.Flow.{is_leaf, flow_of}
use Rattle.steps.specs.Stack.{start_of, question_to, item_of, past_aside, past_hidden, top_margins, gap_of, at_top}
use Rattle.steps.specs.Height.{still_own_end}
use Rattle.steps.specs.Page.{Node}
use Rattle.steps.specs.Layout.{lay_f}
use Rattle.style.specs.declared.Flow.{Flow}
use Rattle.style.specs.declared.Flow.TheVariants.{Gone, Out, In}
use Rattle.steps.specs.declared.LayoutInput.{LayoutInput}
use Rattle.steps.specs.declared.Frame.{Frame}
use Rattle.steps.proofs.Clauses.{frame_at, style_t, lay_f_none}
use Rattle.classes.specs.Margins.{MarT, val_t, Values, Sum}
use Rattle.classes.specs.Spots.{SpotT, ParentT, box_at_t, ClassOf}
use Rattle.classes.specs.Stacking.{thru_t, all_thru, gap_noted_t, out_noted_t, thru_noted_t, thru_at_t, out_at_t}
use Rattle.classes.specs.Collect.{Iff, Sound, NoBridgeT, NoBridgeF, BelowT, left, right}
use Rattle.classes.proofs.Theorem.{passed_out_lem, gap_is_sum}
use Rattle.classes.specs.Bridge.{fr, no_bridge}
use Rattle.classes.specs.Real.{box_t, box_f, box_t_at, box_f_at, box_f_none, block_box, next_c, this_box, answer, UnlaidT, UnlaidF, end_gone, end_out, end_in}
use Rattle.classes.proofs.Real.{same_t, note_t}
use Rattle.classes.specs.Page.{NoRatioT, NoRatioF, stepped_thru, Stay, StayF, stay_by, start_y, out_is, BridgeT, BridgeF, bridge_more, LowT, boxes_of}

stay_more : (t : Tree Node) (ts : Forest Node) → UnlaidT t → StayF ts → StayF (more t ts)
unfolding past_hidden past_aside
stay_more t ts u r f c h = go (flow_of (style_t t)) refl
  where
    go : (w : Flow) → flow_of (style_t t) ≡ w → Stay (lay_f (more t ts) f c).last c
    go Gone e = stay_by _ _ c (end_gone t ts f c e) (r f (past_hidden c) (ap all_thru (sym (box_f_at t ts f c Gone e)) ∙ h))
    go Out e = stay_by _ _ c (end_out t ts f c e) (r f (past_aside c) (ap all_thru (sym (box_f_at t ts f c Out e)) ∙ h))
    go In e =
        let k : (thru_t (this_box t f c) && all_thru (box_f ts f (next_c t f c))) ≡ true = ap all_thru (sym (box_f_at t ts f c In e)) ∙ h in
        let o = (same_t t u (question_to f (style_t t)) zero_f (gap_of f c (top_margins (item_of f (style_t t)) (answer t f))) (at_top f c)).through in
        let s = stepped_thru f c (item_of f (style_t t)) (answer t f) (o ∙ left _ (all_thru (box_f ts f (next_c t f c))) k) in
        let z = r f (next_c t f c) (right (thru_t (this_box t f c)) _ k) in
        stay_by _ _ c (end_in t ts f c u e) (z.0 ∙ s.0, z.1 ∙ s.1)

stay_f : (ts : Forest Node) → UnlaidF ts → StayF ts
stay_f none u f c h = stay_by _ c c (ap (λ z. z.last) (lay_f_none f c)) (refl, refl)
stay_f (more t ts) u f c h = stay_more t ts u.0 (stay_f ts u.1) f c h

sound_block : (l : Node) (ks : Forest Node) (f : Frame) (gap : Float) (p : Bool) → UnlaidF ks → l.site.style.ratio ≡ None → is_leaf l.site.style.kind ≡ false
    → Sound (block_box l ks (question_to f l.site.style) zero_f gap p) (box_f ks (fr f l.site.style) (start_of (fr f l.site.style)))
sound_block l ks f gap p u r e a b k h =
    let s = l.site.style in
    let F = fr f s in
    let c = (lay_f ks F (start_of F)).last in
    let o = out_is l ks (question_to f s) zero_f e in
    let w = stay_f ks u F (start_of F) h in
    o.1 ∙ no_bridge f s c r a (ap (still_own_end F) (sym o.0) ∙ b) (w.0 ∙ (start_y F).0) (w.1 ∙ (start_y F).1)

bridge_node : (l : Node) (ks : Forest Node) → UnlaidF ks → l.site.style.ratio ≡ None → BridgeF ks → BridgeT (node l ks)
unfolding root_t
bridge_node l ks u r h f gap p = go (is_leaf l.site.style.kind) refl
  where
    go : (b : Bool) → is_leaf l.site.style.kind ≡ b → NoBridgeT (box_t (node l ks) (question_to f l.site.style) zero_f gap p)
    go true e = subst NoBridgeT (sym (box_t_at l ks _ zero_f gap p true e)) (λ a b k g. absurd k, tt)
    go false e = subst NoBridgeT (sym (box_t_at l ks _ zero_f gap p false e)) (sound_block l ks f gap p u r e, h (fr f l.site.style) (start_of (fr f l.site.style)))

mutual
  bridge_t : (t : Tree Node) → UnlaidT t → NoRatioT t → BridgeT t
  bridge_t (node l ks) u r = bridge_node l ks u.1 r.0 (bridge_f ks u.1 r.1)

  bridge_f : (ts : Forest Node) → UnlaidF ts → NoRatioF ts → BridgeF ts
  bridge_f none u r = λ f c. subst NoBridgeF (sym (box_f_none f c)) tt
  bridge_f (more t ts) u r = bridge_more t ts (bridge_t t u.0 r.0) (bridge_f ts u.1 r.1)

pub below_root : (t : Tree Node) (q : LayoutInput) (found : Float) → UnlaidT t → LowT t → BelowT (box_t t q found zero_f false)
below_root (node l ks) q found u r = go (is_leaf l.site.style.kind) refl
  where
    go : (b : Bool) → is_leaf l.site.style.kind ≡ b → BelowT (box_t (node l ks) q found zero_f false)
    go true e = subst BelowT (sym (box_t_at l ks q found zero_f false true e)) tt
    go false e = subst BelowT (sym (box_t_at l ks q found zero_f false false e)) (bridge_f ks u.1 r (frame_at l q found) (start_of (frame_at l q found)))

module _ (t : Tree Node) (q : LayoutInput) (found : Float) (unlaid : UnlaidT t) (plain : LowT t) (p : SpotT (boxes_of t q found)) (stands : (box_at_t (boxes_of t q found) p).through ≡ false) where
  not-thru : thru_at_t (boxes_of t q found) p ≡ false
  not-thru = sym (thru_noted_t (boxes_of t q found) p) ∙ stands

  out-is-noted : (box_at_t (boxes_of t q found) p).passed ≡ out_at_t (boxes_of t q found) p
  out-is-noted = out_noted_t (boxes_of t q found) p (note_t t unlaid q found zero_f false)

  -- J passes its gap out exactly if its top and its parent's top are in one class
  pub page_passed : (m : MarT (boxes_of t q found)) → ParentT (boxes_of t q found) p m → Iff ((box_at_t (boxes_of t q found) p).passed ≡ true) (ClassOf (boxes_of t q found) p m)
  page_passed m h =
      let i = passed_out_lem (boxes_of t q found) (below_root t q found unlaid plain) p not-thru m h in
      (λ e. i.0 (sym out-is-noted ∙ e), λ j. out-is-noted ∙ i.1 j)

  -- if not, its gap is the largest positive plus the smallest negative of its class
  pub page-gap : (box_at_t (boxes_of t q found) p).passed ≡ false → Sum (λ x. Values (val_t (boxes_of t q found)) (ClassOf (boxes_of t q found) p) x) (box_at_t (boxes_of t q found) p).gap
  page-gap e =
      subst (λ (g : Float). Sum (λ x. Values (val_t (boxes_of t q found)) (ClassOf (boxes_of t q found) p) x) g) (sym (gap_noted_t (boxes_of t q found) p (note_t t unlaid q found zero_f false)))
      (gap_is_sum (boxes_of t q found) (below_root t q found unlaid plain) p not-thru (sym out-is-noted ∙ e))
