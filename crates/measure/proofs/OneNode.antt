-- What each function of the two cycles does with one tree, in plain terms.
use Rattle.std.specs.Prelude.{Option, None, Some, is_some}
use Rattle.geometry.specs.declared.Size.{Size}
use mathlib.Core.Path.{◌≡◌, refl, sym, ap, ◌∙◌}
use mathlib.Core.Bool.{Bool, true, false, cond, true≢false}
use mathlib.Core.List.{List}
use Prim.Native.Nat.{ℕ, ◌+◌, ◌-◌}
use lib.ListN.{length, take, drop}
use lib.Ieee.{Float}
use Rattle.geometry.specs.Geometry.{zero_f}
use Rattle.util.specs.Math.{larger}
use Rattle.length.specs.declared.AvailableSpace.{AvailableSpace}
use Rattle.style.specs.Style.{style_at}
use Rattle.style.specs.declared.Style.{Style}
use Rattle.tree.specs.Tree.{Tree, Forest, node, root_t}
use Rattle.tree.proofs.Laws.{root_t_node}
use Rattle.style.specs.Flow.{is_leaf, flow_of}
use Rattle.steps.specs.Width.{want_of, outer_width, leaf_width}
use Rattle.steps.specs.Edges.{frame_of}
use Rattle.steps.specs.Stack.{start_of, item_of, question_to, stepped, past_aside, past_hidden}
use Rattle.steps.specs.Through.{finished, leaf_output}
use Rattle.steps.specs.Page.{Site}
use Rattle.steps.specs.Probe.{probe_known, space_in, found_width}
use Rattle.style.specs.declared.Flow.{Flow}
use Rattle.style.specs.declared.Flow.TheVariants.{Gone, Out, In}
use Rattle.steps.specs.declared.Want.{Want}
use Rattle.steps.specs.declared.Want.TheVariants.{Nothing, Outer}
use Rattle.steps.specs.declared.Want.TheVariants as want
use Rattle.steps.specs.declared.ProbeInput.{ProbeInput}
use Rattle.steps.specs.declared.LayoutInput.{LayoutInput}
use Rattle.steps.specs.declared.LayoutOutput.{LayoutOutput}
use Rattle.steps.specs.declared.BlockItem.{BlockItem}
use Rattle.steps.specs.declared.Sizing.{Sizing}
use Rattle.stacking.specs.Footing.{footing_of, item_with, with_footing}
use Rattle.stacking.specs.declared.Footing.{Footing}
use Rattle.heights.specs.declared.StackOutput.{StackOutput}
use Rattle.widths.specs.AtOnce.{width_at_once}
use Rattle.steps.specs.declared.Frame.{Frame}
use Rattle.steps.specs.declared.Cursor.{Cursor}
use Rattle.measure.specs.Dry.{width_by, width_t, width_f, widen_by, widened, size_t, size_f, past_by, past_t, found_by, found_t}
use Rattle.measure.specs.Contract.{SitesT, Width, Widened, Widest, MeasuredT, MeasuredF, Ended, Found}
use Rattle.measure.proofs.Sites.{root_style, kids_of}
use Rattle.measure.proofs.DryClauses.{width_t_leaf, width_t_block, size_t_leaf, size_t_block}

-- the value there, or x
abbrev or_else : Float → Option Float → Float
or_else x None = x
or_else x (Some y) = y

-- the cursor past one child
abbrev pub Passed : List ℕ → List Float → ℕ → Frame → Cursor → Cursor → Type 0
Passed ws xs b f c r = (t : Tree Site) → SitesT ws xs b t → r ≡ past_t f c t

module _ (ws : List ℕ) (xs : List Float) (b : ℕ) (s : Style) (hs : s ≡ style_at ws 0 xs b) where
  style-of : (l : Site) (ks : Forest Site) → SitesT ws xs b (node l ks) → s ≡ l.style
  style-of l ks h = hs ∙ root_style ws xs b l ks h

  pub root_of_lem : (l : Site) (ks : Forest Site) → SitesT ws xs b (node l ks) → (root_t (node l ks)).style ≡ s
  root_of_lem l ks h = ap (λ (z : Site). z.style) (root_t_node l ks) ∙ sym (style-of l ks h)

  kind_of_lem : (l : Site) (ks : Forest Site) (v : Bool) → SitesT ws xs b (node l ks) → is_leaf s.kind ≡ v → is_leaf l.style.kind ≡ v
  kind_of_lem l ks v h e = ap (λ (z : Style). is_leaf z.kind) (sym (style-of l ks h)) ∙ e

  -- ---- a probe
  leaf_width_lem : (q : ProbeInput) (r : Float) → is_leaf s.kind ≡ true → r ≡ leaf_width s.measure q.available → Width ws xs b q r
  leaf_width_lem q r e hr (node l ks) h = hr ∙ ap (λ (z : Style). leaf_width z.measure q.available) (style-of l ks h) ∙ sym (width_t_leaf l ks q (kind_of_lem l ks true h e))

  width-by : (q : ProbeInput) (known : Size (Option Float)) (o : Option Float) (l : Site) (ks : Forest Site) → SitesT ws xs b (node l ks) → is_leaf s.kind ≡ false → known ≡ probe_known s q → known.width ≡ o
      → width_t (node l ks) q ≡ width_by s o (width_f ks (space_in s None q.available) zero_f)
  width-by q known o l ks h e hk ho =
      let st = sym (style-of l ks h) in
      let ko : (probe_known s q).width ≡ o = ap (λ (z : Size (Option Float)). z.width) (sym hk) ∙ ho in
      width_t_block l ks q (kind_of_lem l ks false h e) ∙ ap (λ (z : Style). width_by z (probe_known z q).width (width_f ks (space_in z None q.available) zero_f)) st
      ∙ ap (λ (z : Option Float). width_by s z (width_f ks (space_in s None q.available) zero_f)) ko

  known-width : (q : ProbeInput) (known : Size (Option Float)) (w : Float) → is_leaf s.kind ≡ false → known ≡ probe_known s q → known.width ≡ Some w → Width ws xs b q w
  unfolding width_by
  known-width q known w e hk ho (node l ks) h = sym (width-by q known (Some w) l ks h e hk ho)

  inner-width : (q : ProbeInput) (known : Size (Option Float)) (room : AvailableSpace) (most r : Float) → is_leaf s.kind ≡ false → known ≡ probe_known s q → known.width ≡ None → room ≡ space_in s None q.available
      → Widest (take (length ws - 4) (drop 4 ws)) xs (b + 1) room most → r ≡ found_width s None most → Width ws xs b q r
  unfolding width_by
  inner-width q known room most r e hk ho hroom hm hr (node l ks) h =
      let m : most ≡ width_f ks (space_in s None q.available) zero_f = hm ks (kids_of ws xs b l ks h) ∙ ap (λ (z : AvailableSpace). width_f ks z zero_f) hroom in
      hr ∙ ap (found_width s None) m ∙ sym (width-by q known None l ks h e hk ho)

  at-once-by : (q : ProbeInput) (v : Bool) → is_leaf s.kind ≡ v → width_at_once s q ≡ cond v (Some (leaf_width s.measure q.available)) (probe_known s q).width
  unfolding width_at_once
  at-once-by q v e = rw e

  -- a width at once, and none
  pub width-at-once : (q : ProbeInput) (w : Float) → width_at_once s q ≡ Some w → Width ws xs b q w
  width-at-once q w e = go (is_leaf s.kind) refl
    where
      go : (v : Bool) → is_leaf s.kind ≡ v → Width ws xs b q w
      go true lf = leaf_width_lem q w lf (ap (or_else w) (sym e ∙ at-once-by q true lf))
      go false lf = known-width q (probe_known s q) w lf refl (sym (at-once-by q false lf) ∙ e)

  pub width-inside : (q : ProbeInput) (room : AvailableSpace) (most r : Float) → width_at_once s q ≡ None → room ≡ space_in s None q.available → Widest (take (length ws - 4) (drop 4 ws)) xs (b + 1) room most → r ≡ found_width s None most
      → Width ws xs b q r
  width-inside q room most r e hroom hm hr = go (is_leaf s.kind) refl
    where
      go : (v : Bool) → is_leaf s.kind ≡ v → Width ws xs b q r
      go true lf = absurd (true≢false (ap is_some (sym (at-once-by q true lf) ∙ e)))
      go false lf = inner-width q (probe_known s q) room most r lf refl (sym (at-once-by q false lf) ∙ e) hroom hm hr

  -- ---- a child of step F
  module _ (a : AvailableSpace) (m : Float) (w : Want) (hw : w ≡ want_of s a) where
    widened-of : (l : Site) (ks : Forest Site) (v : Want) → SitesT ws xs b (node l ks) → w ≡ v → widened (node l ks) a m ≡ widen_by v (node l ks) a m
    unfolding widened
    widened-of l ks v h e = ap (λ (z : Want). widen_by z (node l ks) a m) (ap (λ (z : Style). want_of z a) (root_of_lem l ks h) ∙ sym hw ∙ e)

    pub nothing-widened : w ≡ Nothing → Widened ws xs b a m m
    unfolding widen_by
    nothing-widened e (node l ks) h = sym (widened-of l ks Nothing h e)

    pub outer-widened : (o r : Float) → w ≡ Outer o → r ≡ larger m o → Widened ws xs b a m r
    unfolding widen_by
    outer-widened o r e hr (node l ks) h = hr ∙ sym (widened-of l ks (Outer o) h e)

    pub probe-widened : (q : ProbeInput) (v o r : Float) → w ≡ want.Probe q → Width ws xs b q v → o ≡ outer_width s a v → r ≡ larger m o → Widened ws xs b a m r
    unfolding widen_by
    probe-widened q v o r e hv ho hr (node l ks) h =
        let oo : o ≡ outer_width (root_t (node l ks)).style a (width_t (node l ks) q) = ho ∙ ap (outer_width s a) (hv (node l ks) h) ∙ ap (λ (z : Style). outer_width z a (width_t (node l ks) q)) (sym (root_of_lem l ks h)) in
        hr ∙ ap (larger m) oo ∙ sym (widened-of l ks (want.Probe q) h e)

  -- ---- the final pass
  pub leaf-measured : (q : LayoutInput) (found : Float) (r : LayoutOutput) → is_leaf s.kind ≡ true → r ≡ leaf_output s.measure q → MeasuredT ws xs b q found r
  leaf-measured q found r e hr (node l ks) h = hr ∙ ap (λ (z : Style). leaf_output z.measure q) (style-of l ks h) ∙ sym (size_t_leaf l ks q found (kind_of_lem l ks true h e))

  pub block-measured : (q : LayoutInput) (found : Float) (f : Frame) (stack : StackOutput) (r : LayoutOutput) → is_leaf s.kind ≡ false → f ≡ frame_of s q found → MeasuredF ws xs b f stack
      → Ended ws xs b q stack r → MeasuredT ws xs b q found r
  block-measured q found f stack r e hf hm he (node l ks) h =
      let st = style-of l ks h in
      he f (size_f ks f (start_of f)) (hm l ks h) ∙ ap (λ (z : Style). (finished z q f (size_f ks f (start_of f))).output) (sym hs) ∙ ap (λ (z : Frame). (finished s q z (size_f ks z (start_of z))).output) hf
      ∙ ap (λ (z : Style). (finished z q (frame_of z q found) (size_f ks (frame_of z q found) (start_of (frame_of z q found)))).output) st
      ∙ sym (size_t_block l ks q found (kind_of_lem l ks false h e))

  -- ---- a child of the stack
  module _ (f : Frame) (c : Cursor) (flow : Flow) (hf : flow ≡ flow_of s) where
    past_of : (l : Site) (ks : Forest Site) (v : Flow) → SitesT ws xs b (node l ks) → flow ≡ v → past_t f c (node l ks) ≡ past_by v f c (node l ks)
    unfolding past_t
    past_of l ks v h e = ap (λ (z : Flow). past_by z f c (node l ks)) (ap flow_of (root_of_lem l ks h) ∙ sym hf ∙ e)

    pub gone-passed : (r : Cursor) → flow ≡ Gone → r ≡ past_hidden c → Passed ws xs b f c r
    unfolding past_by
    gone-passed r e hr (node l ks) h = hr ∙ sym (past_of l ks Gone h e)

    pub out-passed : (r : Cursor) → flow ≡ Out → r ≡ past_aside c → Passed ws xs b f c r
    unfolding past_by
    out-passed r e hr (node l ks) h = hr ∙ sym (past_of l ks Out h e)

    item-passed : (q : LayoutInput) (o : LayoutOutput) (i : BlockItem) (r : Cursor) → flow ≡ In → q ≡ question_to f s → MeasuredT ws xs b q zero_f o → i ≡ item_of f s → r ≡ stepped f c i o → Passed ws xs b f c r
    unfolding past_by
    item-passed q o i r e hq ho hi hr (node l ks) h =
        let t : Tree Site = node l ks in
        let st = sym (root_of_lem l ks h) in
        let oo : o ≡ size_t t (question_to f (root_t t).style) zero_f = ho t h ∙ ap (λ (z : LayoutInput). size_t t z zero_f) (hq ∙ ap (question_to f) st) in
        hr ∙ ap (λ (z : BlockItem). stepped f c z o) (hi ∙ ap (item_of f) st) ∙ ap (stepped f c (item_of f (root_t t).style)) oo ∙ sym (past_of l ks In h e)

    -- the same with what is held of the item
    pub in-passed : (q : LayoutInput) (o : LayoutOutput) (g : Footing) (r : Cursor) → flow ≡ In → q ≡ question_to f s → MeasuredT ws xs b q zero_f o → g ≡ footing_of (item_of f s) → ((z : Sizing) → r ≡ stepped f c (item_with z g) o) → Passed ws xs b f c r
    in-passed q o g r e hq ho hg hr =
        let i = item_of f s in
        item-passed q o i r e hq ho refl (hr i.sizing ∙ ap (λ (j : BlockItem). stepped f c j o) (with_footing i g hg))

  -- ---- the width pass at the root
  root-found : (l : Site) (ks : Forest Site) (q : LayoutInput) (o : Option Float) → found_t (node l ks) q o ≡ found_by l.style q.parent o (width_f ks (space_in l.style q.parent q.available) zero_f)
  unfolding found_t
  root-found l ks q o = refl

  pub inner-found : (q : LayoutInput) (room : AvailableSpace) (most r : Float) → room ≡ space_in s q.parent q.available → Widest (take (length ws - 4) (drop 4 ws)) xs (b + 1) room most → r ≡ found_width s q.parent most
      → (t : Tree Site) → SitesT ws xs b t → r ≡ found_t t q None
  unfolding found_by
  inner-found q room most r hroom hm hr (node l ks) h =
      let m : most ≡ width_f ks (space_in s q.parent q.available) zero_f = hm ks (kids_of ws xs b l ks h) ∙ ap (λ (z : AvailableSpace). width_f ks z zero_f) hroom in
      hr ∙ ap (found_width s q.parent) m ∙ ap (λ (z : Style). found_width z q.parent (width_f ks (space_in z q.parent q.available) zero_f)) (style-of l ks h) ∙ sym (root-found l ks q None)

pub known_found : (ws : List ℕ) (xs : List Float) (q : LayoutInput) (w r : Float) → r ≡ zero_f → Found ws xs q (Some w) r
unfolding found_t found_by
known_found ws xs q w r e (node l ks) h = e
