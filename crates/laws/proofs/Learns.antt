-- A relayout learns nothing from below a kept node but kind and position: two pages that differ only there have one result.
use Rattle.std.specs.Prelude.{◌≡◌, refl, Bool, true, false, Float}
use Rattle.std.proofs.Common.{sym, ap, ◌∙◌}
use Rattle.geometry.specs.Geometry.{zero_f}
use Rattle.style.specs.declared.Style.{Style}
use Rattle.tree.specs.Tree.{Tree, Forest, node, none, more, map_t, map_f}
use Rattle.tree.proofs.Laws.{map_t_node, map_f_none, map_f_more, map_map_t, map_id_t}
use Rattle.style.specs.Flow.{is_leaf, flow_of}
use Rattle.steps.specs.Stack.{start_of, question_to}
use Rattle.steps.specs.Page.{Node}
use Rattle.steps.specs.Probe.{width_pass}
use Rattle.steps.specs.Kept.{kept, keep, fix_t, fix_f, zeros_t}
use Rattle.steps.specs.Layout.{lay_t, lay_f, ask_t, block_laid, place, relaid}
use Rattle.style.specs.declared.Flow.{Flow}
use Rattle.style.specs.declared.Flow.TheVariants.{Gone, Out, In}
use Rattle.steps.specs.declared.LayoutInput.{LayoutInput}
use Rattle.steps.specs.declared.Frame.{Frame}
use Rattle.steps.specs.declared.Cursor.{Cursor}
use Rattle.steps.proofs.Clauses.{frame_at, style_t, lay_t_leaf, lay_t_block, lay_f_gone, lay_f_out, lay_f_in, ask_t_kept, ask_t_new, fix_t_at, fix_f_more}
use Rattle.steps.proofs.Zeros.{zeros_t_lem, zeros_f_lem}
use Rattle.steps.proofs.Cells.{pass_cells, cell_in}
use Rattle.laws.specs.Trees.{AllT, AllF, top_t, kids_t, first_f, rest_f, all-map-T, settle-T}
use Rattle.laws.specs.Final.{alike_same, placed, skipped, asides}
use Rattle.laws.specs.Below.{Two, page1, page2, below_of, Agree, below_t, below_f, below_kept}
use Rattle.laws.specs.Marks.{marks_of, below_more, below_top, below_block, marks_at, marks_laid}
use Rattle.laws.proofs.Marks.{marks_top}
use Rattle.laws.specs.Unread.{given_in}
use Rattle.laws.proofs.Unread.{unread_pass}
use Rattle.laws.specs.Learns.{Pair, node1, node2, AgreeP, below_p, same_node, same_flow, kept_same, below_same, kept_row_same, leaf_same, top_below, same_style, top_agree, two_in, pairs, node_by_lem}

fix_node : (p : Pair) (ks : Forest Pair) → AgreeP p → fix_f (map_f node1 ks) ≡ fix_f (map_f node2 ks) → fix_t (map_t node1 (node p ks)) ≡ fix_t (map_t node2 (node p ks))
fix_node p ks h e =
    let r = p.two.old in
    ap fix_t (map_t_node node1 p ks) ∙ fix_t_at (node1 p) (map_f node1 ks) _ (same_flow p h)
    ∙ rw (zeros_f_lem node1 ks, e, below_same p, ← zeros_f_lem node2 ks) (sym (ap fix_t (map_t_node node2 p ks) ∙ fix_t_at (node2 p) (map_f node2 ks) _ refl))

mutual
  unfolding AllT

  fix_t_lem : (t : Tree Pair) → AllT AgreeP t → fix_t (map_t node1 t) ≡ fix_t (map_t node2 t)
  fix_t_lem (node p ks) h = fix_node p ks h.0 (fix_f_lem ks h.1)

  fix_f_lem : (ts : Forest Pair) → AllF AgreeP ts → fix_f (map_f node1 ts) ≡ fix_f (map_f node2 ts)
  fix_f_lem none h = ap fix_f (map_f_none node1 ∙ sym (map_f_none node2))
  fix_f_lem (more t ts) h = rw (map_f_more node1 t ts, map_f_more node2 t ts, fix_f_more, fix_f_more, fix_t_lem t h.0, fix_f_lem ts h.1)

keep_same : (t : Tree Pair) → AllT AgreeP t → keep (map_t node1 t) ≡ keep (map_t node2 t)
unfolding keep AllT
keep_same (node p ks) h = rw (map_t_node node1 p ks, map_t_node node2 p ks) (rw (fix_f_lem ks h.1, kept_row_same p))

node_same : (p : Pair) (ks : Forest Pair) (q : LayoutInput) (found : Float) → AgreeP p → map_t below_p (node p ks) ≡ below_t (map_t node1 (node p ks)) q found
    → ((f : Frame) → map_f below_p ks ≡ below_f (map_f node1 ks) f → (c : Cursor) → lay_f (map_f node1 ks) f c ≡ lay_f (map_f node2 ks) f c) → lay_t (map_t node1 (node p ks)) q found ≡ lay_t (map_t node2 (node p ks)) q found
node_same p ks q found h e r =
    ap (λ (t : Tree Node). lay_t t q found) (map_t_node node1 p ks) ∙ go (is_leaf p.two.one.kind) refl
    ∙ sym (ap (λ (t : Tree Node). lay_t t q found) (map_t_node node2 p ks) ∙ ap (λ (n : Node). lay_t (node n (map_f node2 ks)) q found) (sym (same_node p h top)))
  where
    e1 : node (below_p p) (map_f below_p ks) ≡ below_t (node (node1 p) (map_f node1 ks)) q found
    e1 = sym (map_t_node below_p p ks) ∙ e ∙ ap (λ (t : Tree Node). below_t t q found) (map_t_node node1 p ks)

    top : below_p p ≡ false
    top = ap top_t e1 ∙ below_top _ q found

    go : (b : Bool) → is_leaf p.two.one.kind ≡ b → lay_t (node (node1 p) (map_f node1 ks)) q found ≡ lay_t (node (node1 p) (map_f node2 ks)) q found
    go true b = lay_t_leaf (node1 p) _ q found b ∙ leaf_same (node1 p) ks q ∙ sym (lay_t_leaf (node1 p) _ q found b)
    go false b =
        lay_t_block (node1 p) _ q found b
        ∙ ap (block_laid (node1 p) q (frame_at (node1 p) q found)) (r (frame_at (node1 p) q found) (ap kids_t e1 ∙ below_block (node1 p) (map_f node1 ks) q found b) (start_of (frame_at (node1 p) q found)))
        ∙ sym (lay_t_block (node1 p) _ q found b)

module _ (t : Tree Pair) (ts : Forest Pair) (f : Frame) (agree : AllT AgreeP t) (e : map_f below_p (more t ts) ≡ below_f (map_f node1 (more t ts)) f) where
  split : more (map_t below_p t) (map_f below_p ts) ≡ more (marks_of (map_t node1 t) f) (below_f (map_f node1 ts) f)
  split = sym (map_f_more below_p t ts) ∙ e ∙ ap (λ (us : Forest Node). below_f us f) (map_f_more node1 t ts) ∙ below_more (map_t node1 t) (map_f node1 ts) f

  marks : map_t below_p t ≡ marks_of (map_t node1 t) f
  marks = ap (first_f (map_t below_p t)) split

  rest : map_f below_p ts ≡ below_f (map_f node1 ts) f
  rest = ap rest_f split

  one : style_t (map_t node1 t) ≡ style_t (map_t node2 t)
  one = same_style t (top_agree t agree) (top_below t _ marks (marks_top (map_t node1 t) f))

  ask_same : flow_of (style_t (map_t node1 t)) ≡ In → ((q : LayoutInput) → map_t below_p t ≡ below_t (map_t node1 t) q zero_f → lay_t (map_t node1 t) q zero_f ≡ lay_t (map_t node2 t) q zero_f)
      → ask_t (map_t node1 t) (question_to f (style_t (map_t node1 t))) ≡ ask_t (map_t node2 t) (question_to f (style_t (map_t node1 t)))
  ask_same w h = go (kept (map_t node1 t) (question_to f (style_t (map_t node1 t)))) refl
    where
      go : (b : Bool) → kept (map_t node1 t) (question_to f (style_t (map_t node1 t))) ≡ b → ask_t (map_t node1 t) (question_to f (style_t (map_t node1 t))) ≡ ask_t (map_t node2 t) (question_to f (style_t (map_t node1 t)))
      go true b = ask_t_kept _ _ b ∙ keep_same t agree ∙ sym (ask_t_kept _ _ (sym (kept_same t _) ∙ b))
      go false b = ask_t_new _ _ b ∙ h _ (marks ∙ marks_at (map_t node1 t) f In w ∙ marks_laid (map_t node1 t) f b) ∙ sym (ask_t_new _ _ (sym (kept_same t _) ∙ b))

  more_same : ((q : LayoutInput) → map_t below_p t ≡ below_t (map_t node1 t) q zero_f → lay_t (map_t node1 t) q zero_f ≡ lay_t (map_t node2 t) q zero_f)
      → (map_f below_p ts ≡ below_f (map_f node1 ts) f → (c : Cursor) → lay_f (map_f node1 ts) f c ≡ lay_f (map_f node2 ts) f c) → (c : Cursor) → lay_f (map_f node1 (more t ts)) f c ≡ lay_f (map_f node2 (more t ts)) f c
  more_same h r c = rw (map_f_more node1 t ts, map_f_more node2 t ts) (go (flow_of (style_t (map_t node1 t))) refl)
    where
      also : (w : Flow) → flow_of (style_t (map_t node1 t)) ≡ w → flow_of (style_t (map_t node2 t)) ≡ w
      also w d = ap flow_of (sym one) ∙ d

      zeros : zeros_t (map_t node1 t) ≡ zeros_t (map_t node2 t)
      zeros = zeros_t_lem node1 t ∙ sym (zeros_t_lem node2 t)

      go : (w : Flow) → flow_of (style_t (map_t node1 t)) ≡ w → lay_f (more (map_t node1 t) (map_f node1 ts)) f c ≡ lay_f (more (map_t node2 t) (map_f node2 ts)) f c
      go Gone w = lay_f_gone _ _ f c w ∙ skipped c _ _ _ _ zeros (r rest) ∙ sym (lay_f_gone _ _ f c (also Gone w))
      go Out w = lay_f_out _ _ f c w ∙ asides f c _ _ _ _ zeros (r rest) ∙ sym (lay_f_out _ _ f c (also Out w))
      go In w =
          lay_f_in _ _ f c w ∙ placed f c (style_t (map_t node1 t)) _ _ _ _ (alike_same _ _ (ask_same w h)) (r rest)
          ∙ ap (λ (s : Style). place f c s (ask_t (map_t node2 t) (question_to f s)) (lay_f (map_f node2 ts) f)) one ∙ sym (lay_f_in _ _ f c (also In w))

mutual
  unfolding AllT

  learn_t : (t : Tree Pair) → AllT AgreeP t → (q : LayoutInput) (found : Float) → map_t below_p t ≡ below_t (map_t node1 t) q found → lay_t (map_t node1 t) q found ≡ lay_t (map_t node2 t) q found
  learn_t (node p ks) h q found e = node_same p ks q found h.0 e (λ f r c. learn_f ks h.1 f r c)

  learn_f : (ts : Forest Pair) → AllF AgreeP ts → (f : Frame) → map_f below_p ts ≡ below_f (map_f node1 ts) f → (c : Cursor) → lay_f (map_f node1 ts) f c ≡ lay_f (map_f node2 ts) f c
  learn_f none h f e c = ap (λ (us : Forest Node). lay_f us f c) (map_f_none node1 ∙ sym (map_f_none node2))
  learn_f (more t ts) h f e c = more_same t ts f h.0 e (λ q r. learn_t t h.0 q zero_f r) (λ r d. learn_f ts h.1 f r d) c

-- It learns nothing.
pub learns_nothing : (t : Tree Two) (q : LayoutInput) → map_t below_of t ≡ below_kept (map_t page1 t) q → AllT Agree t → relaid (map_t page1 t) q ≡ relaid (map_t page2 t) q
unfolding relaid below_kept
learns_nothing t q e h =
    let p1 = width_pass (map_t page1 t) q in
    let p2 = width_pass (map_t page2 t) q in
    let g = unread_pass t q h e in
    let j = pairs t p1.nodes (sym (pass_cells (map_t page1 t) q)) in
    let c : map_t (λ (p : Pair). page2 p.two) j.tree ≡ map_t cell_in p2.nodes = sym (map_map_t page2 two_in j.tree) ∙ ap (map_t page2) j.left ∙ sym (pass_cells (map_t page2 t) q) in
    let d : map_t (λ (p : Pair). p.given) j.tree ≡ map_t given_in p2.nodes = sym (map_map_t given_in node1 j.tree) ∙ ap (map_t given_in) j.right ∙ g.same_given in
    let n : map_t node2 j.tree ≡ p2.nodes = settle-T (λ (p : Pair). page2 p.two) cell_in (λ (p : Pair). p.given) given_in node2 (λ (x : Node). x) node_by_lem j.tree p2.nodes c d ∙ map_id_t p2.nodes in
    let a : AllT AgreeP j.tree = all-map-T two_in Agree j.tree (rw j.left h) in
    let b : map_t below_p j.tree ≡ below_t (map_t node1 j.tree) q p1.found = sym (map_map_t below_of two_in j.tree) ∙ ap (map_t below_of) j.left ∙ e ∙ ap (λ (u : Tree Node). below_t u q p1.found) (sym j.right) in
    ap (λ (u : Tree Node). lay_t u q p1.found) (sym j.right) ∙ learn_t j.tree a q p1.found b ∙ ap (λ (u : Tree Node). lay_t u q p1.found) n ∙ ap (lay_t p2.nodes q) g.same_found
