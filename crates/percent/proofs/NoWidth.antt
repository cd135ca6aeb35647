-- The final pass: with fractions of heights read as auto, what goes across a row is the same at every node.
use Rattle.std.specs.Prelude.{◌≡◌, refl, Bool, true, false, Float, Option, None, Some, unwrap_or}
use Rattle.std.proofs.Common.{sym, ap, ◌∙◌}
use Rattle.geometry.specs.Geometry.{zero_f, across}
use Rattle.util.specs.Math.{larger}
use Rattle.style.specs.Flow.{is_leaf, flow_of}
use Rattle.style.specs.declared.Flow.{Flow}
use Rattle.style.specs.declared.Flow.TheVariants.{Gone, Out, In}
use Rattle.style.specs.declared.Style.{Style}
use Rattle.tree.specs.Tree.{Tree, Forest, node, none, more, map_t, map_f, root_t}
use Rattle.tree.proofs.Laws.{map_t_node, map_f_none, map_f_more}
use Rattle.steps.specs.Page.{Site, Cell, Node, blank}
use Rattle.steps.specs.Question.{root_input}
use Rattle.steps.specs.Sizing.{sizing_of, known_of}
use Rattle.steps.specs.Edges.{frame_of}
use Rattle.steps.specs.Stack.{inner_width, start_of, item_of, asked_width, question_to, place_x, place_of, stepped, past_aside, past_hidden}
use Rattle.steps.specs.Through.{finished, leaf_output}
use Rattle.steps.specs.Probe.{width_pass}
use Rattle.steps.specs.Kept.{Laid}
use Rattle.steps.specs.Layout.{Stacked, leaf_laid, block_laid, place, lay_t, lay_f, relaid, fresh}
use Rattle.steps.specs.declared.LayoutInput.{LayoutInput}
use Rattle.steps.specs.declared.Question.{Question}
use Rattle.steps.specs.declared.Frame.{Frame}
use Rattle.steps.specs.declared.Cursor.{Cursor}
use Rattle.steps.proofs.Clauses.{style_t, lay_t_leaf, lay_t_block, lay_f_none, lay_f_gone, lay_f_out, lay_f_in}
use Rattle.steps.proofs.Zeros.{zeros_f_lem}
use Rattle.laws.specs.Trees.{AllT, AllF}
use Rattle.percent.specs.Widths.{auto_heights, across_of, RatioAlone, SameAcross, sizing_across}
use Rattle.laws.specs.Restyled.{on_passed}
use Rattle.percent.specs.Probes.{auto_site, auto_node, auto_flow, pass_auto}
use Rattle.percent.specs.NoWidth.{SameFrame, frame_by, known_asked, frame_root, inner_same, SameItem, offset_same, asked_same, x_same, asks, parent_asked, align_across, put_same, place_x_lem, same_space, SameLaid, SameStack, row_across, leaf_width_lem, finished_width, Apart, skip_same, aside_same, asked_new, auto_style, auto_unlaid, Asked, apart_root, AloneAt, apart_nodes, auto_blank, no_root_basis}

frame_child : (s : Style) (q p : LayoutInput) (w found : Float) → RatioAlone s → q.known.width ≡ Some w → p.known.width ≡ Some w → q.parent ≡ p.parent → SameFrame (frame_of s q found) (frame_of (auto_heights s) p found)
unfolding frame_of
frame_child s q p w found a d e c =
    let z = sizing_of s q.parent q.basis in
    let y = sizing_of (auto_heights s) p.parent p.basis in
    let h : SameAcross z y = rw (c) (sizing_across s p.parent q.basis p.basis a) in
    let k : (known_of s z q.known).width ≡ (known_of (auto_heights s) y p.known).width = known_asked s z q.known w d ∙ ap (λ b. Some (larger w (across b))) h.both ∙ sym (known_asked (auto_heights s) y p.known w e) in
    frame_by s q p z y _ _ _ _ h.both (ap (λ (o : Option Float). unwrap_or o found) k)

item_same : (f g : Frame) (s : Style) → SameFrame f g → RatioAlone s → SameItem (item_of f s) (item_of g (auto_heights s))
unfolding item_of
item_same f g s h a = record {
  sizing = rw (inner_same f g h) (sizing_across s (Some (inner_width g)) f.heightBasis g.heightBasis a);
  margin = rw (inner_same f g h);
  left = refl;
  right = refl;
  offset = rw (inner_same f g h, h.rtl) (offset_same s.position s.inset g.rtl (Some (inner_width g)) f.heightBasis g.heightBasis);
}

leaf_node : (l : Node) (q p : LayoutInput) (ks : Forest Node) → q.known.width ≡ p.known.width → q.parent ≡ p.parent → q.available ≡ p.available → SameLaid (leaf_laid l q ks) (leaf_laid (auto_node l) p (map_f auto_node ks))
unfolding leaf_laid map_t
leaf_node l q p ks a b c =
    let o = leaf_output l.site.style.measure q in
    let u = leaf_output l.site.style.measure p in
    let e : o.size.width ≡ u.size.width = leaf_width_lem l q p a c in
    record { same_width = e; same_rows = rw (row_across q p o u l.probe a b e, zeros_f_lem auto_node ks) }

box_node : (l : Node) (q p : LayoutInput) (f g : Frame) (a b : Stacked) → q.known.width ≡ p.known.width → q.parent ≡ p.parent → SameFrame f g → SameStack a b → SameLaid (block_laid l q f a) (block_laid (auto_node l) p g b)
unfolding block_laid map_t
box_node l q p f g a b d e h k =
    let o = finished l.site.style q f a.last in
    let u = finished (auto_heights l.site.style) p g b.last in
    let w : o.output.size.width ≡ u.output.size.width = finished_width l.site.style q f a.last ∙ h.width ∙ sym (finished_width (auto_heights l.site.style) p g b.last) in
    record {
      same_width = w;
      same_rows = rw (row_across q p o.output u.output l.probe d e w, align_across o.shift a.rows, align_across u.shift b.rows, k);
    }

lay_node : (l : Node) (ks : Forest Node) (q p : LayoutInput) (found : Float) → q.known.width ≡ p.known.width → q.parent ≡ p.parent → q.available ≡ p.available
    → SameFrame (frame_of l.site.style q found) (frame_of (auto_heights l.site.style) p found) → ((f g : Frame) (c d : Cursor) → SameFrame f g → SameStack (lay_f ks f c) (lay_f (map_f auto_node ks) g d))
    → SameLaid (lay_t (node l ks) q found) (lay_t (node (auto_node l) (map_f auto_node ks)) p found)
lay_node l ks q p found a b c h k = go (is_leaf l.site.style.kind) refl
  where
    go : (v : Bool) → is_leaf l.site.style.kind ≡ v → SameLaid (lay_t (node l ks) q found) (lay_t (node (auto_node l) (map_f auto_node ks)) p found)
    go true e = rw (lay_t_leaf l ks q found e, lay_t_leaf (auto_node l) (map_f auto_node ks) p found e) (leaf_node l q p ks a b c)
    go false e =
        let f : Frame = frame_of l.site.style q found in
        let g : Frame = frame_of (auto_heights l.site.style) p found in
        rw (lay_t_block l ks q found e, lay_t_block (auto_node l) (map_f auto_node ks) p found e) (box_node l q p f g _ _ a b h (k f g (start_of f) (start_of g) h))

place_node : (f k : Frame) (c d : Cursor) (s : Style) (a b : Laid) (g h : Cursor → Stacked) → SameFrame f k → RatioAlone s → SameLaid a b → ((u v : Cursor) → SameStack (g u) (h v)) → SameStack (place f c s a g) (place k d (auto_heights s) b h)
unfolding place map_f
place_node f k c d s a b g h e r x y =
    let i = item_of f s in
    let j = item_of k (auto_heights s) in
    let p = place_x_lem f c i a.out ∙ x_same f k i j a.out.size.width e (item_same f k s e r) ∙ ap (place_x k j) x.same_width ∙ sym (place_x_lem k d j b.out) in
    let z = put_same (place_of f c i a.out) (place_of k d j b.out) c.shown.0 d.shown.0 a.rows b.rows p x.same_rows in
    rw (z, y (stepped f c i a.out) (stepped k d j b.out))

more_same : (t : Tree Node) (ts : Forest Node) (f g : Frame) (c d : Cursor) → SameFrame f g → Apart (root_t t) → Asked t → ((u v : Cursor) → SameStack (lay_f ts f u) (lay_f (map_f auto_node ts) g v))
    → SameStack (lay_f (more t ts) f c) (lay_f (more (map_t auto_node t) (map_f auto_node ts)) g d)
more_same t ts f g c d h n k r = go (flow_of (style_t t)) refl
  where
    s : Style
    s = style_t t

    flows : flow_of (style_t (map_t auto_node t)) ≡ flow_of (style_t t)
    flows = ap flow_of (auto_style t) ∙ auto_flow (style_t t)

    go : (w : Flow) → flow_of (style_t t) ≡ w → SameStack (lay_f (more t ts) f c) (lay_f (more (map_t auto_node t) (map_f auto_node ts)) g d)
    go Gone e = rw (lay_f_gone t ts f c e, lay_f_gone (map_t auto_node t) (map_f auto_node ts) g d (flows ∙ e)) (skip_same c d t _ _ (r (past_hidden c) (past_hidden d)))
    go Out e = rw (lay_f_out t ts f c e, lay_f_out (map_t auto_node t) (map_f auto_node ts) g d (flows ∙ e)) (aside_same f g c d t _ _ h (r (past_aside c) (past_aside d)))
    go In e =
        let q = question_to f (style_t t) in
        let p = question_to g (auto_heights (style_t t)) in
        let w = asks g (auto_heights (style_t t)) in
        let v : q.known.width ≡ Some (asked_width g (item_of g (auto_heights (style_t t)))) = asks f (style_t t) ∙ ap Some (asked_same f g _ _ h (item_same f g (style_t t) h n.alone)) in
        let m : q.parent ≡ p.parent = parent_asked f (style_t t) ∙ ap Some (inner_same f g h) ∙ sym (parent_asked g (auto_heights (style_t t))) in
        rw (lay_f_in t ts f c e, lay_f_in (map_t auto_node t) (map_f auto_node ts) g d (flows ∙ e), auto_style t, asked_new t q n.unlaid, asked_new (map_t auto_node t) p (auto_unlaid t n.unlaid))
        (place_node f g c d (style_t t) _ _ _ _ h n.alone (k q p _ v w m (same_space f g (style_t t))) r)

mutual
  unfolding AllT

  same_t : (t : Tree Node) → AllT Apart t → Asked t
  same_t (node l ks) h q p w a b c d =
      let f = frame_child l.site.style q p w zero_f h.0.alone a b c in
      rw (map_t_node auto_node l ks) (lay_node l ks q p zero_f (a ∙ sym b) c d f (λ f g u v e. same_f_lem ks h.1 f g u v e))

  same_f_lem : (ts : Forest Node) → AllF Apart ts → (f g : Frame) (c d : Cursor) → SameFrame f g → SameStack (lay_f ts f c) (lay_f (map_f auto_node ts) g d)
  same_f_lem none h f g c d e = rw (map_f_none auto_node, lay_f_none f c, lay_f_none g d)
  same_f_lem (more t ts) h f g c d e = rw (map_f_more auto_node t ts) (more_same t ts f g c d e (apart_root t h.0) (λ q p w x y z o. same_t t h.0 q p w x y z o) (λ u v. same_f_lem ts h.1 f g u v e))

same_root : (t : Tree Node) → AllT Apart t → (q : LayoutInput) (found : Float) → q.basis ≡ None → SameLaid (lay_t t q found) (lay_t (map_t auto_node t) q found)
unfolding AllT
same_root (node l ks) h q found e = rw (map_t_node auto_node l ks) (lay_node l ks q q found refl refl refl (frame_root l.site.style q found e) (λ f g u v x. same_f_lem ks h.1 f g u v x))

-- ---- Where no ratio stands beside a fraction: with the fractions of fields 1, 3 and 5 auto, a fresh layout leaves the same numbers 0, 2, 8 and 10 to 13 in every row.
pub no_width_moves : (t : Tree Site) (q : Question) → AllT AloneAt t → map_t across_of (fresh t (root_input q)).rows ≡ map_t across_of (fresh (map_t auto_site t) (root_input q)).rows
unfolding fresh relaid
no_width_moves t q h =
    let p = width_pass (map_t blank t) (root_input q) in
    let e : width_pass (map_t blank (map_t auto_site t)) (root_input q) ≡ on_passed auto_heights p = ap (λ (u : Tree Cell). width_pass u (root_input q)) (auto_blank t) ∙ pass_auto (map_t blank t) (root_input q) in
    rw e (same_root p.nodes (apart_nodes t (root_input q) h) (root_input q) p.found (no_root_basis q)).same_rows
