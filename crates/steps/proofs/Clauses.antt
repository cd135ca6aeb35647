-- The clauses of the two passes, each as an equation: proofs rewrite by these and leave the definitions shut.
use Rattle.std.specs.Prelude.{Option, None}
use mathlib.Core.Path.{◌≡◌, refl, ap, ◌∙◌}
use mathlib.Core.Bool.{Bool, true, false, cond}
use lib.Ieee.{Float}
use Rattle.geometry.specs.Geometry.{zero_f}
use Rattle.util.specs.Math.{larger}
use Rattle.length.specs.declared.AvailableSpace.{AvailableSpace}
use Rattle.style.specs.declared.Style.{Style}
use Rattle.tree.specs.Tree.{Tree, Forest, node, none, more, map_t, map_f, root_t}
use Rattle.style.specs.Flow.{is_leaf, flow_of}
use Rattle.steps.specs.Width.{want_of, outer_width, leaf_width}
use Rattle.steps.specs.Edges.{frame_of}
use Rattle.steps.specs.Stack.{start_of, question_to}
use Rattle.steps.specs.Through.{finished, leaf_output}
use Rattle.steps.specs.Row.{hidden_row, aside_row, laid_row}
use Rattle.steps.specs.Page.{Cell, Node, cleared, staying, any_t, any_f}
use Rattle.steps.specs.Probe.{Probed, Widest, answered, stay, probe_t, probe_f, ask_p, asked, block_probe, probe_known, space_in, widen}
use Rattle.steps.specs.Kept.{Laid, kept, keep, kept_row, fix_t, fix_f, below_row, zeros_f}
use Rattle.steps.specs.Layout.{Stacked, lay_t, lay_f, ask_t, leaf_laid, block_laid, skip, aside, place, align_f}
use Rattle.style.specs.declared.Flow.{Flow}
use Rattle.style.specs.declared.Flow.TheVariants.{Gone, Out, In}
use Rattle.steps.specs.declared.Want.{Want}
use Rattle.steps.specs.declared.Want.TheVariants.{Nothing, Outer}
use Rattle.steps.specs.declared.Want.TheVariants as want
use Rattle.steps.specs.declared.ProbeInput.{ProbeInput}
use Rattle.steps.specs.declared.LayoutInput.{LayoutInput}
use Rattle.steps.specs.declared.Frame.{Frame}
use Rattle.steps.specs.declared.Cursor.{Cursor}

-- one of two by a test, one of three by a child's flow, or by what step F wants of it
abbrev pub by_test : {A : Type 0} → Bool → A → A → A
by_test b x y = elim b [ true ↦ x | false ↦ y ]

abbrev pub by_flow : {A : Type 0} → Flow → A → A → A → A
by_flow f x y z = elim f [ Gone ↦ x | Out ↦ y | In ↦ z ]

abbrev pub by_want : {A : Type 0} → Want → A → (Float → A) → (ProbeInput → A) → A
by_want w x y z = elim w [ Nothing ↦ x | Outer v ↦ y v | want.Probe q ↦ z q ]

-- the final pass
abbrev pub frame_at : Node → LayoutInput → Float → Frame
frame_at l q found = frame_of l.site.style q found

abbrev pub stacked_in : Node → Forest Node → LayoutInput → Float → Laid
stacked_in l ks q found = block_laid l q (frame_at l q found) (lay_f ks (frame_at l q found) (start_of (frame_at l q found)))

lay_t_by : (l : Node) (ks : Forest Node) (q : LayoutInput) (found : Float) → lay_t (node l ks) q found ≡ by_test (is_leaf l.site.style.kind) (leaf_laid l q ks) (stacked_in l ks q found)
unfolding lay_t
lay_t_by l ks q found = refl

pub lay_t_leaf : (l : Node) (ks : Forest Node) (q : LayoutInput) (found : Float) → is_leaf l.site.style.kind ≡ true → lay_t (node l ks) q found ≡ leaf_laid l q ks
lay_t_leaf l ks q found e = lay_t_by l ks q found ∙ ap (λ (b : Bool). by_test b (leaf_laid l q ks) (stacked_in l ks q found)) e

pub lay_t_block : (l : Node) (ks : Forest Node) (q : LayoutInput) (found : Float) → is_leaf l.site.style.kind ≡ false → lay_t (node l ks) q found ≡ stacked_in l ks q found
lay_t_block l ks q found e = lay_t_by l ks q found ∙ ap (λ (b : Bool). by_test b (leaf_laid l q ks) (stacked_in l ks q found)) e

-- the rows of a laid node: its own, with its answer, and its children's
abbrev pub stack_of : Node → Forest Node → LayoutInput → Float → Stacked
stack_of n ks q found = lay_f ks (frame_at n q found) (start_of (frame_at n q found))

abbrev pub shift_of : Node → LayoutInput → Float → Cursor → Option Float
shift_of n q found c = (finished n.site.style q (frame_at n q found) c).shift

pub leaf_rows : (n : Node) (ks : Forest Node) (q : LayoutInput) (found : Float) → is_leaf n.site.style.kind ≡ true
    → (lay_t (node n ks) q found).rows ≡ node (laid_row q (lay_t (node n ks) q found).out n.probe) (zeros_f ks)
unfolding leaf_laid
leaf_rows n ks q found e = rw (lay_t_leaf n ks q found e)

pub block_rows : (n : Node) (ks : Forest Node) (q : LayoutInput) (found : Float) → is_leaf n.site.style.kind ≡ false
    → (lay_t (node n ks) q found).rows ≡ node (laid_row q (lay_t (node n ks) q found).out n.probe) (align_f (shift_of n q found (stack_of n ks q found).last) (stack_of n ks q found).rows)
unfolding block_laid
block_rows n ks q found e = rw (lay_t_block n ks q found e)

pub leaf_out : (n : Node) (ks : Forest Node) (q : LayoutInput) (found : Float) → is_leaf n.site.style.kind ≡ true → (lay_t (node n ks) q found).out ≡ leaf_output n.site.style.measure q
unfolding leaf_laid
leaf_out n ks q found e = rw (lay_t_leaf n ks q found e)

pub block_out : (n : Node) (ks : Forest Node) (q : LayoutInput) (found : Float) → is_leaf n.site.style.kind ≡ false
    → (lay_t (node n ks) q found).out ≡ (finished n.site.style q (frame_at n q found) (stack_of n ks q found).last).output
unfolding block_laid
block_out n ks q found e = rw (lay_t_block n ks q found e)

-- the stack
pub lay_f_none : (f : Frame) (c : Cursor) → lay_f none f c ≡ record { last = c; rows = none }
unfolding lay_f
lay_f_none f c = refl

abbrev pub style_t : Tree Node → Style
style_t t = (root_t t).site.style

abbrev pub place_in : Tree Node → Forest Node → Frame → Cursor → Stacked
place_in t ts f c = place f c (style_t t) (ask_t t (question_to f (style_t t))) (lay_f ts f)

lay_f_by : (t : Tree Node) (ts : Forest Node) (f : Frame) (c : Cursor)
    → lay_f (more t ts) f c ≡ by_flow (flow_of (style_t t)) (skip c t (lay_f ts f)) (aside f c t (lay_f ts f)) (place_in t ts f c)
unfolding lay_f ask_t
lay_f_by t ts f c = refl

pub lay_f_at : (t : Tree Node) (ts : Forest Node) (f : Frame) (c : Cursor) (w : Flow) → flow_of (style_t t) ≡ w
    → lay_f (more t ts) f c ≡ by_flow w (skip c t (lay_f ts f)) (aside f c t (lay_f ts f)) (place_in t ts f c)
lay_f_at t ts f c w e = lay_f_by t ts f c ∙ ap (λ (v : Flow). by_flow v (skip c t (lay_f ts f)) (aside f c t (lay_f ts f)) (place_in t ts f c)) e

pub lay_f_gone : (t : Tree Node) (ts : Forest Node) (f : Frame) (c : Cursor) → flow_of (style_t t) ≡ Gone → lay_f (more t ts) f c ≡ skip c t (lay_f ts f)
lay_f_gone t ts f c e = lay_f_at t ts f c Gone e

pub lay_f_out : (t : Tree Node) (ts : Forest Node) (f : Frame) (c : Cursor) → flow_of (style_t t) ≡ Out → lay_f (more t ts) f c ≡ aside f c t (lay_f ts f)
lay_f_out t ts f c e = lay_f_at t ts f c Out e

pub lay_f_in : (t : Tree Node) (ts : Forest Node) (f : Frame) (c : Cursor) → flow_of (style_t t) ≡ In → lay_f (more t ts) f c ≡ place_in t ts f c
lay_f_in t ts f c e = lay_f_at t ts f c In e

pub ask_t_kept : (t : Tree Node) (q : LayoutInput) → kept t q ≡ true → ask_t t q ≡ keep t
unfolding ask_t
ask_t_kept t q e = ap (λ (b : Bool). by_test b (keep t) (lay_t t q zero_f)) e

pub ask_t_new : (t : Tree Node) (q : LayoutInput) → kept t q ≡ false → ask_t t q ≡ lay_t t q zero_f
unfolding ask_t
ask_t_new t q e = ap (λ (b : Bool). by_test b (keep t) (lay_t t q zero_f)) e

pub keep_rows : (l : Node) (ks : Forest Node) → (keep (node l ks)).rows ≡ node (kept_row l) (fix_f ks)
unfolding keep
keep_rows l ks = refl

-- below a kept node
fix_t_by : (l : Node) (ks : Forest Node)
    → fix_t (node l ks) ≡ by_flow (flow_of l.site.style) (node (hidden_row l.old.order) (zeros_f ks)) (node (aside_row l.old.place.x l.old.place.y l.old.answer.size.width l.old.order) (zeros_f ks)) (node (below_row l) (fix_f ks))
unfolding fix_t
fix_t_by l ks = refl

pub fix_t_at : (l : Node) (ks : Forest Node) (w : Flow) → flow_of l.site.style ≡ w
    → fix_t (node l ks) ≡ by_flow w (node (hidden_row l.old.order) (zeros_f ks)) (node (aside_row l.old.place.x l.old.place.y l.old.answer.size.width l.old.order) (zeros_f ks)) (node (below_row l) (fix_f ks))
fix_t_at l ks w e =
    fix_t_by l ks
    ∙ ap (λ (v : Flow). by_flow v (node (hidden_row l.old.order) (zeros_f ks)) (node (aside_row l.old.place.x l.old.place.y l.old.answer.size.width l.old.order) (zeros_f ks)) (node (below_row l) (fix_f ks))) e

pub fix_t_gone : (l : Node) (ks : Forest Node) → flow_of l.site.style ≡ Gone → fix_t (node l ks) ≡ node (hidden_row l.old.order) (zeros_f ks)
fix_t_gone l ks e = fix_t_at l ks Gone e

pub fix_t_out : (l : Node) (ks : Forest Node) → flow_of l.site.style ≡ Out → fix_t (node l ks) ≡ node (aside_row l.old.place.x l.old.place.y l.old.answer.size.width l.old.order) (zeros_f ks)
fix_t_out l ks e = fix_t_at l ks Out e

pub fix_t_in : (l : Node) (ks : Forest Node) → flow_of l.site.style ≡ In → fix_t (node l ks) ≡ node (below_row l) (fix_f ks)
fix_t_in l ks e = fix_t_at l ks In e

pub fix_f_none : fix_f none ≡ none
unfolding fix_f
fix_f_none = refl

pub fix_f_more : (t : Tree Node) (ts : Forest Node) → fix_f (more t ts) ≡ more (fix_t t) (fix_f ts)
unfolding fix_f
fix_f_more t ts = refl

-- the width pass
abbrev pub widest_in : Cell → Forest Cell → ProbeInput → Widest
widest_in l ks q = probe_f ks (space_in l.site.style None q.available) zero_f

abbrev pub leaf_probe : Cell → ProbeInput → Forest Cell → Probed
leaf_probe l q ks = asked l q (leaf_width l.site.style.measure q.available) (map_f cleared ks)

abbrev pub box_probe : Cell → ProbeInput → Forest Cell → Probed
box_probe l q ks = block_probe l q ks (probe_known l.site.style q).width (widest_in l ks q)

probe_t_by : (l : Cell) (ks : Forest Cell) (q : ProbeInput) → probe_t (node l ks) q ≡ by_test (is_leaf l.site.style.kind) (leaf_probe l q ks) (box_probe l q ks)
unfolding probe_t
probe_t_by l ks q = refl

pub probe_t_leaf : (l : Cell) (ks : Forest Cell) (q : ProbeInput) → is_leaf l.site.style.kind ≡ true → probe_t (node l ks) q ≡ leaf_probe l q ks
probe_t_leaf l ks q e = probe_t_by l ks q ∙ ap (λ (b : Bool). by_test b (leaf_probe l q ks) (box_probe l q ks)) e

pub probe_t_block : (l : Cell) (ks : Forest Cell) (q : ProbeInput) → is_leaf l.site.style.kind ≡ false → probe_t (node l ks) q ≡ box_probe l q ks
probe_t_block l ks q e = probe_t_by l ks q ∙ ap (λ (b : Bool). by_test b (leaf_probe l q ks) (box_probe l q ks)) e

pub probe_f_none : (a : AvailableSpace) (m : Float) → probe_f none a m ≡ record { most = m; nodes = none }
unfolding probe_f
probe_f_none a m = refl

abbrev pub style_c : Tree Cell → Style
style_c t = (root_t t).site.style

-- what a child is answered
pub ask_p_stands : (t : Tree Cell) (q : ProbeInput) → answered t q ≡ true → ask_p t q ≡ stay t
unfolding ask_p
ask_p_stands t q e = ap (λ (b : Bool). cond b (stay t) (probe_t t q)) e

pub ask_p_anew : (t : Tree Cell) (q : ProbeInput) → answered t q ≡ false → ask_p t q ≡ probe_t t q
unfolding ask_p
ask_p_anew t q e = ap (λ (b : Bool). cond b (stay t) (probe_t t q)) e

pub stay_nodes : (t : Tree Cell) → (stay t).nodes ≡ map_t staying t
unfolding stay
stay_nodes t = refl

-- what step F wants of a child decides
abbrev pub by_f : Tree Cell → Forest Cell → AvailableSpace → Float → Want → Widest
by_f t ts a m w =
    by_want w (widen m (map_t cleared t) (probe_f ts a)) (λ v. widen (larger m v) (map_t cleared t) (probe_f ts a))
    (λ q. widen (larger m (outer_width (style_c t) a (ask_p t q).answer)) (ask_p t q).nodes (probe_f ts a))

ask_by_lem : (t : Tree Cell) (q : ProbeInput) (b : Bool) → by_test b (stay t) (probe_t t q) ≡ cond b (stay t) (probe_t t q)
ask_by_lem t q true = refl
ask_by_lem t q false = refl

ask_is : (t : Tree Cell) (q : ProbeInput) → by_test (answered t q) (stay t) (probe_t t q) ≡ ask_p t q
unfolding ask_p
ask_is t q = ask_by_lem t q (answered t q)

-- the clause as it is written
abbrev put : Tree Cell → Forest Cell → AvailableSpace → Float → Probed → Widest
put t ts a m p = widen (larger m (outer_width (style_c t) a p.answer)) p.nodes (probe_f ts a)

probe_f_by : (t : Tree Cell) (ts : Forest Cell) (a : AvailableSpace) (m : Float) (w : Want)
    → by_want w (widen m (map_t cleared t) (probe_f ts a)) (λ v. widen (larger m v) (map_t cleared t) (probe_f ts a)) (λ q. put t ts a m (by_test (answered t q) (stay t) (probe_t t q))) ≡ by_f t ts a m w
probe_f_by t ts a m Nothing = refl
probe_f_by t ts a m (Outer v) = refl
probe_f_by t ts a m (want.Probe q) = ap (put t ts a m) (ask_is t q)

pub probe_f_more : (t : Tree Cell) (ts : Forest Cell) (a : AvailableSpace) (m : Float) → probe_f (more t ts) a m ≡ by_f t ts a m (want_of (style_c t) a)
unfolding probe_f
probe_f_more t ts a m = probe_f_by t ts a m (want_of (style_c t) a)

pub probe_f_at : (t : Tree Cell) (ts : Forest Cell) (a : AvailableSpace) (m : Float) (w : Want) → want_of (style_c t) a ≡ w → probe_f (more t ts) a m ≡ by_f t ts a m w
probe_f_at t ts a m w e = probe_f_more t ts a m ∙ ap (λ (v : Want). by_f t ts a m v) e

-- some label of a changed tree is such
mutual
  unfolding any_t map_t

  pub any_map_t : {A B : Type 0} (p : B → Bool) (f : A → B) (t : Tree A) → any_t p (map_t f t) ≡ any_t (λ (a : A). p (f a)) t
  any_map_t p f (node a ks) = rw (any_map_f p f ks)

  pub any_map_f : {A B : Type 0} (p : B → Bool) (f : A → B) (ts : Forest A) → any_f p (map_f f ts) ≡ any_f (λ (a : A). p (f a)) ts
  any_map_f p f none = refl
  any_map_f p f (more t ts) = rw (any_map_t p f t, any_map_f p f ts)
