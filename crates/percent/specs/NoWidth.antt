-- The final pass: with fractions of heights read as auto, what goes across a row is the same at every node.
use Rattle.std.specs.Option.{option_or}
use Rattle.length.specs.declared.Length.{Length}
use Rattle.geometry.specs.declared.Size.{Size}
use Rattle.geometry.specs.declared.Rect.{Rect}
use Rattle.std.specs.Prelude.{◌≡◌, refl, Bool, false, ℕ, Float, Option, None, Some, unwrap_or}
use Rattle.std.proofs.Common.{sym, ap, ◌∙◌}
use Rattle.geometry.specs.Geometry.{zero_f, across}
use Rattle.geometry.specs.declared.Point.{Point}
use Rattle.util.specs.Math.{larger}
use Rattle.util.specs.Maybe.{floor_opt}
use Rattle.style.specs.declared.Position.{Position}
use Rattle.style.specs.declared.Position.TheVariants.{Static, Relative, Absolute}
use Rattle.style.specs.declared.Style.{Style}
use Rattle.tree.specs.Tree.{Tree, Forest, node, none, more, map_t, map_f, root_t, on_root}
use Rattle.tree.proofs.Laws.{map_map_t, root_t_map}
use Rattle.steps.specs.Row.{Row, ProbeWords, bare, hidden_row, aside_row, laid_row, put_at, lowered, is_laid}
use Rattle.steps.specs.Page.{Site, Cell, Node, blank}
use Rattle.steps.specs.Question.{root_input}
use Rattle.steps.specs.Sizing.{sizing_of, step_a, step_b, step_d, filled, known_axis, known_of, gutter, insets}
use Rattle.steps.specs.Edges.{frame_of, step_i}
use Rattle.steps.specs.Stack.{inner_width, relative_offset, offset_by, item_of, asked_width, child_input, question_to, free_of, place_x, place_of, line_of, edges_of, past_aside, past_hidden}
use Rattle.steps.specs.Through.{output_of, finished, leaf_output}
use Rattle.steps.specs.Probe.{width_pass}
use Rattle.steps.specs.Kept.{Laid, zeros_t}
use Rattle.steps.specs.Layout.{Stacked, skip, aside, lower_f, align_f, lay_t, ask_t}
use Rattle.steps.specs.declared.LayoutInput.{LayoutInput}
use Rattle.steps.specs.declared.LayoutOutput.{LayoutOutput}
use Rattle.steps.specs.declared.Question.{Question}
use Rattle.steps.specs.declared.Sizing.{Sizing}
use Rattle.steps.specs.declared.Frame.{Frame}
use Rattle.steps.specs.declared.Cursor.{Cursor}
use Rattle.steps.specs.declared.BlockItem.{BlockItem}
use Rattle.steps.proofs.Clauses.{style_t, ask_t_new}
use Rattle.steps.proofs.Cells.{pass_cells, cell_in}
use Rattle.steps.proofs.Zeros.{no_row_lem, unlaid_kept, zeros_t_lem}
use Rattle.laws.specs.Trees.{AllT, all-T, all-map-T, all-back-T}
use Rattle.percent.specs.Widths.{auto_heights, Across, across_of, RatioAlone, SameAcross, auto_a}
use Rattle.percent.specs.Probes.{auto_site, auto_cell, auto_node, known_auto}

-- ---- frames that are one across
pub record SameFrame (f g : Frame) : Type 0 where
  pub width : f.width ≡ g.width
  pub inset : f.inset ≡ g.inset
  pub rtl : f.rtl ≡ g.rtl

pub frame_by : (s : Style) (q p : LayoutInput) (z y : Sizing) (k j : Size (Option Float)) (v w : Float) → z.both ≡ y.both → v ≡ w
    → SameFrame (step_i s q z k v) (step_i (auto_heights s) p y j w)
unfolding step_i insets gutter
frame_by s q p z y k j v w a d = record {
  width = d;
  inset = rw a;
  rtl = refl;
}

-- below the root a width is asked, and B and D leave it
pub known_asked : (s : Style) (z : Sizing) (k : Size (Option Float)) (w : Float) → k.width ≡ Some w → (known_of s z k).width ≡ Some (larger w (across z.both))
unfolding known_of step_d filled step_b known_axis floor_opt
known_asked s z k w e = rw e

-- at the root no height has a basis
no_basis_lem : (s : Style) (q : LayoutInput) → q.basis ≡ None → sizing_of s q.parent q.basis ≡ step_a s q.parent
unfolding step_a
no_basis_lem s q e = rw e

pub frame_root : (s : Style) (q : LayoutInput) (found : Float) → q.basis ≡ None → SameFrame (frame_of s q found) (frame_of (auto_heights s) q found)
unfolding frame_of
frame_root s q found e =
    let z = no_basis_lem s q e in
    let y = no_basis_lem (auto_heights s) q e in
    let k = sym (known_auto s q.parent q.known) in
    rw (z, y) (frame_by s q q (step_a s q.parent) (step_a (auto_heights s) q.parent) _ _ _ _ (ap (λ (x : Sizing). x.both) (sym (auto_a s q.parent))) (ap (λ (o : Size (Option Float)). unwrap_or o.width found) k))

-- ---- what is asked of a child, and where it stands
pub inner_same : (f g : Frame) → SameFrame f g → inner_width f ≡ inner_width g
unfolding inner_width
inner_same f g h = rw (h.width, h.inset)

pub record SameItem (i j : BlockItem) : Type 0 where
  pub sizing : SameAcross i.sizing j.sizing
  pub margin : i.margin ≡ j.margin
  pub left : i.left ≡ j.left
  pub right : i.right ≡ j.right
  pub offset : i.offset.x ≡ j.offset.x

pub offset_same : (p : Position) (i : Rect Length) (r : Bool) (b h k : Option Float) → (offset_by p i r b h).x ≡ (offset_by p i r b k).x
unfolding offset_by relative_offset
offset_same Static i r b h k = refl
offset_same Relative i r b h k = refl
offset_same Absolute i r b h k = refl

pub asked_same : (f g : Frame) (i j : BlockItem) → SameFrame f g → SameItem i j → asked_width f i ≡ asked_width g j
unfolding asked_width
asked_same f g i j h k = rw (inner_same f g h, k.margin, k.sizing.size, k.sizing.min, k.sizing.max, k.sizing.both)

pub x_same : (f g : Frame) (i j : BlockItem) (w : Float) → SameFrame f g → SameItem i j → place_x f i w ≡ place_x g j w
unfolding place_x free_of
x_same f g i j w h k = rw (inner_same f g h, h.width, h.inset, h.rtl, k.margin, k.left, k.right, k.offset)

-- the width that a question asks
pub asks : (f : Frame) (s : Style) → (question_to f s).known.width ≡ Some (asked_width f (item_of f s))
unfolding question_to child_input
asks f s = refl

pub parent_asked : (f : Frame) (s : Style) → (question_to f s).parent ≡ Some (inner_width f)
unfolding question_to child_input
parent_asked f s = refl

-- ---- rows
abbrev set_x : Float → Across → Across
set_x x a = record { x = x; width = a.width; known = a.known; parent = a.parent; probe = a.probe }

put_across : (p : Point Float) (n : ℕ) (t : Tree Row) → map_t across_of (on_root (put_at p n) t) ≡ on_root (set_x p.x) (map_t across_of t)
unfolding map_t on_root put_at
put_across p n (node r ks) = refl

lower_t : (d : Float) (t : Tree Row) → map_t across_of (on_root (lowered d) t) ≡ map_t across_of t
unfolding map_t on_root lowered
lower_t d (node r ks) = refl

lower_f_lem : (d : Float) (ts : Forest Row) → map_f across_of (lower_f d ts) ≡ map_f across_of ts
unfolding lower_f map_f
lower_f_lem d none = refl
lower_f_lem d (more t ts) = rw (lower_t d t, lower_f_lem d ts)

pub align_across : (d : Option Float) (ts : Forest Row) → map_f across_of (align_f d ts) ≡ map_f across_of ts
unfolding align_f
align_across None ts = refl
align_across (Some d) ts = lower_f_lem d ts

pub put_same : (p r : Point Float) (m n : ℕ) (t u : Tree Row) → p.x ≡ r.x → map_t across_of t ≡ map_t across_of u → map_t across_of (on_root (put_at p m) t) ≡ map_t across_of (on_root (put_at r n) u)
put_same p r m n t u e h = put_across p m t ∙ ap (λ (x : Float). on_root (set_x x) (map_t across_of t)) e ∙ ap (on_root (set_x r.x)) h ∙ sym (put_across r n u)

-- a hidden row has nothing across, an aside row its start and end
abbrev edges_a : Float → Float → Across
edges_a x w = record { x = x; width = w; known = zero_f; parent = zero_f; probe = record { width = zero_f; height = zero_f; answer = zero_f } }

hidden_across : (n : ℕ) (t : Tree Row) → map_t across_of (on_root (λ _. hidden_row n) t) ≡ on_root (λ _. edges_a zero_f zero_f) (map_t across_of t)
unfolding map_t on_root hidden_row bare
hidden_across n (node r ks) = refl

aside_across : (a l e : Float) (n : ℕ) (t : Tree Row) → map_t across_of (on_root (λ _. aside_row a l e n) t) ≡ on_root (λ _. edges_a a e) (map_t across_of t)
unfolding map_t on_root aside_row bare
aside_across a l e n (node r ks) = refl

edges_same : (f g : Frame) → SameFrame f g → edges_of f ≡ edges_of g
unfolding edges_of
edges_same f g h = rw (h.width, h.inset)

pub place_x_lem : (f : Frame) (c : Cursor) (i : BlockItem) (o : LayoutOutput) → (place_of f c i o).x ≡ place_x f i o.size.width
unfolding place_of
place_x_lem f c i o = refl

pub same_space : (f g : Frame) (s : Style) → (question_to f s).available ≡ (question_to g (auto_heights s)).available
unfolding question_to child_input
same_space f g s = refl

-- answers and stacks that are one across
pub record SameLaid (a b : Laid) : Type 0 where
  pub same_width : a.out.size.width ≡ b.out.size.width
  pub same_rows : map_t across_of a.rows ≡ map_t across_of b.rows

abbrev pub SameStack : Stacked → Stacked → Type 0
SameStack a b = map_f across_of a.rows ≡ map_f across_of b.rows

pub row_across : (q p : LayoutInput) (o u : LayoutOutput) (w : ProbeWords) → q.known.width ≡ p.known.width → q.parent ≡ p.parent → o.size.width ≡ u.size.width → across_of (laid_row q o w) ≡ across_of (laid_row p u w)
unfolding laid_row
row_across q p o u w a b c = rw (a, b, c)

pub leaf_width_lem : (l : Node) (q p : LayoutInput) → q.known.width ≡ p.known.width → q.available ≡ p.available → (leaf_output l.site.style.measure q).size.width ≡ (leaf_output l.site.style.measure p).size.width
unfolding leaf_output
leaf_width_lem l q p a c = rw (a, c)

pub finished_width : (s : Style) (q : LayoutInput) (f : Frame) (c : Cursor) → (finished s q f c).output.size.width ≡ f.width
unfolding finished output_of
finished_width s q f c = refl

-- ---- the pages: nothing laid before, no fraction beside a ratio
pub record Apart (n : Node) : Type 0 where
  pub alone : RatioAlone n.site.style
  pub unlaid : is_laid n.old ≡ false

-- one child
pub skip_same : (c d : Cursor) (t : Tree Node) (g h : Cursor → Stacked) → SameStack (g (past_hidden c)) (h (past_hidden d)) → SameStack (skip c t g) (skip d (map_t auto_node t) h)
unfolding skip map_f
skip_same c d t g h x = rw (zeros_t_lem auto_node t, x, hidden_across c.count (zeros_t t), hidden_across d.count (zeros_t t))

pub aside_same : (f k : Frame) (c d : Cursor) (t : Tree Node) (g h : Cursor → Stacked) → SameFrame f k → SameStack (g (past_aside c)) (h (past_aside d)) → SameStack (aside f c t g) (aside k d (map_t auto_node t) h)
unfolding aside map_f
aside_same f k c d t g h e x =
    rw (zeros_t_lem auto_node t, x, aside_across (edges_of f).start (line_of f c) (edges_of f).end c.shown.0 (zeros_t t), aside_across (edges_of k).start (line_of k d) (edges_of k).end d.shown.0 (zeros_t t), edges_same f k e)

pub asked_new : (t : Tree Node) (q : LayoutInput) → is_laid (root_t t).old ≡ false → ask_t t q ≡ lay_t t q zero_f
asked_new t q e = ask_t_new t q (unlaid_kept t q e)

pub auto_style : (t : Tree Node) → style_t (map_t auto_node t) ≡ auto_heights (style_t t)
auto_style t = ap (λ (n : Node). n.site.style) (root_t_map auto_node t)

pub auto_unlaid : (t : Tree Node) → is_laid (root_t t).old ≡ false → is_laid (root_t (map_t auto_node t)).old ≡ false
auto_unlaid t e = ap (λ (n : Node). is_laid n.old) (root_t_map auto_node t) ∙ e

-- a child with two questions that ask one width of it, in one parent width
abbrev pub Asked : Tree Node → Type 0
Asked t = (q p : LayoutInput) (w : Float) → q.known.width ≡ Some w → p.known.width ≡ Some w → q.parent ≡ p.parent → q.available ≡ p.available → SameLaid (lay_t t q zero_f) (lay_t (map_t auto_node t) p zero_f)

pub apart_root : (t : Tree Node) → AllT Apart t → Apart (root_t t)
unfolding AllT root_t
apart_root (node l ks) h = h.0

-- the nodes that the width pass gives the final pass
abbrev pub AloneAt : Site → Type 0
AloneAt s = RatioAlone s.style

pub apart_nodes : (t : Tree Site) (q : LayoutInput) → AllT AloneAt t → AllT Apart (width_pass (map_t blank t) q).nodes
unfolding blank
apart_nodes t q h =
    let a : AllT ApartC (map_t blank t) = all-back-T blank ApartC t (all-T AloneAt (λ (s : Site). ApartC (blank s)) (λ s n. (n, no_row_lem)) t h) in
    let b : AllT ApartC (map_t cell_in (width_pass (map_t blank t) q).nodes) = rw (pass_cells (map_t blank t) q) a in
    all-T (λ (n : Node). ApartC (cell_in n)) Apart (λ n x. record { alone = x.0; unlaid = x.1 }) _ (all-map-T cell_in ApartC _ b)
  where
    ApartC : Cell → Type 0
    ApartC c = RatioAlone c.site.style × (is_laid c.old ≡ false)

pub auto_blank : (t : Tree Site) → map_t blank (map_t auto_site t) ≡ map_t auto_cell (map_t blank t)
unfolding blank
auto_blank t = map_map_t blank auto_site t ∙ sym (map_map_t auto_cell blank t)

pub no_root_basis : (q : Question) → (root_input q).basis ≡ None
unfolding root_input
no_root_basis q = refl
