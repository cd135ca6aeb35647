-- A page without a fraction of a height has the rows that it had before percent heights, but for number 14 and bit 8.
use Rattle.std.specs.Prelude.{◌≡◌, refl, Bool, true, false, ℕ, ◌+◌, ◌*◌, ◌/◌, ◌%◌, ◌<◌, eqb, Float, Option, None, Some, is_some}
use Rattle.std.proofs.Common.{sym, ap, ◌∙◌, arith}
use Rattle.geometry.specs.Geometry.{zero_f}
use Rattle.geometry.specs.declared.Point.{Point}
use Rattle.util.specs.Maybe.{or_zero}
use Rattle.style.specs.Codes.{flag_at}
use Rattle.style.specs.Flow.{is_leaf, flow_of}
use Rattle.style.specs.declared.Flow.{Flow}
use Rattle.style.specs.declared.Flow.TheVariants.{Gone, Out, In}
use Rattle.style.specs.declared.Style.{Style}
use Rattle.tree.specs.Tree.{Tree, Forest, node, none, more, map_t, map_f, root_t, on_root}
use Rattle.steps.specs.Row.{Row, ProbeWords, bit, is_laid, is_out, laid_row, put_at, lowered}
use Rattle.steps.specs.Page.{Site, Cell, Node, blank}
use Rattle.steps.specs.Question.{root_input}
use Rattle.steps.specs.Edges.{frame_of, step_i}
use Rattle.steps.specs.Stack.{inner_width, start_of, item_of, asked_width, child_input, question_to, at_top, gap_of, free_of, place_x, place_y, place_of, past_box, stepped, line_of, edges_of, past_aside, past_hidden}
use Rattle.steps.specs.Height.{extra_of, step_k, step_l, held_open, still_own_end, step_m}
use Rattle.steps.specs.Through.{step_n, output_of, finished, leaf_output}
use Rattle.steps.specs.Probe.{width_pass}
use Rattle.steps.specs.Kept.{Laid}
use Rattle.steps.specs.Layout.{Stacked, leaf_laid, block_laid, skip, aside, place, lower_f, align_f, lay_t, lay_f, ask_t}
use Rattle.steps.specs.declared.LayoutInput.{LayoutInput}
use Rattle.steps.specs.declared.LayoutOutput.{LayoutOutput}
use Rattle.steps.specs.declared.Question.{Question}
use Rattle.steps.specs.declared.Frame.{Frame}
use Rattle.steps.specs.declared.Cursor.{Cursor}
use Rattle.steps.specs.declared.BlockItem.{BlockItem}
use Rattle.steps.proofs.Clauses.{style_t, by_test, by_flow, lay_f_gone, lay_f_out, lay_f_in, ask_t_new}
use Rattle.steps.proofs.Cells.{pass_cells, cell_in}
use Rattle.steps.proofs.Zeros.{no_row_lem, unlaid_kept}
use Rattle.laws.specs.Trees.{AllT, all-T, all-and-T, all-map-T, all-back-T}
use Rattle.laws.specs.Small.{Small, pass_small}
use Rattle.percent.specs.Parts.{NoHeightParts, whole_sizing, whole_offset}

-- ---- the final pass as it was: no frame has a basis for heights. Of a fresh page, where nothing is kept.
abbrev pub no_basis : Frame → Frame
no_basis f =
    record {
      width = f.width;
      height = f.height;
      inset = f.inset;
      floor = f.floor;
      minHeight = f.minHeight;
      maxHeight = f.maxHeight;
      heightBasis = None;
      ownStart = f.ownStart;
      ownEnd = f.ownEnd;
      hollow = f.hollow;
      rtl = f.rtl;
    }

unfoldable mutual
  pub before_t : Tree Node → LayoutInput → Float → Laid
  before_t (node l ks) q found =
      elim (is_leaf l.site.style.kind) [
        | true ↦ leaf_laid l q ks
        | false ↦
            let f : Frame = no_basis (frame_of l.site.style q found) in
            block_laid l q f (before_f ks f (start_of f))
      ]

  pub before_f : Forest Node → Frame → Cursor → Stacked
  before_f none f c = record { last = c; rows = none }
  before_f (more t ts) f c =
      elim (flow_of (root_t t).site.style) [
        | Gone ↦ skip c t (before_f ts f)
        | Out ↦ aside f c t (before_f ts f)
        | In ↦ place f c (root_t t).site.style (before_t t (question_to f (root_t t).site.style) zero_f) (before_f ts f)
      ]

unfoldable pub before : Tree Site → LayoutInput → Laid
before t q =
    let p = width_pass (map_t blank t) q in
    before_t p.nodes q p.found

-- a row without number 14 and bit 8
abbrev pub forgot : Row → Row
forgot r =
    record {
      place = r.place;
      answer = r.answer;
      asked = record { width = r.asked.width; height = r.asked.height; parent = r.asked.parent; basis = zero_f };
      probe = r.probe;
      order = r.order;
      bits = r.bits % 256 + 512 * (r.bits / 512);
    }

-- ---- the proof
pub record SameLaid (a b : Laid) : Type 0 where
  pub same_out : a.out ≡ b.out
  pub same_rows : map_t forgot a.rows ≡ map_t forgot b.rows

pub record SameStack (a b : Stacked) : Type 0 where
  pub same_last : a.last ≡ b.last
  pub same_rows : map_f forgot a.rows ≡ map_f forgot b.rows

-- the clauses
abbrev frame_b : Node → LayoutInput → Float → Frame
frame_b l q found = no_basis (frame_of l.site.style q found)

abbrev pub box_b : Node → Forest Node → LayoutInput → Float → Laid
box_b l ks q found = block_laid l q (frame_b l q found) (before_f ks (frame_b l q found) (start_of (frame_b l q found)))

before_t_by : (l : Node) (ks : Forest Node) (q : LayoutInput) (found : Float) → before_t (node l ks) q found ≡ by_test (is_leaf l.site.style.kind) (leaf_laid l q ks) (box_b l ks q found)
unfolding before_t
before_t_by l ks q found = refl

pub before_t_at : (l : Node) (ks : Forest Node) (q : LayoutInput) (found : Float) (b : Bool) → is_leaf l.site.style.kind ≡ b → before_t (node l ks) q found ≡ by_test b (leaf_laid l q ks) (box_b l ks q found)
before_t_at l ks q found b e = before_t_by l ks q found ∙ ap (λ (b : Bool). by_test b (leaf_laid l q ks) (box_b l ks q found)) e

abbrev place_b : Tree Node → Forest Node → Frame → Cursor → Stacked
place_b t ts f c = place f c (style_t t) (before_t t (question_to f (style_t t)) zero_f) (before_f ts f)

before_f_by : (t : Tree Node) (ts : Forest Node) (f : Frame) (c : Cursor) → before_f (more t ts) f c ≡ by_flow (flow_of (style_t t)) (skip c t (before_f ts f)) (aside f c t (before_f ts f)) (place_b t ts f c)
unfolding before_f
before_f_by t ts f c = refl

before_f_at : (t : Tree Node) (ts : Forest Node) (f : Frame) (c : Cursor) (w : Flow) → flow_of (style_t t) ≡ w
    → before_f (more t ts) f c ≡ by_flow w (skip c t (before_f ts f)) (aside f c t (before_f ts f)) (place_b t ts f c)
before_f_at t ts f c w e = before_f_by t ts f c ∙ ap (λ (v : Flow). by_flow v (skip c t (before_f ts f)) (aside f c t (before_f ts f)) (place_b t ts f c)) e

pub before_f_none : (f : Frame) (c : Cursor) → before_f none f c ≡ record { last = c; rows = none }
unfolding before_f
before_f_none f c = refl

-- a question without its basis
abbrev pub unbased : LayoutInput → LayoutInput
unbased q =
    record {
      known = q.known;
      parent = q.parent;
      basis = None;
      definiteHeight = q.definiteHeight;
      available = q.available;
      collapseStart = q.collapseStart;
      collapseEnd = q.collapseEnd;
      nested = q.nested;
    }

-- the frame, and what is asked in it
pub frame_same : (s : Style) (q : LayoutInput) (found : Float) → NoHeightParts s → no_basis (frame_of s q found) ≡ no_basis (frame_of s (unbased q) found)
unfolding frame_of step_i
frame_same s q found n = rw (whole_sizing s q.parent q.basis None n.sizes)

item_same : (f : Frame) (s : Style) → NoHeightParts s → item_of f s ≡ item_of (no_basis f) s
unfolding item_of inner_width
item_same f s n =
    rw (whole_sizing s (Some (inner_width f)) f.heightBasis None n.sizes, whole_offset s.position s.inset f.rtl (Some (inner_width f)) f.heightBasis None n.top n.bottom)

asked_same : (f : Frame) (s : Style) (i : BlockItem) → unbased (child_input f s i) ≡ child_input (no_basis f) s i
unfolding child_input asked_width inner_width
asked_same f s i = refl

question_same : (f : Frame) (s : Style) → NoHeightParts s → unbased (question_to f s) ≡ question_to (no_basis f) s
unfolding question_to
question_same f s n = asked_same f s (item_of f s) ∙ ap (child_input (no_basis f) s) (item_same f s n)

-- no other step reads it
pub start_same : (f : Frame) → start_of f ≡ start_of (no_basis f)
unfolding start_of
start_same f = refl

place_same : (f : Frame) (c : Cursor) (i : BlockItem) (o : LayoutOutput) → place_of f c i o ≡ place_of (no_basis f) c i o
unfolding place_of place_x place_y gap_of free_of inner_width at_top
place_same f c i o = refl

step_same : (f : Frame) (c : Cursor) (i : BlockItem) (o : LayoutOutput) → stepped f c i o ≡ stepped (no_basis f) c i o
unfolding stepped place_y past_box gap_of at_top
step_same f c i o = refl

line_same : (f : Frame) (c : Cursor) → line_of f c ≡ line_of (no_basis f) c
unfolding line_of at_top
line_same f c = refl

edges_same : (f : Frame) → edges_of f ≡ edges_of (no_basis f)
unfolding edges_of
edges_same f = refl

pub finish_same : (s : Style) (q : LayoutInput) (f : Frame) (c : Cursor) → finished s q f c ≡ finished s (unbased q) (no_basis f) c
unfolding finished output_of step_k extra_of at_top step_l held_open still_own_end step_m step_n
finish_same s q f c = refl

pub leaf_same : (l : Node) (q : LayoutInput) → leaf_output l.site.style.measure q ≡ leaf_output l.site.style.measure (unbased q)
unfolding leaf_output
leaf_same l q = refl

-- rows
no_bit : (a b v : ℕ) → a < 256 → b < 2 → (a + 256 * b + 512 * v) % 256 + 512 * ((a + 256 * b + 512 * v) / 512) ≡ (a + 256 * 0 + 512 * v) % 256 + 512 * ((a + 256 * 0 + 512 * v) / 512)
no_bit a b v h k = omega arith

bit_small : (b : Bool) → bit b < 2
bit_small true = omega arith
bit_small false = omega arith

low_bits : (t g : Bool) (c : ℕ) → c < 16 → 1 + 2 * bit t + 8 * bit g + 16 * c < 256
low_bits t g c h =
    let x = bit_small t in
    let y = bit_small g in
    omega arith

pub row_same : (q : LayoutInput) (o : LayoutOutput) (p : ProbeWords) → p.code < 16 → forgot (laid_row q o p) ≡ forgot (laid_row (unbased q) o p)
unfolding laid_row
row_same q o p h =
    rw (no_bit (1 + 2 * bit o.through + 8 * bit (is_some q.known.height) + 16 * p.code) (bit (is_some q.basis)) (bit (is_some o.baseline)) (low_bits o.through (is_some q.known.height) p.code h) (bit_small (is_some q.basis)))

put_forgot : (p : Point Float) (n : ℕ) (t : Tree Row) → map_t forgot (on_root (put_at p n) t) ≡ on_root (put_at p n) (map_t forgot t)
unfolding map_t on_root put_at
put_forgot p n (node r ks) = refl

flag_0 : (b : ℕ) → flag_at (b % 256 + 512 * (b / 512)) 0 ≡ flag_at b 0
flag_0 b = ap (λ (n : ℕ). eqb n 1) (go b)
  where
    go : (b : ℕ) → (b % 256 + 512 * (b / 512)) / 1 % 2 ≡ b / 1 % 2
    go b = omega arith

flag_2 : (b : ℕ) → flag_at (b % 256 + 512 * (b / 512)) 2 ≡ flag_at b 2
flag_2 b = ap (λ (n : ℕ). eqb n 1) (go b)
  where
    go : (b : ℕ) → (b % 256 + 512 * (b / 512)) / 4 % 2 ≡ b / 4 % 2
    go b = omega arith

lower_forgot : (d : Float) (r : Row) → forgot (lowered d r) ≡ lowered d (forgot r)
unfolding lowered is_laid is_out
lower_forgot d r = rw (flag_0 r.bits, flag_2 r.bits)

lower_t : (d : Float) (t : Tree Row) → map_t forgot (on_root (lowered d) t) ≡ on_root (lowered d) (map_t forgot t)
unfolding map_t on_root
lower_t d (node r ks) = ap (λ (x : Row). node x (map_f forgot ks)) (lower_forgot d r)

lower_f_lem : (d : Float) (ts : Forest Row) → map_f forgot (lower_f d ts) ≡ lower_f d (map_f forgot ts)
unfolding lower_f map_f
lower_f_lem d none = refl
lower_f_lem d (more t ts) = rw (lower_t d t, lower_f_lem d ts)

align_forgot : (d : Option Float) (ts : Forest Row) → map_f forgot (align_f d ts) ≡ align_f d (map_f forgot ts)
unfolding align_f
align_forgot None ts = refl
align_forgot (Some d) ts = lower_f_lem d ts

pub align_same : (d : Option Float) (ts us : Forest Row) → map_f forgot ts ≡ map_f forgot us → map_f forgot (align_f d ts) ≡ map_f forgot (align_f d us)
align_same d ts us e = align_forgot d ts ∙ ap (align_f d) e ∙ sym (align_forgot d us)

put_same : (p : Point Float) (n : ℕ) (t u : Tree Row) → map_t forgot t ≡ map_t forgot u → map_t forgot (on_root (put_at p n) t) ≡ map_t forgot (on_root (put_at p n) u)
put_same p n t u e = put_forgot p n t ∙ ap (on_root (put_at p n)) e ∙ sym (put_forgot p n u)

-- a node of a fresh page without such fractions
pub record Plain (n : Node) : Type 0 where
  pub parts : NoHeightParts n.site.style
  pub unlaid : is_laid n.old ≡ false
  pub small : Small n

-- one child
skip_same : (c : Cursor) (t : Tree Node) (g h : Cursor → Stacked) → SameStack (g (past_hidden c)) (h (past_hidden c)) → SameStack (skip c t g) (skip c t h)
unfolding skip map_f
skip_same c t g h x = record {
  same_last = x.same_last;
  same_rows = rw x.same_rows;
}

aside_same : (f : Frame) (c : Cursor) (t : Tree Node) (g h : Cursor → Stacked) → SameStack (g (past_aside c)) (h (past_aside c)) → SameStack (aside f c t g) (aside (no_basis f) c t h)
unfolding aside map_f
aside_same f c t g h x = record {
  same_last = x.same_last;
  same_rows = rw (x.same_rows, line_same f c, edges_same f);
}

place_node : (f : Frame) (c : Cursor) (s : Style) (a b : Laid) (g h : Cursor → Stacked) → NoHeightParts s → SameLaid a b → ((d : Cursor) → SameStack (g d) (h d)) → SameStack (place f c s a g) (place (no_basis f) c s b h)
unfolding place map_f
place_node f c s a b g h n x k =
    let i = item_of f s in
    let j = item_of (no_basis f) s in
    let e : i ≡ j = item_same f s n in
    let d : stepped f c i a.out ≡ stepped (no_basis f) c j b.out = step_same f c i a.out ∙ ap (λ (v : BlockItem). stepped (no_basis f) c v a.out) e ∙ ap (stepped (no_basis f) c j) x.same_out in
    let p : place_of f c i a.out ≡ place_of (no_basis f) c j b.out = place_same f c i a.out ∙ ap (λ (v : BlockItem). place_of (no_basis f) c v a.out) e ∙ ap (place_of (no_basis f) c j) x.same_out in
    let y = k (stepped (no_basis f) c j b.out) in
    let z = put_same (place_of (no_basis f) c j b.out) c.shown.0 a.rows b.rows x.same_rows in
    record {
      same_last = ap (λ (v : Cursor). (g v).last) d ∙ y.same_last;
      same_rows = rw (d, p) (rw (z, y.same_rows));
    }

asked_new : (t : Tree Node) (q : LayoutInput) → is_laid (root_t t).old ≡ false → ask_t t q ≡ lay_t t q zero_f
asked_new t q e = ask_t_new t q (unlaid_kept t q e)

pub more_same : (t : Tree Node) (ts : Forest Node) (f : Frame) (c : Cursor) → Plain (root_t t) → ((q : LayoutInput) → SameLaid (lay_t t q zero_f) (before_t t (unbased q) zero_f)) → ((d : Cursor) → SameStack (lay_f ts f d) (before_f ts (no_basis f) d))
    → SameStack (lay_f (more t ts) f c) (before_f (more t ts) (no_basis f) c)
more_same t ts f c n h k = go (flow_of (style_t t)) refl
  where
    go : (w : Flow) → flow_of (style_t t) ≡ w → SameStack (lay_f (more t ts) f c) (before_f (more t ts) (no_basis f) c)
    go Gone e = rw (lay_f_gone t ts f c e, before_f_at t ts (no_basis f) c Gone e) (skip_same c t _ _ (k (past_hidden c)))
    go Out e = rw (lay_f_out t ts f c e, before_f_at t ts (no_basis f) c Out e) (aside_same f c t _ _ (k (past_aside c)))
    go In e =
        rw (lay_f_in t ts f c e, before_f_at t ts (no_basis f) c In e, asked_new t (question_to f (style_t t)) n.unlaid, ← question_same f (style_t t) n.parts)
        (place_node f c (style_t t) _ _ _ _ n.parts (h (question_to f (style_t t))) k)

pub plain_root : (t : Tree Node) → AllT Plain t → Plain (root_t t)
unfolding AllT root_t
plain_root (node l ks) h = h.0

-- the nodes that the width pass gives the final pass
abbrev pub NoPartsAt : Site → Type 0
NoPartsAt s = NoHeightParts s.style

pub plain_nodes : (t : Tree Site) (q : LayoutInput) → AllT NoPartsAt t → AllT Plain (width_pass (map_t blank t) q).nodes
unfolding blank
plain_nodes t q h =
    let a : AllT PlainC (map_t blank t) = all-back-T blank PlainC t (all-T NoPartsAt (λ (s : Site). PlainC (blank s)) (λ s n. (n, no_row_lem)) t h) in
    let b : AllT PlainC (map_t cell_in (width_pass (map_t blank t) q).nodes) = rw (pass_cells (map_t blank t) q) a in
    let both = all-and-T (λ (n : Node). PlainC (cell_in n)) Small _ (all-map-T cell_in PlainC _ b) (pass_small (map_t blank t) q) in
    all-T (λ (n : Node). PlainC (cell_in n) × Small n) Plain (λ n x. record { parts = x.0.0; unlaid = x.0.1; small = x.1 }) _ both
  where
    PlainC : Cell → Type 0
    PlainC c = NoHeightParts c.site.style × (is_laid c.old ≡ false)

pub root_same : (q : Question) → unbased (root_input q) ≡ root_input q
unfolding root_input
root_same q = refl
