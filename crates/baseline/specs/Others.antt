-- Baselines move no other row word: a page's rows, but for number 15 and bit 9, are those of the page without bit 16.
use Rattle.std.specs.Prelude.{◌≡◌, refl, Bool, true, false, cond, ℕ, ◌+◌, ◌*◌, ◌/◌, ◌%◌, ◌<◌, eqb, Float, Option, None, is_some}
use Rattle.std.proofs.Common.{sym, ap, ◌∙◌, arith}
use Rattle.geometry.specs.Geometry.{zero_f}
use Rattle.geometry.specs.declared.Point.{Point}
use Rattle.util.specs.Maybe.{or_zero}
use Rattle.margin.specs.declared.CollapsibleMarginSet.{CollapsibleMarginSet}
use Rattle.style.specs.Codes.{flag_at}
use Rattle.style.specs.Flow.{flow_of}
use Rattle.style.specs.declared.Flow.{Flow}
use Rattle.style.specs.declared.Flow.TheVariants.{Gone, Out, In}
use Rattle.style.specs.declared.Style.{Style}
use Rattle.tree.specs.Tree.{Tree, Forest, node, more, map_t, map_f, root_t, on_root}
use Rattle.tree.proofs.Laws.{map_map_t, map_map_f, root_t_map}
use Rattle.steps.specs.Row.{Row, ProbeWords, bit, is_laid, is_out, bare, no_row, hidden_row, aside_row, laid_row, put_at, lowered}
use Rattle.steps.specs.Page.{Site, Node, blank}
use Rattle.steps.specs.Stack.{start_of, item_of, question_to, top_margins, bottom_margins, at_top, gap_of, place_y, place_of, past_through, past_box, stepped, line_of, edges_of, past_aside, past_hidden}
use Rattle.steps.specs.Height.{extra_of, step_k, step_l, step_m}
use Rattle.steps.specs.Through.{step_n, output_of, finished}
use Rattle.steps.specs.Kept.{Laid, zeros_t, zeros_f}
use Rattle.steps.specs.Layout.{Stacked, skip, aside, place, lay_t, lay_f}
use Rattle.steps.specs.declared.LayoutInput.{LayoutInput}
use Rattle.steps.specs.declared.LayoutOutput.{LayoutOutput}
use Rattle.steps.specs.declared.Frame.{Frame}
use Rattle.steps.specs.declared.Cursor.{Cursor}
use Rattle.steps.specs.declared.BlockItem.{BlockItem}
use Rattle.steps.proofs.Clauses.{style_t, lay_f_gone, lay_f_out, lay_f_in}
use Rattle.steps.proofs.Zeros.{zeros_t_lem}
use Rattle.laws.specs.Restyled.{site_by, cell_by, node_by}
use Rattle.baseline.specs.New.{New, asked_new}
use Rattle.baseline.specs.Unlined.{unlined, unsaid, quiet, still, same_flow, same_item, same_question, none_past, none_out}

-- a page without bit 16
abbrev pub unlined_site : Site → Site
unlined_site s = site_by unlined s

abbrev pub unlined_node : Node → Node
unlined_node n = node_by unlined n

pub record LessLaid (a b : Laid) : Type 0 where
  pub same_out : quiet a.out ≡ b.out
  pub same_rows : map_t unsaid a.rows ≡ b.rows

pub record LessStack (a b : Stacked) : Type 0 where
  pub same_last : still a.last ≡ b.last
  pub same_rows : map_f unsaid a.rows ≡ b.rows

-- ---- rows
bit_small : (b : Bool) → bit b < 2
bit_small true = omega arith
bit_small false = omega arith

no_bit : (a b v : ℕ) → a < 256 → b < 2 → v < 2 → (a + 256 * b + 512 * v) % 512 + 1024 * ((a + 256 * b + 512 * v) / 1024) ≡ a + 256 * b + 512 * 0
no_bit a b v h k m = omega arith

low_bits : (t g : Bool) (c : ℕ) → c < 16 → 1 + 2 * bit t + 8 * bit g + 16 * c < 256
low_bits t g c h =
    let x = bit_small t in
    let y = bit_small g in
    omega arith

pub row_less : (q : LayoutInput) (o : LayoutOutput) (p : ProbeWords) → p.code < 16 → unsaid (laid_row q o p) ≡ laid_row q (quiet o) p
unfolding laid_row
row_less q o p h =
    rw (no_bit (1 + 2 * bit o.through + 8 * bit (is_some q.known.height) + 16 * p.code) (bit (is_some q.basis)) (bit (is_some o.baseline)) (low_bits o.through (is_some q.known.height) p.code h) (bit_small (is_some q.basis)) (bit_small (is_some o.baseline)))

zero_less : unsaid no_row ≡ no_row
unfolding no_row bare
zero_less = refl

hidden_less : (n : ℕ) → unsaid (hidden_row n) ≡ hidden_row n
unfolding hidden_row bare
hidden_less n = refl

aside_less : (a l e : Float) (n : ℕ) → unsaid (aside_row a l e n) ≡ aside_row a l e n
unfolding aside_row bare
aside_less a l e n = refl

pub zeros_less_f : {A : Type 0} (ts : Forest A) → map_f unsaid (zeros_f ts) ≡ zeros_f ts
unfolding zeros_f
zeros_less_f ts = map_map_f unsaid (λ _. no_row) ts ∙ ap (λ (r : Row). map_f (λ _. r) ts) zero_less

zeros_less : (r : Row) → unsaid r ≡ r → {A : Type 0} (t : Tree A) → map_t unsaid (on_root (λ _. r) (zeros_t t)) ≡ on_root (λ _. r) (zeros_t t)
unfolding zeros_t zeros_f map_t on_root
zeros_less r e (node a ks) = ap (λ (x : Row). node x (map_f unsaid (zeros_f ks))) e ∙ ap (node r) (zeros_less_f ks)

put_less : (p : Point Float) (n : ℕ) (t : Tree Row) → map_t unsaid (on_root (put_at p n) t) ≡ on_root (put_at p n) (map_t unsaid t)
unfolding map_t on_root put_at
put_less p n (node r ks) = refl

flag_0 : (b : ℕ) → flag_at (b % 512 + 1024 * (b / 1024)) 0 ≡ flag_at b 0
flag_0 b = ap (λ (n : ℕ). eqb n 1) (go b)
  where
    go : (b : ℕ) → (b % 512 + 1024 * (b / 1024)) / 1 % 2 ≡ b / 1 % 2
    go b = omega arith

flag_2 : (b : ℕ) → flag_at (b % 512 + 1024 * (b / 1024)) 2 ≡ flag_at b 2
flag_2 b = ap (λ (n : ℕ). eqb n 1) (go b)
  where
    go : (b : ℕ) → (b % 512 + 1024 * (b / 1024)) / 4 % 2 ≡ b / 4 % 2
    go b = omega arith

pub lower_less : (d : Float) (r : Row) → unsaid (lowered d r) ≡ lowered d (unsaid r)
unfolding lowered is_laid is_out
lower_less d r = rw (flag_0 r.bits, flag_2 r.bits)

-- ---- the cursor
pub start_less : (f : Frame) → still (start_of f) ≡ start_of f
unfolding start_of
start_less f = refl

place_less : (f : Frame) (c : Cursor) (i : BlockItem) (o : LayoutOutput) → place_of f (still c) i (quiet o) ≡ place_of f c i o
unfolding place_of place_y gap_of at_top top_margins
place_less f c i o = refl

step_by : (v : Bool) (f : Frame) (c : Cursor) (t b : CollapsibleMarginSet) (h : Float) (x : Option Float)
    → still (cond v (past_through c t b x) (past_box f c t b h x)) ≡ cond v (past_through (still c) t b None) (past_box f (still c) t b h None)
unfolding past_through past_box gap_of at_top
step_by true f c t b h x = refl
step_by false f c t b h x = refl

step_less : (f : Frame) (c : Cursor) (i : BlockItem) (o : LayoutOutput) → still (stepped f c i o) ≡ stepped f (still c) i (quiet o)
unfolding stepped top_margins bottom_margins
step_less f c i o = rw (none_past (place_y f (still c) i (quiet o))) (step_by o.through f c _ _ _ _)

aside_past : (c : Cursor) → still (past_aside c) ≡ past_aside (still c)
unfolding past_aside
aside_past c = refl

hidden_past : (c : Cursor) → still (past_hidden c) ≡ past_hidden (still c)
unfolding past_hidden
hidden_past c = refl

line_less : (f : Frame) (c : Cursor) → line_of f (still c) ≡ line_of f c
unfolding line_of at_top
line_less f c = refl

pub finish_shift : (s : Style) (q : LayoutInput) (f : Frame) (c : Cursor) → (finished (unlined s) q f (still c)).shift ≡ (finished s q f c).shift
unfolding finished step_k extra_of at_top step_m
finish_shift s q f c = refl

pub finish_less : (s : Style) (q : LayoutInput) (f : Frame) (c : Cursor) → quiet (finished s q f c).output ≡ (finished (unlined s) q f (still c)).output
unfolding finished output_of step_k extra_of at_top step_n
finish_less s q f c = rw (none_out (unlined s) (step_m (unlined s) f (step_l f (step_k f (still c))) (step_k f (still c))))

-- ---- one child
skip_less : (c : Cursor) (t : Tree Node) (g h : Cursor → Stacked) → ((d : Cursor) → LessStack (g d) (h (still d))) → LessStack (skip c t g) (skip (still c) (map_t unlined_node t) h)
unfolding skip map_f
skip_less c t g h r =
    let x = rw (hidden_past c) at (r (past_hidden c)) in
    record {
      same_last = x.same_last;
      same_rows = rw (zeros_less (hidden_row c.count) (hidden_less c.count) t, zeros_t_lem unlined_node t, x.same_rows);
    }

aside_node : (f : Frame) (c : Cursor) (t : Tree Node) (g h : Cursor → Stacked) → ((d : Cursor) → LessStack (g d) (h (still d))) → LessStack (aside f c t g) (aside f (still c) (map_t unlined_node t) h)
unfolding aside map_f
aside_node f c t g h r =
    let x = rw (aside_past c) at (r (past_aside c)) in
    record {
      same_last = x.same_last;
      same_rows = rw (zeros_less (aside_row (edges_of f).start (line_of f c) (edges_of f).end c.shown.0) (aside_less _ _ _ _) t, zeros_t_lem unlined_node t, x.same_rows, line_less f c);
    }

place_node : (f : Frame) (c : Cursor) (s : Style) (a b : Laid) (g h : Cursor → Stacked) → LessLaid a b → ((d : Cursor) → LessStack (g d) (h (still d))) → LessStack (place f c s a g) (place f (still c) (unlined s) b h)
unfolding place map_f
place_node f c s a b g h x r =
    let i = item_of f s in
    let d : still (stepped f c i a.out) ≡ stepped f (still c) (item_of f (unlined s)) b.out =
    step_less f c i a.out ∙ ap (λ (v : BlockItem). stepped f (still c) v (quiet a.out)) (sym (same_item f s)) ∙ ap (stepped f (still c) (item_of f (unlined s))) x.same_out in
    let p : place_of f c i a.out ≡ place_of f (still c) (item_of f (unlined s)) b.out =
    sym (place_less f c i a.out) ∙ ap (λ (v : BlockItem). place_of f (still c) v (quiet a.out)) (sym (same_item f s)) ∙ ap (place_of f (still c) (item_of f (unlined s))) x.same_out in
    let y = rw d at (r (stepped f c i a.out)) in
    record {
      same_last = y.same_last;
      same_rows = rw (put_less (place_of f c i a.out) c.shown.0 a.rows, x.same_rows, y.same_rows, p);
    }

unlined_style : (t : Tree Node) → style_t (map_t unlined_node t) ≡ unlined (style_t t)
unlined_style t = ap (λ (n : Node). n.site.style) (root_t_map unlined_node t)

pub more_less : (t : Tree Node) (ts : Forest Node) (f : Frame) (c : Cursor) → New (root_t t) → ((q : LayoutInput) → LessLaid (lay_t t q zero_f) (lay_t (map_t unlined_node t) q zero_f))
    → ((d : Cursor) → LessStack (lay_f ts f d) (lay_f (map_f unlined_node ts) f (still d))) → LessStack (lay_f (more t ts) f c) (lay_f (more (map_t unlined_node t) (map_f unlined_node ts)) f (still c))
more_less t ts f c n h k = go (flow_of (style_t t)) refl
  where
    u : Tree Node
    u = map_t unlined_node t

    us : Forest Node
    us = map_f unlined_node ts

    flows : flow_of (style_t u) ≡ flow_of (style_t t)
    flows = ap flow_of (unlined_style t) ∙ same_flow (style_t t)

    new : is_laid (root_t u).old ≡ false
    new = ap (λ (n : Node). is_laid n.old) (root_t_map unlined_node t) ∙ n.unlaid

    go : (w : Flow) → flow_of (style_t t) ≡ w → LessStack (lay_f (more t ts) f c) (lay_f (more u us) f (still c))
    go Gone e = rw (lay_f_gone t ts f c e, lay_f_gone u us f (still c) (flows ∙ e)) (skip_less c t _ _ k)
    go Out e = rw (lay_f_out t ts f c e, lay_f_out u us f (still c) (flows ∙ e)) (aside_node f c t _ _ k)
    go In e =
        let q : LayoutInput = question_to f (style_t t) in
        rw (lay_f_in t ts f c e, lay_f_in u us f (still c) (flows ∙ e), unlined_style t, same_question f (style_t t), asked_new t q n.unlaid, asked_new u q new) (place_node f c (style_t t) _ _ _ _ (h q) k)

pub unlined_blank : (t : Tree Site) → map_t blank (map_t unlined_site t) ≡ map_t (cell_by unlined) (map_t blank t)
unfolding blank
unlined_blank t = map_map_t blank unlined_site t ∙ sym (map_map_t (cell_by unlined) blank t)
