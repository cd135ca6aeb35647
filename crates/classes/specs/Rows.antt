-- The boxes are the laid nodes of the page: their numbers, heights and through are those of the rows.
use Rattle.std.specs.Prelude.{◌≡◌, refl, Bool, true, false, ℕ, ◌<◌, Float, Option, None, Some}
use Rattle.std.proofs.Common.{sym, ap, ◌∙◌}
use Rattle.geometry.specs.Geometry.{zero_f}
use Rattle.geometry.specs.declared.Point.{Point}
use Rattle.style.specs.Codes.{flag_at}
use Rattle.style.specs.Flow.{flow_of}
use Rattle.style.specs.declared.Style.{Style}
use Rattle.style.specs.declared.Flow.{Flow}
use Rattle.style.specs.declared.Flow.TheVariants.{Gone, Out, In}
use Rattle.tree.specs.Tree.{Tree, Forest, node, none, more, map_t, map_f, root_t, on_root}
use Rattle.tree.proofs.Laws.{map_map_t, map_id_t, map_f_more}
use Rattle.steps.specs.Row.{Row, ProbeWords, is_laid, no_row, hidden_row, aside_row, laid_row, output_in, put_at, lowered, origin}
use Rattle.steps.specs.Page.{Site, Cell, Node, blank}
use Rattle.steps.specs.Stack.{question_to, item_of, stepped, place_of, line_of, edges_of, past_aside, past_hidden}
use Rattle.steps.specs.Through.{leaf_output}
use Rattle.steps.specs.Kept.{Laid, zeros_t, zeros_f}
use Rattle.steps.specs.Layout.{Stacked, lay_t, lay_f, lower_f, align_f, skip, aside, place}
use Rattle.steps.specs.declared.LayoutInput.{LayoutInput}
use Rattle.steps.specs.declared.LayoutOutput.{LayoutOutput}
use Rattle.steps.specs.declared.Frame.{Frame}
use Rattle.steps.specs.declared.Cursor.{Cursor}
use Rattle.steps.proofs.Clauses.{style_t, lay_f_gone, lay_f_out, lay_f_in}
use Rattle.steps.proofs.Cells.{pass_cells, cell_in}
use Rattle.steps.proofs.Zeros.{no_row_lem}
use Rattle.laws.specs.Bits.{out_row, hidden_row_lem, aside_row_lem}
use Rattle.laws.specs.Along.{root_laid}
use Rattle.classes.specs.Margins.{Box}
use Rattle.classes.specs.Real.{box_t, box_f, box_f_at, leaf_box, next_c, this_box, UnlaidT, ask_new}
use Rattle.classes.specs.Fresh.{nodes_of}

-- what a box and a row both say of a node
pub record Said : Type 0 where
  pub node : ℕ
  pub height : Float
  pub through : Bool

abbrev pub said_box : Box → Said
said_box a = record { node = a.node; height = a.height; through = a.through }

abbrev pub said_row : Site → Row → Said
said_row s r = record { node = s.node; height = r.answer.size.height; through = flag_at r.bits 1 }

-- the nodes whose rows are laid, with what the rows say
abbrev pub only_laid : Bool → Tree Said → Forest Said → Forest Said
only_laid true t ts = more t ts
only_laid false t ts = ts

abbrev mutual
  pub laid_t : Tree Site → Tree Row → Tree Said
  laid_t (node s ks) (node r us) = node (said_row s r) (laid_f ks us)

  pub laid_f : Forest Site → Forest Row → Forest Said
  laid_f none us = none
  laid_f (more t ts) none = none
  laid_f (more t ts) (more u us) = only_laid (is_laid (root_t u)) (laid_t t u) (laid_f ts us)

-- ---- what places, orders and shifts leave alone
record Alike (g : Row → Row) : Type 0 where
  says : (s : Site) (r : Row) → said_row s (g r) ≡ said_row s r
  laid : (r : Row) → is_laid (g r) ≡ is_laid r

put_alike : (p : Point Float) (n : ℕ) → Alike (put_at p n)
unfolding put_at is_laid
put_alike p n = record { says = λ s r. refl; laid = λ r. refl }

lower_alike : (d : Float) → Alike (lowered d)
unfolding lowered is_laid
lower_alike d = record { says = λ s r. refl; laid = λ r. refl }

on_t : (g : Row → Row) → Alike g → (t : Tree Site) (u : Tree Row) → laid_t t (on_root g u) ≡ laid_t t u
unfolding on_root
on_t g h (node s ks) (node r us) = ap (λ (x : Said). node x (laid_f ks us)) (h.says s r)

on_root_lem : (g : Row → Row) → Alike g → (u : Tree Row) → is_laid (root_t (on_root g u)) ≡ is_laid (root_t u)
unfolding on_root root_t
on_root_lem g h (node r us) = h.laid r

lower_f_lem : (d : Float) (ks : Forest Site) (us : Forest Row) → laid_f ks (lower_f d us) ≡ laid_f ks us
unfolding lower_f
lower_f_lem d none us = refl
lower_f_lem d (more t ts) none = refl
lower_f_lem d (more t ts) (more u us) = rw (on_root_lem (lowered d) (lower_alike d) u, on_t (lowered d) (lower_alike d) t u, lower_f_lem d ts us)

pub align_f_lem : (d : Option Float) (ks : Forest Site) (us : Forest Row) → laid_f ks (align_f d us) ≡ laid_f ks us
unfolding align_f
align_f_lem None ks us = refl
align_f_lem (Some d) ks us = lower_f_lem d ks us

-- ---- rows that are not laid
zero_root : (t : Tree Node) → is_laid (root_t (map_t (λ (_ : Node). no_row) t)) ≡ false
unfolding map_t root_t
zero_root (node l ks) = no_row_lem

abbrev pub site_n : Node → Site
site_n n = n.site

zeros_f_lem : (ts : Forest Node) → laid_f (map_f site_n ts) (map_f (λ (_ : Node). no_row) ts) ≡ none
unfolding map_f
zeros_f_lem none = refl
zeros_f_lem (more t ts) = rw (zero_root t) (zeros_f_lem ts)

pub zeros_below : (ts : Forest Node) → laid_f (map_f site_n ts) (zeros_f ts) ≡ none
unfolding zeros_f
zeros_below ts = zeros_f_lem ts

bare_root : (r : Row) → is_laid r ≡ false → (t : Tree Node) → is_laid (root_t (on_root (λ _. r) (zeros_t t))) ≡ false
unfolding map_t zeros_t on_root root_t
bare_root r e (node l ks) = e

-- ---- a laid row
bit_of : (q : LayoutInput) (o : LayoutOutput) (w : ProbeWords) → w.code < 16 → flag_at (laid_row q o w).bits 1 ≡ o.through
unfolding output_in put_at
bit_of q o w h = ap (λ (z : LayoutOutput). z.through) (out_row q o w origin 0 h)

height_of : (q : LayoutInput) (o : LayoutOutput) (w : ProbeWords) → (laid_row q o w).answer.size.height ≡ o.size.height
unfolding laid_row
height_of q o w = refl

abbrev pub said_out : Site → LayoutOutput → Said
said_out s o = record { node = s.node; height = o.size.height; through = o.through }

pub own_row : (s : Site) (q : LayoutInput) (o : LayoutOutput) (w : ProbeWords) → w.code < 16 → said_out s o ≡ said_row s (laid_row q o w)
own_row s q o w h =
    ap (λ (b : Bool). record { node = s.node; height = o.size.height; through = b }) (sym (bit_of q o w h))
    ∙ ap (λ (x : Float). record { node = s.node; height = x; through = flag_at (laid_row q o w).bits 1 }) (sym (height_of q o w))

pub leaf_said : (l : Node) (q : LayoutInput) (gap : Float) (p : Bool) → said_box (leaf_box l q gap p) ≡ said_out l.site (leaf_output l.site.style.measure q)
unfolding leaf_output
leaf_said l q gap p = refl

-- ---- node by node
abbrev pub SaysT : Tree Node → Type 0
SaysT t = (q : LayoutInput) (found gap : Float) (p : Bool) → map_t said_box (box_t t q found gap p) ≡ laid_t (map_t site_n t) (lay_t t q found).rows

abbrev pub SaysF : Forest Node → Type 0
SaysF ts = (f : Frame) (c : Cursor) → map_f said_box (box_f ts f c) ≡ laid_f (map_f site_n ts) (lay_f ts f c).rows

skip_rows : (c : Cursor) (t : Tree Node) (ts : Forest Site) (g : Cursor → Stacked) → laid_f (more (map_t site_n t) ts) (skip c t g).rows ≡ laid_f ts (g (past_hidden c)).rows
unfolding skip
skip_rows c t ts g = rw (bare_root (hidden_row c.count) (hidden_row_lem c.count) t)

aside_rows : (f : Frame) (c : Cursor) (t : Tree Node) (ts : Forest Site) (g : Cursor → Stacked) → laid_f (more (map_t site_n t) ts) (aside f c t g).rows ≡ laid_f ts (g (past_aside c)).rows
unfolding aside
aside_rows f c t ts g = rw (bare_root (aside_row (edges_of f).start (line_of f c) (edges_of f).end c.shown.0) (aside_row_lem _ _ _ _) t)

place_rows : (f : Frame) (c : Cursor) (s : Style) (a : Laid) (t : Tree Site) (ts : Forest Site) (g : Cursor → Stacked) → is_laid (root_t a.rows) ≡ true
    → laid_f (more t ts) (place f c s a g).rows ≡ more (laid_t t a.rows) (laid_f ts (g (stepped f c (item_of f s) a.out)).rows)
unfolding place
place_rows f c s a t ts g e =
    let p = put_at (place_of f c (item_of f s) a.out) c.shown.0 in
    rw (on_root_lem p (put_alike _ _) a.rows, e, on_t p (put_alike _ _) t a.rows)

pub says_more : (t : Tree Node) (ts : Forest Node) → UnlaidT t → SaysT t → SaysF ts → SaysF (more t ts)
says_more t ts u h r f c = go (flow_of (style_t t)) refl
  where
    go : (w : Flow) → flow_of (style_t t) ≡ w → map_f said_box (box_f (more t ts) f c) ≡ laid_f (map_f site_n (more t ts)) (lay_f (more t ts) f c).rows
    go Gone e = rw (box_f_at t ts f c Gone e, lay_f_gone t ts f c e, map_f_more site_n t ts, skip_rows c t (map_f site_n ts) (lay_f ts f)) (r f (past_hidden c))
    go Out e = rw (box_f_at t ts f c Out e, lay_f_out t ts f c e, map_f_more site_n t ts, aside_rows f c t (map_f site_n ts) (lay_f ts f)) (r f (past_aside c))
    go In e =
        let q = question_to f (style_t t) in
        ap (map_f said_box) (box_f_at t ts f c In e)
        ∙ map_f_more said_box (this_box t f c) (box_f ts f (next_c t f c))
        ∙ ap (λ (x : Tree Said). more x (map_f said_box (box_f ts f (next_c t f c)))) (h q zero_f _ _)
        ∙ ap (more (laid_t (map_t site_n t) (lay_t t q zero_f).rows)) (r f (next_c t f c))
        ∙ sym (place_rows f c (style_t t) (lay_t t q zero_f) (map_t site_n t) (map_f site_n ts) (lay_f ts f) (root_laid t q zero_f))
        ∙ sym (ap (λ (z : Stacked). laid_f (more (map_t site_n t) (map_f site_n ts)) z.rows) (lay_f_in t ts f c e ∙ ap (λ (a : Laid). place f c (style_t t) a (lay_f ts f)) (ask_new t q u)))
        ∙ ap (λ (k : Forest Site). laid_f k (lay_f (more t ts) f c).rows) (sym (map_f_more site_n t ts))

pub sites_are : (t : Tree Site) (q : LayoutInput) → map_t site_n (nodes_of t q) ≡ t
unfolding blank
sites_are t q =
    sym (map_map_t (λ (c : Cell). c.site) cell_in (nodes_of t q)) ∙ ap (map_t (λ (c : Cell). c.site)) (pass_cells (map_t blank t) q) ∙ map_map_t (λ (c : Cell). c.site) blank t ∙ map_id_t t
