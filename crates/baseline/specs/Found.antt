-- A row's baseline, where it has one, is that of a leaf at or below it: of every node of a fresh layout.
use Rattle.std.specs.Option.{option_or}
use Rattle.std.specs.Prelude.{◌≡◌, refl, Bool, true, false, cond, ℕ, ◌<◌, Float, Option, None, Some, is_some}
use Rattle.std.proofs.Common.{sym, ap, ◌∙◌, inl, inr}
use Rattle.geometry.specs.Floats.{◌⊕◌}
use Rattle.geometry.specs.Geometry.{zero_f}
use Rattle.geometry.specs.declared.Point.{Point}
use Rattle.util.specs.Maybe.{or_zero}
use Rattle.margin.specs.declared.CollapsibleMarginSet.{CollapsibleMarginSet}
use Rattle.style.specs.Flow.{is_leaf, flow_of}
use Rattle.style.specs.declared.Flow.{Flow}
use Rattle.style.specs.declared.Flow.TheVariants.{Gone, Out, In}
use Rattle.style.specs.declared.Style.{Style}
use Rattle.tree.specs.Tree.{Tree, Forest, node, none, more, map_t, map_f, root_t, on_root}
use Rattle.tree.proofs.Laws.{map_map_t}
use Rattle.steps.specs.Row.{Row, ProbeWords, is_laid, hidden_row, laid_row, put_at}
use Rattle.steps.specs.Page.{Site, Cell, Node, blank}
use Rattle.steps.specs.Baseline.{at_place, baseline_past, shifted, block_baseline}
use Rattle.steps.specs.Stack.{start_of, item_of, question_to, top_margins, bottom_margins, place_y, place_of, past_through, past_box, stepped, line_of, edges_of, past_aside, past_hidden}
use Rattle.steps.specs.Through.{output_of, finished, leaf_output}
use Rattle.steps.specs.Probe.{width_pass}
use Rattle.steps.specs.Kept.{Laid, zeros_f}
use Rattle.steps.specs.Layout.{Stacked, skip, aside, place, lay_t, lay_f}
use Rattle.steps.specs.declared.LayoutInput.{LayoutInput}
use Rattle.steps.specs.declared.LayoutOutput.{LayoutOutput}
use Rattle.steps.specs.declared.Frame.{Frame}
use Rattle.steps.specs.declared.Cursor.{Cursor}
use Rattle.steps.specs.declared.BlockItem.{BlockItem}
use Rattle.steps.proofs.Clauses.{style_t, leaf_out, lay_f_none, lay_f_gone, lay_f_out, lay_f_in}
use Rattle.steps.proofs.Cells.{pass_cells, cell_in}
use Rattle.laws.specs.Bits.{lined_row, laid_row_lem}
use Rattle.laws.specs.Along.{root_row}
use Rattle.laws.specs.Small.{Small}
use Rattle.baseline.specs.New.{New, asked_new}
use Rattle.baseline.specs.Carried.{lined, line_in, CarriesT, SaysT, SaysF}
use Rattle.baseline.specs.Origins.{site_n, or_some, is_some_lem, not_some, some_some, no_some, hidden_says, aside_says, bare_says, bare_root, carries_any, says_on, put_alike, OriginHere, root_on, zeros_f_lem, OriginF}

-- ---- one node
pub uncontained : (s : Style) (o d : Option Float) (b : Float) → block_baseline s o d ≡ Some b → shifted o d ≡ Some b
unfolding block_baseline
uncontained s o d b e = go s.contained e
  where
    go : (c : Bool) → cond c None (shifted o d) ≡ Some b → shifted o d ≡ Some b
    go true x = no_some b x
    go false x = x

pub finished_line : (s : Style) (q : LayoutInput) (f : Frame) (c : Cursor) → (finished s q f c).output.baseline ≡ block_baseline s c.baseline (finished s q f c).shift
unfolding finished output_of
finished_line s q f c = refl

pub leaf_line : (n : Node) (ks : Forest Node) (q : LayoutInput) (found : Float) → is_leaf n.site.style.kind ≡ true → (lay_t (node n ks) q found).out.baseline ≡ n.site.style.measure.baseline
unfolding leaf_output
leaf_line n ks q found e = ap (λ (o : LayoutOutput). o.baseline) (leaf_out n ks q found e)

pub laid_line : (q : LayoutInput) (o : LayoutOutput) (p : ProbeWords) → line_in (laid_row q o p) ≡ or_zero o.baseline
unfolding laid_row
laid_line q o p = refl

pub start_none : (f : Frame) → (start_of f).baseline ≡ None
unfolding start_of
start_none f = refl

abbrev pub FirstIn : Forest Node → Frame → Cursor → Type 0
FirstIn ks f c = (x : Float) → (lay_f ks f c).last.baseline ≡ Some x → OriginF (map_f site_n ks) (lay_f ks f c).rows x

pub zeros_below : (ks : Forest Node) → SaysF (map_f site_n ks) (zeros_f ks)
unfolding zeros_f
zeros_below ks = zeros_f_lem ks

-- ---- the stack
through_line : (c : Cursor) (t b : CollapsibleMarginSet) (x : Option Float) → (past_through c t b x).baseline ≡ x
unfolding past_through
through_line c t b x = refl

box_line : (f : Frame) (c : Cursor) (t b : CollapsibleMarginSet) (h : Float) (x : Option Float) → (past_box f c t b h x).baseline ≡ x
unfolding past_box
box_line f c t b h x = refl

past_line : (f : Frame) (c : Cursor) (i : BlockItem) (o : LayoutOutput) → (stepped f c i o).baseline ≡ baseline_past c.baseline (place_y f c i o) o.baseline
unfolding stepped
past_line f c i o = go o.through f c (top_margins i o) (bottom_margins i o) o.size.height (baseline_past c.baseline (place_y f c i o) o.baseline)
  where
    go : (v : Bool) (f : Frame) (c : Cursor) (t b : CollapsibleMarginSet) (h : Float) (x : Option Float) → (cond v (past_through c t b x) (past_box f c t b h x)).baseline ≡ x
    go true f c t b h x = through_line c t b x
    go false f c t b h x = box_line f c t b h x

aside_line : (c : Cursor) → (past_aside c).baseline ≡ c.baseline
unfolding past_aside
aside_line c = refl

hidden_line : (c : Cursor) → (past_hidden c).baseline ≡ c.baseline
unfolding past_hidden
hidden_line c = refl

past_some : (o : Option Float) (y x : Float) (b : Option Float) → o ≡ Some x → baseline_past o y b ≡ Some x
unfolding baseline_past
past_some o y x b e = rw e

past_none : (o : Option Float) (y : Float) → o ≡ None → baseline_past o y None ≡ None
unfolding baseline_past at_place
past_none o y e = rw e

past_first : (o : Option Float) (y x : Float) → o ≡ None → baseline_past o y (Some x) ≡ Some (y ⊕ x)
unfolding baseline_past at_place
past_first o y x e = rw e

-- a row put at its place: what it says is its answer's
put_lined : (p : Point Float) (n : ℕ) (q : LayoutInput) (o : LayoutOutput) (w : ProbeWords) → w.code < 16 → lined (put_at p n (laid_row q o w)) ≡ is_some o.baseline
put_lined p n q o w v = (put_alike p n).has (laid_row q o w) ∙ lined_row q o w v

put_line : (p : Point Float) (n : ℕ) (q : LayoutInput) (o : LayoutOutput) (w : ProbeWords) → line_in (put_at p n (laid_row q o w)) ≡ or_zero o.baseline
put_line p n q o w = (put_alike p n).line (laid_row q o w) ∙ laid_line q o w

put_laid : (p : Point Float) (n : ℕ) (r : Row) → is_laid (put_at p n r) ≡ is_laid r
unfolding put_at is_laid
put_laid p n r = refl

put_place : (p : Point Float) (n : ℕ) (r : Row) → (put_at p n r).place.y ≡ p.y
unfolding put_at
put_place p n r = refl

place_is : (f : Frame) (c : Cursor) (i : BlockItem) (o : LayoutOutput) → (place_of f c i o).y ≡ place_y f c i o
unfolding place_of
place_is f c i o = refl

root_of_lem : (t : Tree Node) (q : LayoutInput) → root_t (lay_t t q zero_f).rows ≡ laid_row q (lay_t t q zero_f).out (root_t t).probe
unfolding root_t
root_of_lem (node n ks) q = root_row n ks q zero_f

-- what one child leaves the stack: the rows below, and the first baseline
pub record Kid (t : Tree Node) : Type 0 where
  pub small : Small (root_t t)
  pub says : (q : LayoutInput) → SaysT (map_t site_n t) (lay_t t q zero_f).rows

carried : (t : Tree Site) (u : Tree Row) → SaysT t u → lined (root_t u) ≡ true → CarriesT t u (line_in (root_t u))
unfolding root_t
carried (node s ks) (node r us) h e = h.0 e

kid_here : (t : Tree Node) → Kid t → (f : Frame) (c : Cursor) (q : LayoutInput) (i : BlockItem) (n : ℕ) (b : Float) → (lay_t t q zero_f).out.baseline ≡ Some b
    → OriginHere (root_t (on_root (put_at (place_of f c i (lay_t t q zero_f).out) n) (lay_t t q zero_f).rows)) (CarriesT (map_t site_n t) (on_root (put_at (place_of f c i (lay_t t q zero_f).out) n) (lay_t t q zero_f).rows) (line_in (root_t (on_root (put_at (place_of f c i (lay_t t q zero_f).out) n) (lay_t t q zero_f).rows)))) (place_y f c i (lay_t t q zero_f).out ⊕ b)
kid_here t k f c q i n b e =
    let o = (lay_t t q zero_f).out in
    let u = (lay_t t q zero_f).rows in
    let p = place_of f c i o in
    let r = root_of_lem t q in
    let top : root_t (on_root (put_at p n) u) ≡ put_at p n (laid_row q o (root_t t).probe) = root_on (put_at p n) u ∙ ap (put_at p n) r in
    let has : lined (root_t u) ≡ true = ap lined r ∙ lined_row q o (root_t t).probe k.small ∙ is_some_lem o.baseline b e in
    let line : line_in (root_t u) ≡ b = ap line_in r ∙ laid_line q o (root_t t).probe ∙ or_some o.baseline b e in
    let same : line_in (root_t (on_root (put_at p n) u)) ≡ line_in (root_t u) = ap line_in (root_on (put_at p n) u) ∙ (put_alike p n).line (root_t u) in
    record {
      laid = ap is_laid top ∙ put_laid p n (laid_row q o (root_t t).probe) ∙ laid_row_lem q o (root_t t).probe;
      has = ap lined (root_on (put_at p n) u) ∙ (put_alike p n).has (root_t u) ∙ has;
      below = rw same (carries_any (map_t site_n t) u (put_at p n) (line_in (root_t u)) (carried (map_t site_n t) u (k.says q) has));
      at = rw (same, line) (ap (λ (y : Float). y ⊕ b) (sym (ap (λ (v : Row). v.place.y) top ∙ put_place p n (laid_row q o (root_t t).probe) ∙ place_is f c i o)));
    }

kid_none : (t : Tree Node) → Kid t → (p : Point Float) (q : LayoutInput) (n : ℕ) → (lay_t t q zero_f).out.baseline ≡ None → lined (root_t (on_root (put_at p n) (lay_t t q zero_f).rows)) ≡ false
kid_none t k p q n e =
    ap lined (root_on (put_at p n) (lay_t t q zero_f).rows ∙ ap (put_at p n) (root_of_lem t q)) ∙ put_lined p n q (lay_t t q zero_f).out (root_t t).probe k.small ∙ not_some (lay_t t q zero_f).out.baseline e

-- a baseline that was found stays
skip_stays : (c : Cursor) (t : Tree Node) (g : Cursor → Stacked) (x : Float) → ((d : Cursor) → d.baseline ≡ Some x → (g d).last.baseline ≡ Some x) → c.baseline ≡ Some x → (skip c t g).last.baseline ≡ Some x
unfolding skip
skip_stays c t g x r e = r (past_hidden c) (hidden_line c ∙ e)

aside_stays : (f : Frame) (c : Cursor) (t : Tree Node) (g : Cursor → Stacked) (x : Float) → ((d : Cursor) → d.baseline ≡ Some x → (g d).last.baseline ≡ Some x) → c.baseline ≡ Some x → (aside f c t g).last.baseline ≡ Some x
unfolding aside
aside_stays f c t g x r e = r (past_aside c) (aside_line c ∙ e)

place_stays : (f : Frame) (c : Cursor) (s : Style) (a : Laid) (g : Cursor → Stacked) (x : Float) → ((d : Cursor) → d.baseline ≡ Some x → (g d).last.baseline ≡ Some x) → c.baseline ≡ Some x → (place f c s a g).last.baseline ≡ Some x
unfolding place
place_stays f c s a g x r e = r (stepped f c (item_of f s) a.out) (past_line f c (item_of f s) a.out ∙ past_some c.baseline _ x a.out.baseline e)

more_stays : (t : Tree Node) (ts : Forest Node) (f : Frame) (c : Cursor) (x : Float) → ((d : Cursor) → d.baseline ≡ Some x → (lay_f ts f d).last.baseline ≡ Some x) → c.baseline ≡ Some x → (lay_f (more t ts) f c).last.baseline ≡ Some x
more_stays t ts f c x r e = go (flow_of (style_t t)) refl
  where
    go : (w : Flow) → flow_of (style_t t) ≡ w → (lay_f (more t ts) f c).last.baseline ≡ Some x
    go Gone h = rw (lay_f_gone t ts f c h) (skip_stays c t (lay_f ts f) x r e)
    go Out h = rw (lay_f_out t ts f c h) (aside_stays f c t (lay_f ts f) x r e)
    go In h = rw (lay_f_in t ts f c h) (place_stays f c (style_t t) _ (lay_f ts f) x r e)

stays_f : (ts : Forest Node) (f : Frame) (c : Cursor) (x : Float) → c.baseline ≡ Some x → (lay_f ts f c).last.baseline ≡ Some x
stays_f none f c x e = rw (lay_f_none f c) e
stays_f (more t ts) f c x e = more_stays t ts f c x (λ d z. stays_f ts f d x z) e

-- one child and those after it
abbrev pub SaysIn : Forest Node → Frame → Type 0
SaysIn ts f = (c : Cursor) → SaysF (map_f site_n ts) (lay_f ts f c).rows

skip_says : (c : Cursor) (t : Tree Node) (ts : Forest Node) (g : Cursor → Stacked) → ((d : Cursor) → SaysF (map_f site_n ts) (g d).rows) → SaysF (more (map_t site_n t) (map_f site_n ts)) (skip c t g).rows
unfolding skip
skip_says c t ts g r = (bare_says (hidden_row c.count) (hidden_says c.count) t, r (past_hidden c))

aside_said : (f : Frame) (c : Cursor) (t : Tree Node) (ts : Forest Node) (g : Cursor → Stacked) → ((d : Cursor) → SaysF (map_f site_n ts) (g d).rows) → SaysF (more (map_t site_n t) (map_f site_n ts)) (aside f c t g).rows
unfolding aside
aside_said f c t ts g r = (bare_says _ (aside_says (edges_of f).start (line_of f c) (edges_of f).end c.shown.0) t, r (past_aside c))

place_says : (f : Frame) (c : Cursor) (s : Style) (t : Tree Node) (ts : Forest Node) (a : Laid) (g : Cursor → Stacked) → SaysT (map_t site_n t) a.rows → ((d : Cursor) → SaysF (map_f site_n ts) (g d).rows)
    → SaysF (more (map_t site_n t) (map_f site_n ts)) (place f c s a g).rows
unfolding place
place_says f c s t ts a g h r = (says_on _ (put_alike (place_of f c (item_of f s) a.out) c.shown.0) (map_t site_n t) a.rows h, r (stepped f c (item_of f s) a.out))

abbrev pub FirstOf : Forest Node → (Cursor → Stacked) → Type 0
FirstOf ts g = (d : Cursor) → d.baseline ≡ None → (x : Float) → (g d).last.baseline ≡ Some x → OriginF (map_f site_n ts) (g d).rows x

skip_first : (c : Cursor) (t : Tree Node) (ts : Forest Node) (g : Cursor → Stacked) → FirstOf ts g → c.baseline ≡ None → (x : Float) → (skip c t g).last.baseline ≡ Some x → OriginF (more (map_t site_n t) (map_f site_n ts)) (skip c t g).rows x
unfolding skip
skip_first c t ts g r z x e = inr (bare_root (hidden_row c.count) (hidden_says c.count) t, r (past_hidden c) (hidden_line c ∙ z) x e)

aside_first : (f : Frame) (c : Cursor) (t : Tree Node) (ts : Forest Node) (g : Cursor → Stacked) → FirstOf ts g → c.baseline ≡ None → (x : Float) → (aside f c t g).last.baseline ≡ Some x → OriginF (more (map_t site_n t) (map_f site_n ts)) (aside f c t g).rows x
unfolding aside
aside_first f c t ts g r z x e = inr (bare_root _ (aside_says (edges_of f).start (line_of f c) (edges_of f).end c.shown.0) t, r (past_aside c) (aside_line c ∙ z) x e)

place_first : (f : Frame) (c : Cursor) (s : Style) (t : Tree Node) (ts : Forest Node) (q : LayoutInput) → Kid t → FirstOf ts (lay_f ts f) → c.baseline ≡ None → (x : Float) → (place f c s (lay_t t q zero_f) (lay_f ts f)).last.baseline ≡ Some x
    → OriginF (more (map_t site_n t) (map_f site_n ts)) (place f c s (lay_t t q zero_f) (lay_f ts f)).rows x
unfolding place
place_first f c s t ts q k r z x e = go (lay_t t q zero_f).out.baseline refl
  where
    o : LayoutOutput
    o = (lay_t t q zero_f).out

    i : BlockItem
    i = item_of f s

    d : Cursor
    d = stepped f c i o

    go : (b : Option Float) → o.baseline ≡ b → OriginF (more (map_t site_n t) (map_f site_n ts)) (more (on_root (put_at (place_of f c i o) c.shown.0) (lay_t t q zero_f).rows) (lay_f ts f d).rows) x
    go None h = inr (kid_none t k (place_of f c i o) q c.shown.0 h, r d (past_line f c i o ∙ ap (baseline_past c.baseline (place_y f c i o)) h ∙ past_none c.baseline (place_y f c i o) z) x e)
    go (Some b) h =
        let at : d.baseline ≡ Some (place_y f c i o ⊕ b) = past_line f c i o ∙ ap (baseline_past c.baseline (place_y f c i o)) h ∙ past_first c.baseline (place_y f c i o) b z in
        let same : place_y f c i o ⊕ b ≡ x = some_some _ _ (sym (stays_f ts f d (place_y f c i o ⊕ b) at) ∙ e) in
        inl (rw same at (kid_here t k f c q i c.shown.0 b h))

pub more_says : (t : Tree Node) (ts : Forest Node) (f : Frame) (c : Cursor) → New (root_t t) → Kid t → SaysIn ts f → SaysF (more (map_t site_n t) (map_f site_n ts)) (lay_f (more t ts) f c).rows
more_says t ts f c n k r = go (flow_of (style_t t)) refl
  where
    go : (w : Flow) → flow_of (style_t t) ≡ w → SaysF (more (map_t site_n t) (map_f site_n ts)) (lay_f (more t ts) f c).rows
    go Gone h = rw (lay_f_gone t ts f c h) (skip_says c t ts (lay_f ts f) r)
    go Out h = rw (lay_f_out t ts f c h) (aside_said f c t ts (lay_f ts f) r)
    go In h =
        let q : LayoutInput = question_to f (style_t t) in
        rw (lay_f_in t ts f c h, asked_new t q n.unlaid) (place_says f c (style_t t) t ts (lay_t t q zero_f) (lay_f ts f) (k.says q) r)

pub more_first : (t : Tree Node) (ts : Forest Node) (f : Frame) (c : Cursor) → New (root_t t) → Kid t → FirstOf ts (lay_f ts f) → c.baseline ≡ None → (x : Float) → (lay_f (more t ts) f c).last.baseline ≡ Some x
    → OriginF (more (map_t site_n t) (map_f site_n ts)) (lay_f (more t ts) f c).rows x
more_first t ts f c n k r z x = go (flow_of (style_t t)) refl
  where
    go : (w : Flow) → flow_of (style_t t) ≡ w → (lay_f (more t ts) f c).last.baseline ≡ Some x → OriginF (more (map_t site_n t) (map_f site_n ts)) (lay_f (more t ts) f c).rows x
    go Gone h = rw (lay_f_gone t ts f c h) (skip_first c t ts (lay_f ts f) r z x)
    go Out h = rw (lay_f_out t ts f c h) (aside_first f c t ts (lay_f ts f) r z x)
    go In h =
        let q : LayoutInput = question_to f (style_t t) in
        rw (lay_f_in t ts f c h, asked_new t q n.unlaid) (place_first f c (style_t t) t ts q k r z x)

-- ---- all nodes
pub kid : (t : Tree Node) → New (root_t t) → ((q : LayoutInput) → SaysT (map_t site_n t) (lay_t t q zero_f).rows) → Kid t
kid t n h = record { small = n.small; says = h }

pub none_first : (f : Frame) (c : Cursor) → c.baseline ≡ None → (x : Float) → (lay_f none f c).last.baseline ≡ Some x → OriginF none (lay_f none f c).rows x
none_first f c z x = rw (lay_f_none f c) (λ e. no_some x (sym z ∙ e))

mutual
  unfolding map_t blank

  map_self : (t : Tree Site) → map_t (λ (s : Site). (blank s).site) t ≡ t
  map_self (node s ks) = ap (node s) (map_self_f ks)

  map_self_f : (ts : Forest Site) → map_f (λ (s : Site). (blank s).site) ts ≡ ts
  map_self_f none = refl
  map_self_f (more t ts) = rw (map_self t, map_self_f ts)

-- the sites of the nodes that the width pass gives the final pass
pub pass_sites : (t : Tree Site) (q : LayoutInput) → map_t site_n (width_pass (map_t blank t) q).nodes ≡ t
pass_sites t q = sym (map_map_t (λ (c : Cell). c.site) cell_in (width_pass (map_t blank t) q).nodes) ∙ ap (map_t (λ (c : Cell). c.site)) (pass_cells (map_t blank t) q) ∙ map_map_t (λ (c : Cell). c.site) blank t ∙ map_self t
