-- The rows of a fresh layout hold, node by node, the probe words that the width pass left.
use Rattle.std.specs.Prelude.{◌≡◌, refl, Bool, true, false, ℕ, ◌<◌, Float, Option, None, Some}
use Rattle.std.proofs.Common.{sym, ap, ◌∙◌, arith}
use Rattle.geometry.specs.Geometry.{zero_f}
use Rattle.geometry.specs.declared.Point.{Point}
use Rattle.length.specs.declared.AvailableSpace.{AvailableSpace}
use Rattle.style.specs.declared.Style.{Style}
use Rattle.tree.specs.Tree.{Tree, Forest, node, none, more, map_t, map_f, root_t, on_root}
use Rattle.tree.proofs.Laws.{map_t_node, map_f_none, map_f_more, root_t_map, map_map_f}
use Rattle.style.specs.Flow.{is_leaf, flow_of, is_in}
use Rattle.steps.specs.Width.{want_of, want_in}
use Rattle.steps.specs.Stack.{question_to, line_of, edges_of, past_aside, past_hidden}
use Rattle.steps.specs.Row.{Row, ProbeWords, bare, no_row, no_probe, hidden_row, aside_row, laid_row, put_at, lowered, probe_of}
use Rattle.steps.specs.Page.{Cell, Node, cleared, probed_anew}
use Rattle.steps.specs.Probe.{Widest, probe_t, probe_f, asked, block_probe, probe_known, widen, pass_by, width_pass}
use Rattle.steps.specs.Kept.{zeros_t, zeros_f}
use Rattle.steps.specs.Layout.{lay_t, lay_f, skip, aside, place, lower_f, align_f}
use Rattle.style.specs.declared.Flow.{Flow}
use Rattle.style.specs.declared.Flow.TheVariants.{Gone, Out, In}
use Rattle.steps.specs.declared.Want.{Want}
use Rattle.steps.specs.declared.Want.TheVariants.{Nothing, Outer}
use Rattle.steps.specs.declared.Want.TheVariants as want
use Rattle.steps.specs.declared.ProbeInput.{ProbeInput}
use Rattle.steps.specs.declared.LayoutInput.{LayoutInput}
use Rattle.steps.specs.declared.Frame.{Frame}
use Rattle.steps.specs.declared.Cursor.{Cursor}
use Rattle.steps.proofs.Clauses.{style_t, style_c, lay_f_none, lay_f_gone, lay_f_out, lay_f_in, probe_t_leaf, probe_t_block, probe_f_none, probe_f_at, leaf_rows, block_rows}
use Rattle.steps.proofs.Zeros.{zeros_t_lem, zeros_f_lem}
use Rattle.steps.proofs.Cells.{cells_t, cell_in}
use Rattle.laws.specs.Trees.{AllT, AllF, all-any-T, all-any-F, all-back-T, all-back-F, false_true}
use Rattle.laws.specs.Final.{bare_n, ask_bare, style_bare}
use Rattle.laws.specs.Widths.{bare_c, probe_in, bare_reply}
use Rattle.laws.specs.Bits.{words_row, note_small}

-- a node without probe words
abbrev Mute : Node → Type 0
Mute n = n.probe ≡ no_probe

-- nodes as a fresh width pass leaves them: codes are small, and only nodes that will be laid have words
unfoldable mutual
  pub WellT : Tree Node → Type 0
  WellT (node n ks) = (n.probe.code < 16) × (is_leaf n.site.style.kind ≡ true → AllF Mute ks) × WellF ks

  pub WellF : Forest Node → Type 0
  WellF none = Unit {0}
  WellF (more t ts) = (is_in (flow_of (style_t t)) ≡ false → AllT Mute t) × WellT t × WellF ts

-- probe words are no part of a place
put_words : (p : Point Float) (n : ℕ) (u : Tree Row) → map_t probe_of (on_root (put_at p n) u) ≡ map_t probe_of u
unfolding on_root map_t put_at probe_of
put_words p n (node r ks) = refl

low_words : (d : Float) (ts : Forest Row) → map_f probe_of (lower_f d ts) ≡ map_f probe_of ts
unfolding lower_f on_root map_t probe_of lowered
low_words d none = refl
low_words d (more (node r ks) ts) = ap (more (map_t probe_of (node r ks))) (low_words d ts)

align_words : (d : Option Float) (ts : Forest Row) → map_f probe_of (align_f d ts) ≡ map_f probe_of ts
unfolding align_f
align_words None ts = refl
align_words (Some d) ts = low_words d ts

pub zero_words : probe_of no_row ≡ no_probe
unfolding probe_of no_row bare no_probe
zero_words = refl

hidden_words : (n : ℕ) → probe_of (hidden_row n) ≡ no_probe
unfolding probe_of hidden_row bare no_probe
hidden_words n = refl

aside_words : (a b c : Float) (n : ℕ) → probe_of (aside_row a b c n) ≡ no_probe
unfolding probe_of aside_row bare no_probe
aside_words a b c n = refl

-- where all is mute the rows are so too
mutual
  unfolding AllT map_t

  mute_t : (t : Tree Node) → AllT Mute t → map_t probe_in t ≡ map_t (λ (_ : Node). no_probe) t
  mute_t (node n ks) h = ap (λ (p : ProbeWords). node p (map_f probe_in ks)) h.0 ∙ ap (node no_probe) (mute_f ks h.1)

  mute_f : (ts : Forest Node) → AllF Mute ts → map_f probe_in ts ≡ map_f (λ (_ : Node). no_probe) ts
  mute_f none h = refl
  mute_f (more t ts) h = rw (mute_t t h.0, mute_f ts h.1)

zeros_words_f : (ts : Forest Node) → map_f probe_of (zeros_f ts) ≡ map_f (λ (_ : Node). no_probe) ts
unfolding zeros_f
zeros_words_f ts = map_map_f probe_of (λ (_ : Node). no_row) ts ∙ ap (λ (p : ProbeWords). map_f (λ (_ : Node). p) ts) zero_words

zeros_words : (r : Row) → probe_of r ≡ no_probe → (t : Tree Node) → map_t probe_of (on_root (λ _. r) (zeros_t t)) ≡ map_t (λ (_ : Node). no_probe) t
unfolding on_root zeros_t map_t
zeros_words r e (node n ks) = rw e (ap (node no_probe) (map_map_f probe_of (λ (_ : Node). no_row) ks ∙ ap (λ (p : ProbeWords). map_f (λ (_ : Node). p) ks) zero_words))

well_parts : (n : Node) (ks : Forest Node) → WellT (node n ks) → (n.probe.code < 16) × (is_leaf n.site.style.kind ≡ true → AllF Mute ks) × WellF ks
unfolding WellT
well_parts n ks h = h

ride_node : (n : Node) (ks : Forest Node) → WellT (node n ks) → (q : LayoutInput) (found : Float) → ((f : Frame) (c : Cursor) → map_f probe_of (lay_f (map_f bare_n ks) f c).rows ≡ map_f probe_in ks)
    → map_t probe_of (lay_t (map_t bare_n (node n ks)) q found).rows ≡ map_t probe_in (node n ks)
ride_node n ks v q found h = ap (λ (t : Tree Node). map_t probe_of (lay_t t q found).rows) (map_t_node bare_n n ks) ∙ go (is_leaf n.site.style.kind) refl ∙ sym (map_t_node probe_in n ks)
  where
    w : (n.probe.code < 16) × (is_leaf n.site.style.kind ≡ true → AllF Mute ks) × WellF ks
    w = well_parts n ks v

    top : (us : Forest Row) → map_t probe_of (node (laid_row q (lay_t (node (bare_n n) (map_f bare_n ks)) q found).out n.probe) us) ≡ node n.probe (map_f probe_of us)
    top us = map_t_node probe_of _ us ∙ ap (λ (p : ProbeWords). node p (map_f probe_of us)) (words_row q _ n.probe w.0)

    go : (b : Bool) → is_leaf n.site.style.kind ≡ b → map_t probe_of (lay_t (node (bare_n n) (map_f bare_n ks)) q found).rows ≡ node n.probe (map_f probe_in ks)
    go true e =
        ap (map_t probe_of) (leaf_rows (bare_n n) (map_f bare_n ks) q found e) ∙ top _
        ∙ ap (node n.probe) (ap (map_f probe_of) (zeros_f_lem bare_n ks) ∙ zeros_words_f ks ∙ sym (mute_f ks (w.1 e)))
    go false e = ap (map_t probe_of) (block_rows (bare_n n) (map_f bare_n ks) q found e) ∙ top _ ∙ ap (node n.probe) (align_words _ _ ∙ h _ _)

ride_more : (t : Tree Node) (ts : Forest Node) (f : Frame) (c : Cursor) → (is_in (flow_of (style_t t)) ≡ false → AllT Mute t)
    → ((q : LayoutInput) → map_t probe_of (lay_t (map_t bare_n t) q zero_f).rows ≡ map_t probe_in t) → ((d : Cursor) → map_f probe_of (lay_f (map_f bare_n ts) f d).rows ≡ map_f probe_in ts)
    → map_f probe_of (lay_f (map_f bare_n (more t ts)) f c).rows ≡ map_f probe_in (more t ts)
unfolding skip aside place is_in
ride_more t ts f c m h r = rw (map_f_more bare_n t ts, map_f_more probe_in t ts) (go (flow_of (style_t t)) refl)
  where
    same : {w : Flow} → flow_of (style_t t) ≡ w → flow_of (style_t (map_t bare_n t)) ≡ w
    same e = ap flow_of (style_bare t) ∙ e

    go : (w : Flow) → flow_of (style_t t) ≡ w → map_f probe_of (lay_f (more (map_t bare_n t) (map_f bare_n ts)) f c).rows ≡ more (map_t probe_in t) (map_f probe_in ts)
    go Gone e =
        let z : map_t probe_in t ≡ map_t (λ (_ : Node). no_probe) t = mute_t t (m (ap is_in e)) in
        rw (lay_f_gone (map_t bare_n t) (map_f bare_n ts) f c (same e), map_f_more, zeros_t_lem bare_n t, zeros_words _ (hidden_words c.count) t, r (past_hidden c), z)
    go Out e =
        let z : map_t probe_in t ≡ map_t (λ (_ : Node). no_probe) t = mute_t t (m (ap is_in e)) in
        rw (lay_f_out (map_t bare_n t) (map_f bare_n ts) f c (same e), map_f_more, zeros_t_lem bare_n t, zeros_words _ (aside_words (edges_of f).start (line_of f c) (edges_of f).end c.shown.0) t, r (past_aside c), z)
    go In e =
        rw (lay_f_in (map_t bare_n t) (map_f bare_n ts) f c (same e), map_f_more, ask_bare t (question_to f (style_t (map_t bare_n t))), put_words, h (question_to f (style_t (map_t bare_n t))), r _)

mutual
  unfolding WellT

  pub ride_t : (t : Tree Node) → WellT t → (q : LayoutInput) (found : Float) → map_t probe_of (lay_t (map_t bare_n t) q found).rows ≡ map_t probe_in t
  ride_t (node n ks) v q found = ride_node n ks v q found (λ f c. ride_f ks v.2 f c)

  pub ride_f : (ts : Forest Node) → WellF ts → (f : Frame) (c : Cursor) → map_f probe_of (lay_f (map_f bare_n ts) f c).rows ≡ map_f probe_in ts
  ride_f none v f c = rw (map_f_none bare_n, lay_f_none f c, map_f_none probe_in) (map_f_none probe_of)
  ride_f (more t ts) v f c = ride_more t ts f c v.0 (λ q. ride_t t v.1 q zero_f) (λ d. ride_f ts v.2 f d)

-- nodes that are cleared
pub mute_cleared_t : (t : Tree Cell) → AllT Mute (map_t cleared t)
unfolding cleared
mute_cleared_t t = all-back-T cleared Mute t (all-any-T (λ (c : Cell). Mute (cleared c)) (λ _. refl) t)

pub mute_cleared_f : (ts : Forest Cell) → AllF Mute (map_f cleared ts)
unfolding cleared
mute_cleared_f ts = all-back-F cleared Mute ts (all-any-F (λ (c : Cell). Mute (cleared c)) (λ _. refl) ts)

no_code : no_probe.code < 16
unfolding no_probe
no_code = omega arith

mutual
  unfolding WellT map_t cleared

  well_cleared_t : (t : Tree Cell) → WellT (map_t cleared t)
  well_cleared_t (node l ks) = (no_code, (λ _. mute_cleared_f ks), well_cleared_f ks)

  well_cleared_f : (ts : Forest Cell) → WellF (map_f cleared ts)
  well_cleared_f none = tt
  well_cleared_f (more t ts) = ((λ _. mute_cleared_t t), well_cleared_t t, well_cleared_f ts)

-- nodes of which nothing was answered from its row
asked_well : (l : Cell) (q : ProbeInput) (a : Float) (us : Forest Node) → (is_leaf l.site.style.kind ≡ true → AllF Mute us) → WellF us → WellT (asked l q a us).nodes
unfolding WellT asked probed_anew
asked_well l q a us m h = (note_small q a, m, h)

box_well : (l : Cell) (q : ProbeInput) (ks : Forest Cell) (w : Option Float) (r : Widest) → is_leaf l.site.style.kind ≡ false → WellF r.nodes → WellT (block_probe l q ks w r).nodes
unfolding block_probe
box_well l q ks None r b h = asked_well l q _ _ (λ e. false_true _ b e) h
box_well l q ks (Some w) r b h = asked_well l q w _ (λ e. mute_cleared_f ks) (well_cleared_f ks)

node_well : (l : Cell) (ks : Forest Cell) (q : ProbeInput) → ((a : AvailableSpace) (m : Float) → WellF (probe_f ks a m).nodes) → WellT (probe_t (node l ks) q).nodes
node_well l ks q h = go (is_leaf l.site.style.kind) refl
  where
    go : (b : Bool) → is_leaf l.site.style.kind ≡ b → WellT (probe_t (node l ks) q).nodes
    go true e = rw (probe_t_leaf l ks q e) (asked_well l q _ _ (λ _. mute_cleared_f ks) (well_cleared_f ks))
    go false e = rw (probe_t_block l ks q e) (box_well l q ks (probe_known l.site.style q).width _ e (h _ zero_f))

-- only a child in flow is probed
no_want : {A : Type 0} (q : ProbeInput) → Nothing ≡ want.Probe q → A
no_want q e =
    let z : ◌≡◌ {A = ℕ} 0 1 = cc in
    absurd (omega arith)

is_in_lem : is_in In ≡ true
unfolding is_in
is_in_lem = refl

none_well : WellF none
unfolding WellF
none_well = tt

pub probed_in : (s : Style) (a : AvailableSpace) (q : ProbeInput) → want_of s a ≡ want.Probe q → is_in (flow_of s) ≡ true
unfolding want_of want_in
probed_in s a q e = go (flow_of s) e
  where
    go : (f : Flow) → want_in f s a ≡ want.Probe q → is_in f ≡ true
    go Gone e = no_want q e
    go Out e = no_want q e
    go In e = is_in_lem

widen_well : (m : Float) (t : Tree Node) (g : Float → Widest) → (is_in (flow_of (style_t t)) ≡ false → AllT Mute t) → WellT t → ((k : Float) → WellF (g k).nodes) → WellF (widen m t g).nodes
unfolding WellF widen
widen_well m t g z h r = (z, h, r m)

pub style_probed : (t : Tree Cell) (q : ProbeInput) → style_t (probe_t t q).nodes ≡ style_c t
style_probed t q = ap (λ (c : Cell). c.site.style) (sym (root_t_map cell_in (probe_t t q).nodes) ∙ ap root_t (cells_t t q))

more_well : (t : Tree Cell) (ts : Forest Cell) (a : AvailableSpace) (m : Float) → ((q : ProbeInput) → WellT (probe_t (map_t bare_c t) q).nodes) → ((k : Float) → WellF (probe_f (map_f bare_c ts) a k).nodes)
    → WellF (probe_f (map_f bare_c (more t ts)) a m).nodes
more_well t ts a m h r = rw (map_f_more bare_c t ts) (go (want_of (style_c (map_t bare_c t)) a) refl)
  where
    go : (w : Want) → want_of (style_c (map_t bare_c t)) a ≡ w → WellF (probe_f (more (map_t bare_c t) (map_f bare_c ts)) a m).nodes
    go Nothing e = rw (probe_f_at (map_t bare_c t) (map_f bare_c ts) a m Nothing e) (widen_well _ _ _ (λ _. mute_cleared_t (map_t bare_c t)) (well_cleared_t (map_t bare_c t)) r)
    go (Outer v) e = rw (probe_f_at (map_t bare_c t) (map_f bare_c ts) a m (Outer v) e) (widen_well _ _ _ (λ _. mute_cleared_t (map_t bare_c t)) (well_cleared_t (map_t bare_c t)) r)
    go (want.Probe q) e =
        let i : is_in (flow_of (style_t (probe_t (map_t bare_c t) q).nodes)) ≡ true = rw (style_probed (map_t bare_c t) q) (probed_in _ a q e) in
        rw (probe_f_at (map_t bare_c t) (map_f bare_c ts) a m (want.Probe q) e, bare_reply t q) (widen_well _ _ _ (λ z. false_true _ z i) (h q) r)

mutual
  well_t : (t : Tree Cell) (q : ProbeInput) → WellT (probe_t (map_t bare_c t) q).nodes
  well_t (node l ks) q = rw (map_t_node bare_c l ks) (node_well (bare_c l) (map_f bare_c ks) q (λ a m. well_f ks a m))

  well_f : (ts : Forest Cell) (a : AvailableSpace) (m : Float) → WellF (probe_f (map_f bare_c ts) a m).nodes
  well_f none a m = rw (map_f_none bare_c, probe_f_none a m) none_well
  well_f (more t ts) a m = more_well t ts a m (λ q. well_t t q) (λ k. well_f ts a k)

-- the page: a root that is no leaf
page_well : (l : Cell) (ks : Forest Cell) (w parent : Option Float) (r : Widest) → is_leaf l.site.style.kind ≡ false → WellF r.nodes → WellT (pass_by l ks w parent r).nodes
unfolding WellT pass_by cleared
page_well l ks None parent r b h = (no_code, (λ e. false_true _ b e), h)
page_well l ks (Some w) parent r b h = (no_code, (λ e. false_true _ b e), well_cleared_f ks)

pub pass_well : (l : Cell) (ks : Forest Cell) (q : LayoutInput) → is_leaf l.site.style.kind ≡ false → WellT (width_pass (map_t bare_c (node l ks)) q).nodes
unfolding width_pass
pass_well l ks q b = rw (map_t_node bare_c l ks) (page_well (bare_c l) (map_f bare_c ks) _ q.parent _ b (well_f ks _ zero_f))
