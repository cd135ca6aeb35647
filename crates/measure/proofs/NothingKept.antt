-- Where every old row is zero nothing is kept, and the final pass answers what the sites alone give.
use mathlib.Core.Path.{◌≡◌, refl, sym, ap, ◌∙◌}
use mathlib.Core.Bool.{Bool, true, false}
use lib.Ieee.{Float}
use Rattle.geometry.specs.Geometry.{zero_f}
use Rattle.tree.specs.Tree.{Tree, Forest, node, none, more, map_t, map_f, root_t}
use Rattle.tree.proofs.Laws.{map_t_node, map_f_none, map_f_more, root_t_node, root_t_map}
use Rattle.style.specs.Flow.{is_leaf, flow_of}
use Rattle.steps.specs.Edges.{frame_of}
use Rattle.steps.specs.Stack.{start_of, item_of, question_to, stepped}
use Rattle.steps.specs.Through.{finished}
use Rattle.steps.specs.Row.{no_row, bare, is_laid}
use Rattle.steps.specs.Page.{Site, Node, blank, cleared}
use Rattle.steps.specs.Kept.{Laid, kept}
use Rattle.steps.specs.Layout.{Stacked, leaf_laid, block_laid, lay_t, lay_f}
use Rattle.style.specs.declared.Flow.{Flow}
use Rattle.style.specs.declared.Flow.TheVariants.{Gone, Out, In}
use Rattle.steps.specs.declared.LayoutInput.{LayoutInput}
use Rattle.steps.specs.declared.Frame.{Frame}
use Rattle.steps.specs.declared.Cursor.{Cursor}
use Rattle.steps.proofs.Clauses.{lay_t_leaf, lay_t_block, lay_f_none, ask_t_new}
use Rattle.steps.proofs.Zeros.{no_row_lem, unlaid_kept}
use Rattle.compute.proofs.Placed.{placed_in, placed_by, placed_t}
use Rattle.compute.proofs.OneChild.{lay_f_more}
use Rattle.measure.specs.Dry.{size_t, size_f, past_by, past_t}
use Rattle.measure.proofs.DryClauses.{size_t_leaf, size_t_block, size_f_none, size_f_more}

abbrev pub site_in : Node → Site
site_in n = n.site

-- every old row is zero
unfoldable mutual
  pub BareT : Tree Node → Type 0
  BareT (node l ks) = (l.old ≡ no_row) × BareF ks

  pub BareF : Forest Node → Type 0
  BareF none = Unit {0}
  BareF (more t ts) = BareT t × BareF ts

-- nodes of these sites, with rows of zeros
pub record NodesT (t : Tree Site) (n : Tree Node) : Type 0 where
  pub sites : map_t site_in n ≡ t
  pub bare : BareT n

pub record NodesF (ts : Forest Site) (ns : Forest Node) : Type 0 where
  pub sites : map_f site_in ns ≡ ts
  pub bare : BareF ns

pub nodes_node : (l : Node) (s : Site) (ks : Forest Site) (ls : Forest Node) → l.site ≡ s → l.old ≡ no_row → NodesF ks ls → NodesT (node s ks) (node l ls)
unfolding BareT
nodes_node l s ks ls e o h = record { sites = map_t_node site_in l ls ∙ ap (λ (z : Site). node z (map_f site_in ls)) e ∙ ap (node s) h.sites; bare = (o, h.bare) }

pub nodes_none : NodesF none none
unfolding BareF
nodes_none = record { sites = map_f_none site_in; bare = tt }

pub nodes_more : (t : Tree Site) (ts : Forest Site) (n : Tree Node) (ns : Forest Node) → NodesT t n → NodesF ts ns → NodesF (more t ts) (more n ns)
unfolding BareF
nodes_more t ts n ns h k = record { sites = map_f_more site_in n ns ∙ ap (λ (z : Tree Site). more z (map_f site_in ns)) h.sites ∙ ap (more t) k.sites; bare = (h.bare, k.bare) }

clear_node : (s : Site) (ks : Forest Site) → NodesF ks (map_f cleared (map_f blank ks)) → NodesT (node s ks) (map_t cleared (map_t blank (node s ks)))
unfolding cleared blank
clear_node s ks h = rw (map_t_node, map_t_node) (nodes_node _ s ks _ refl refl h)

mutual
  pub nodes_clear : (t : Tree Site) → NodesT t (map_t cleared (map_t blank t))
  nodes_clear (node s ks) = clear_node s ks (nodes_clears ks)

  pub nodes_clears : (ts : Forest Site) → NodesF ts (map_f cleared (map_f blank ts))
  nodes_clears none = rw (map_f_none blank, map_f_none cleared) nodes_none
  nodes_clears (more t ts) = rw (map_f_more blank, map_f_more cleared) (nodes_more t ts _ _ (nodes_clear t) (nodes_clears ts))

-- ---- nothing is kept
root_bare : (t : Tree Node) → BareT t → (root_t t).old ≡ no_row
unfolding BareT
root_bare (node l ks) h = ap (λ (z : Node). z.old) (root_t_node l ks) ∙ h.0

pub none_kept : (t : Tree Node) (q : LayoutInput) → BareT t → kept t q ≡ false
none_kept t q h = unlaid_kept t q (ap is_laid (root_bare t h) ∙ no_row_lem)

-- ---- the final pass
lay_node : (l : Node) (ks : Forest Node) (q : LayoutInput) (w : Float) (v : Bool) → is_leaf l.site.style.kind ≡ v → ((f : Frame) (c : Cursor) → size_f (map_f site_in ks) f c ≡ (lay_f ks f c).last)
    → size_t (map_t site_in (node l ks)) q w ≡ (lay_t (node l ks) q w).out
unfolding leaf_laid block_laid
lay_node l ks q w true e h = ap (λ (t : Tree Site). size_t t q w) (map_t_node site_in l ks) ∙ size_t_leaf l.site (map_f site_in ks) q w e ∙ sym (ap (λ (z : Laid). z.out) (lay_t_leaf l ks q w e))
lay_node l ks q w false e h =
    ap (λ (t : Tree Site). size_t t q w) (map_t_node site_in l ks) ∙ size_t_block l.site (map_f site_in ks) q w e
    ∙ ap (λ (c : Cursor). (finished l.site.style q (frame_of l.site.style q w) c).output) (h (frame_of l.site.style q w) (start_of (frame_of l.site.style q w)))
    ∙ sym (ap (λ (z : Laid). z.out) (lay_t_block l ks q w e))

root_site : (t : Tree Node) → root_t (map_t site_in t) ≡ (root_t t).site
root_site t = root_t_map site_in t

past_by_lem : (w : Flow) (f : Frame) (c : Cursor) (t : Tree Node) → BareT t → ((q : LayoutInput) (m : Float) → size_t (map_t site_in t) q m ≡ (lay_t t q m).out) → past_by w f c (map_t site_in t) ≡ (placed_by w f c t).last
unfolding past_by placed_by placed_in
past_by_lem Gone f c t b h = refl
past_by_lem Out f c t b h = refl
past_by_lem In f c t b h =
    let q = question_to f (root_t t).site.style in
    ap (λ (z : Site). stepped f c (item_of f z.style) (size_t (map_t site_in t) (question_to f z.style) zero_f)) (root_site t)
    ∙ ap (stepped f c (item_of f (root_t t).site.style)) (h q zero_f ∙ sym (ap (λ (z : Laid). z.out) (ask_t_new t q (none_kept t q b))))

past_of : (f : Frame) (c : Cursor) (t : Tree Node) → BareT t → ((q : LayoutInput) (m : Float) → size_t (map_t site_in t) q m ≡ (lay_t t q m).out) → past_t f c (map_t site_in t) ≡ (placed_t f c t).last
unfolding past_t placed_t
past_of f c t b h = ap (λ (z : Site). past_by (flow_of z.style) f c (map_t site_in t)) (root_site t) ∙ past_by_lem (flow_of (root_t t).site.style) f c t b h

lay_more : (t : Tree Node) (ts : Forest Node) (f : Frame) (c : Cursor) → past_t f c (map_t site_in t) ≡ (placed_t f c t).last → ((d : Cursor) → size_f (map_f site_in ts) f d ≡ (lay_f ts f d).last)
    → size_f (map_f site_in (more t ts)) f c ≡ (lay_f (more t ts) f c).last
lay_more t ts f c e h =
    ap (λ (us : Forest Site). size_f us f c) (map_f_more site_in t ts) ∙ size_f_more (map_t site_in t) (map_f site_in ts) f c ∙ ap (size_f (map_f site_in ts) f) e ∙ h (placed_t f c t).last
    ∙ sym (ap (λ (z : Stacked). z.last) (lay_f_more t ts f c))

mutual
  unfolding BareT

  pub lay_dry : (t : Tree Node) → BareT t → (q : LayoutInput) (w : Float) → size_t (map_t site_in t) q w ≡ (lay_t t q w).out
  lay_dry (node l ks) h q w = lay_node l ks q w (is_leaf l.site.style.kind) refl (λ f c. stack_dry ks h.1 f c)

  pub stack_dry : (ts : Forest Node) → BareF ts → (f : Frame) (c : Cursor) → size_f (map_f site_in ts) f c ≡ (lay_f ts f c).last
  stack_dry none h f c = ap (λ (us : Forest Site). size_f us f c) (map_f_none site_in) ∙ size_f_none f c ∙ sym (ap (λ (z : Stacked). z.last) (lay_f_none f c))
  stack_dry (more t ts) h f c = lay_more t ts f c (past_of f c t h.0 (λ q m. lay_dry t h.0 q m)) (λ d. stack_dry ts h.1 f d)

-- at any tree of sites
pub nodes_size : (t : Tree Site) (n : Tree Node) → NodesT t n → (q : LayoutInput) (w : Float) → size_t t q w ≡ (lay_t n q w).out
nodes_size t n h q w = ap (λ (z : Tree Site). size_t z q w) (sym h.sites) ∙ lay_dry n h.bare q w

pub nodes_stack : (ts : Forest Site) (ns : Forest Node) → NodesF ts ns → (f : Frame) (c : Cursor) → size_f ts f c ≡ (lay_f ns f c).last
nodes_stack ts ns h f c = ap (λ (z : Forest Site). size_f z f c) (sym h.sites) ∙ stack_dry ns h.bare f c
