-- The theorem of a fresh layout.
use Rattle.std.specs.Prelude.{◌≡◌, refl, false, Float, None}
use Rattle.std.proofs.Common.{sym, subst}
use Rattle.tree.specs.Tree.{Tree, Forest, node, none, more, map_t}
use Rattle.steps.specs.Row.{is_laid}
use Rattle.steps.specs.Page.{Site, Cell, Node, blank}
use Rattle.steps.specs.Probe.{width_pass}
use Rattle.steps.specs.Layout.{lay_t, fresh, relaid}
use Rattle.steps.specs.declared.LayoutInput.{LayoutInput}
use Rattle.steps.proofs.Cells.{pass_cells, cell_in}
use Rattle.steps.proofs.Zeros.{no_row_lem}
use Rattle.laws.specs.Trees.{AllT, AllF, all-any-T, all-map-T, all-back-T}
use Rattle.classes.specs.Margins.{Box}
use Rattle.classes.specs.Real.{UnlaidT, UnlaidF}
use Rattle.classes.specs.Page.{NoRatioT, LowT, boxes_of}

-- the page after the width pass
abbrev pub nodes_of : Tree Site → LayoutInput → Tree Node
nodes_of t q = (width_pass (map_t blank t) q).nodes

abbrev pub found_of : Tree Site → LayoutInput → Float
found_of t q = (width_pass (map_t blank t) q).found

-- the boxes of the fresh layout
abbrev pub fresh_boxes : Tree Site → LayoutInput → Tree Box
fresh_boxes t q = boxes_of (nodes_of t q) q (found_of t q)

-- it is that layout
pub fresh_is : (t : Tree Site) (q : LayoutInput) → fresh t q ≡ lay_t (nodes_of t q) q (found_of t q)
unfolding fresh relaid
fresh_is t q = refl

abbrev pub NoRatio : Site → Type 0
NoRatio s = s.style.ratio ≡ None

-- what holds of every site holds after the width pass; and no row is laid
pub all_sites : (P : Site → Type 0) (t : Tree Site) (q : LayoutInput) → AllT P t → AllT (λ (n : Node). P n.site) (nodes_of t q)
unfolding blank
all_sites P t q h =
    let a : AllT (λ (c : Cell). P c.site) (map_t blank t) = all-back-T blank (λ (c : Cell). P c.site) t h in
    all-map-T cell_in (λ (c : Cell). P c.site) (nodes_of t q) (subst (AllT (λ (c : Cell). P c.site)) (sym (pass_cells (map_t blank t) q)) a)

abbrev Unlaid : Cell → Type 0
Unlaid c = is_laid c.old ≡ false

unlaid_nodes : (t : Tree Site) (q : LayoutInput) → AllT (λ (n : Node). Unlaid (cell_in n)) (nodes_of t q)
unfolding blank
unlaid_nodes t q =
    let a : AllT Unlaid (map_t blank t) = all-back-T blank Unlaid t (all-any-T (λ (s : Site). Unlaid (blank s)) (λ s. no_row_lem) t) in
    all-map-T cell_in Unlaid (nodes_of t q) (subst (AllT Unlaid) (sym (pass_cells (map_t blank t) q)) a)

mutual
  unfolding AllT

  unlaid_t : (t : Tree Node) → AllT (λ (n : Node). Unlaid (cell_in n)) t → UnlaidT t
  unlaid_t (node l ks) h = (h.0, unlaid_f ks h.1)

  unlaid_f : (ts : Forest Node) → AllF (λ (n : Node). Unlaid (cell_in n)) ts → UnlaidF ts
  unlaid_f none h = tt
  unlaid_f (more t ts) h = (unlaid_t t h.0, unlaid_f ts h.1)

pub low : (t : Tree Node) → NoRatioT t → LowT t
low (node l ks) h = h.1

pub fresh_unlaid : (t : Tree Site) (q : LayoutInput) → UnlaidT (nodes_of t q)
fresh_unlaid t q = unlaid_t (nodes_of t q) (unlaid_nodes t q)
