-- The nodes of a fresh page: none has a laid row, and each probe code fits.
use Rattle.std.specs.Prelude.{◌≡◌, Bool, true, false}
use Rattle.geometry.specs.Geometry.{zero_f}
use Rattle.tree.specs.Tree.{Tree, node, map_t, root_t}
use Rattle.steps.specs.Row.{is_laid}
use Rattle.steps.specs.Page.{Site, Cell, Node, blank}
use Rattle.steps.specs.Probe.{width_pass}
use Rattle.steps.specs.Layout.{lay_t, ask_t}
use Rattle.steps.specs.declared.LayoutInput.{LayoutInput}
use Rattle.steps.proofs.Clauses.{ask_t_new}
use Rattle.steps.proofs.Cells.{pass_cells, cell_in}
use Rattle.steps.proofs.Zeros.{no_row_lem, unlaid_kept}
use Rattle.laws.specs.Trees.{AllT, all-T, all-and-T, all-any-T, all-map-T, all-back-T}
use Rattle.laws.specs.Small.{Small, pass_small}

-- a node of a fresh page
pub record New (n : Node) : Type 0 where
  pub unlaid : is_laid n.old ≡ false
  pub small : Small n

pub asked_new : (t : Tree Node) (q : LayoutInput) → is_laid (root_t t).old ≡ false → ask_t t q ≡ lay_t t q zero_f
asked_new t q e = ask_t_new t q (unlaid_kept t q e)

pub new_root : (t : Tree Node) → AllT New t → New (root_t t)
unfolding AllT root_t
new_root (node l ks) h = h.0

-- the nodes that the width pass gives the final pass
pub new_nodes : (t : Tree Site) (q : LayoutInput) → AllT New (width_pass (map_t blank t) q).nodes
unfolding blank
new_nodes t q =
    let a : AllT Unlaid (map_t blank t) = all-back-T blank Unlaid t (all-any-T (λ (s : Site). Unlaid (blank s)) (λ s. no_row_lem) t) in
    let b : AllT Unlaid (map_t cell_in (width_pass (map_t blank t) q).nodes) = rw (pass_cells (map_t blank t) q) a in
    all-T (λ (n : Node). Unlaid (cell_in n) × Small n) New (λ n x. record { unlaid = x.0; small = x.1 }) _
    (all-and-T (λ (n : Node). Unlaid (cell_in n)) Small _ (all-map-T cell_in Unlaid _ b) (pass_small (map_t blank t) q))
  where
    Unlaid : Cell → Type 0
    Unlaid c = is_laid c.old ≡ false
