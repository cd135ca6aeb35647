-- A page whose every node is steady: the rows of a fresh layout are in order, at any question.
use Rattle.std.specs.Prelude.{◌≡◌, refl, false}
use Rattle.std.proofs.Common.{sym, subst}
use Rattle.tree.specs.Tree.{Tree, map_t}
use Rattle.steps.specs.Row.{is_laid}
use Rattle.steps.specs.Page.{Site, Cell, Node, blank}
use Rattle.steps.specs.Probe.{width_pass}
use Rattle.steps.specs.Layout.{lay_t, fresh, relaid}
use Rattle.steps.specs.declared.LayoutInput.{LayoutInput}
use Rattle.steps.proofs.Cells.{pass_cells, cell_in}
use Rattle.steps.proofs.Zeros.{no_row_lem}
use Rattle.laws.specs.Trees.{AllT, all-T, all-map-T, all-back-T}
use Rattle.order.specs.Steady.{Steady}
use Rattle.order.specs.Stacks.{NodeOk}

abbrev pub nodes_of : Tree Site → LayoutInput → Tree Node
nodes_of t q = (width_pass (map_t blank t) q).nodes

pub fresh_is : (t : Tree Site) (q : LayoutInput) → fresh t q ≡ lay_t (nodes_of t q) q (width_pass (map_t blank t) q).found
unfolding fresh relaid
fresh_is t q = refl

abbrev pub SteadySite : Site → Type 0
SteadySite s = Steady s.style

abbrev CellOk : Cell → Type 0
CellOk c = (is_laid c.old ≡ false) × Steady c.site.style

cell_ok : (s : Site) → SteadySite s → CellOk (blank s)
unfolding blank
cell_ok s e = (no_row_lem, e)

pub nodes_ok : (t : Tree Site) (q : LayoutInput) → AllT SteadySite t → AllT NodeOk (nodes_of t q)
nodes_ok t q h =
    all-map-T cell_in CellOk (nodes_of t q)
    (subst (AllT CellOk) (sym (pass_cells (map_t blank t) q)) (all-back-T blank CellOk t (all-T SteadySite (λ (s : Site). CellOk (blank s)) cell_ok t h)))
