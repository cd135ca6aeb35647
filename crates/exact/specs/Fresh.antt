-- The theorem on trees: a layout of a page of the profile is that over whole numbers, row by row. Assumes nothing.
use Rattle.std.specs.Prelude.{◌≡◌, refl, ℕ}
use Rattle.std.proofs.Common.{sym, ap, ◌∙◌}
use Rattle.tree.specs.Tree.{Tree, Forest, node, map_t, map_f, count_t, depth_t}
use Rattle.tree.proofs.Laws.{map_map_t, count_map_t, depth_map_t}
use Rattle.steps.specs.Row.{Row, no_row}
use Rattle.steps.specs.Page.{Site, Node, blank, cleared}
use Rattle.steps.specs.Probe.{Passed, width_pass}
use Rattle.steps.specs.Candidates.{candidates}
use Rattle.steps.specs.declared.LayoutInput.{LayoutInput}
use Rattle.steps.proofs.Cells.{pass_cells, cell_in}
use Rattle.laws.specs.Trees.{AllF, all-back-F, all-F}
use Rattle.integers.specs.Rows.{RowZ}
use Rattle.integers.specs.Widths.{NodeZ, cleared_z, PassedZ}
use Rattle.integers.specs.Candidates.{candidates_z}
use Rattle.profile.specs.Page.{InProfile, ChildProfile}
use Rattle.exact.specs.Near.{Near}
use Rattle.exact.specs.Read.{available_z, input_z, page_z}
use Rattle.exact.specs.Trees.{RelT, RelF}
use Rattle.exact.specs.Probes.{GoodCell, cell_z, NodeIs, KidIs, clear_is}
use Rattle.exact.specs.Rows.{Same, RowsT}
use Rattle.exact.specs.Candidates.{CandsAre, Below}

-- ---- the width pass at the root
unfoldable pub PageIs : Tree Node → Tree NodeZ → Type 0
PageIs (node n ks) (node z us) = NodeIs n z × RelF KidIs ks us

-- the width found is within 267264: 8192 for each of 32 levels, and what the root adds
pub record PassedIs (p : Passed) (z : PassedZ) : Type 0 where
  pub found : Near p.found z.found 267264
  pub nodes : PageIs p.nodes z.nodes

pub asked_available : (q : LayoutInput) → (input_z q).available ≡ available_z q.available
unfolding input_z
asked_available q = refl

good_cell : (s : Site) → ChildProfile s → GoodCell (blank s)
unfolding blank
good_cell s p = record { child = p; old = refl }

pub all_good : (ks : Forest Site) → AllF ChildProfile ks → AllF GoodCell (map_f blank ks)
all_good ks h = all-back-F blank GoodCell ks (all-F ChildProfile (λ (s : Site). GoodCell (blank s)) good_cell ks h)

pub root_clear : (s : Site) → InProfile s.style → NodeIs (cleared (blank s)) (cleared_z (cell_z (blank s)))
unfolding blank
root_clear s p = clear_is (record { site = s; old = no_row }) p refl

pub blank_style : (s : Site) → InProfile s.style → InProfile (blank s).site.style
unfolding blank
blank_style s p = p

pub cells_page : (t : Tree Site) → map_t cell_z (map_t blank t) ≡ page_z t
unfolding blank page_z
cells_page t = map_map_t cell_z blank t

pub count_nodes : (t : Tree Site) (q : LayoutInput) → count_t (width_pass (map_t blank t) q).nodes ≡ count_t t
count_nodes t q = sym (count_map_t cell_in (width_pass (map_t blank t) q).nodes) ∙ ap count_t (pass_cells (map_t blank t) q) ∙ count_map_t blank t

pub depth_nodes : (t : Tree Site) (q : LayoutInput) → depth_t (width_pass (map_t blank t) q).nodes ≡ depth_t t
depth_nodes t q = sym (depth_map_t cell_in (width_pass (map_t blank t) q).nodes) ∙ ap depth_t (pass_cells (map_t blank t) q) ∙ depth_map_t blank t

pub cands_of : {s l : ℕ} (t : Tree Row) (u : Tree RowZ) → Below s l t u → CandsAre s l (candidates t) (candidates_z u)
unfolding candidates candidates_z
cands_of (node r ks) (node z us) h = h 1

pub rows_same : (t : Tree Row) (u : Tree RowZ) → RowsT 16777215 t u → RelT Same t u
unfolding RowsT RelT
rows_same (node r ks) (node z us) p = p
