-- Between the passes: memory after the width pass is the table of the marked cells, and a relayout is the final pass on them.
use mathlib.Core.Path.{◌≡◌, refl, sym, ap, ◌∙◌}
use mathlib.Core.List.{List, [], ◌∷◌}
use Prim.Native.Nat.{ℕ, ◌*◌}
use lib.Ieee.{Float}
use Rattle.tree.specs.Tree.{Tree, count_t, depth_t, flat_t, map_t}
use Rattle.tree.specs.Table.{Entry, from}
use Rattle.tree.proofs.Laws.{flat_map_t, count_map_t, map_map_t, depth_map_t}
use Rattle.steps.specs.Row.{row_numbers, row_words}
use Rattle.steps.specs.Page.{Site, Cell, Node, site_at, staying}
use Rattle.steps.specs.Probe.{width_pass}
use Rattle.steps.specs.Layout.{lay_t, relaid}
use Rattle.steps.specs.declared.LayoutInput.{LayoutInput}
use Rattle.steps.proofs.Cells.{cell_in, pass_cells}
use Rattle.walks.specs.Tables.{site_entry, old_numbers, old_words, TabledT}
use Rattle.probing.specs.Passed.{passed_row, passed_numbers, passed_words, marked_cell}
use Rattle.probing.specs.Contract.{AreT}
use Rattle.probing.proofs.PassedRows.{flat-sameT}
use Rattle.probing.proofs.Marked.{marked, marked_t}
use Rattle.probing.proofs.PassCodes.{codes_pass}

-- the page that the final pass finds
abbrev pub left_by : Tree Cell → LayoutInput → Tree Cell
left_by t q = map_t marked_cell (width_pass t q).nodes

-- the code's mark is the definition's veto
pub relaid_marked : (t : Tree Cell) (q : LayoutInput) → relaid t q ≡ lay_t (map_t marked (width_pass t q).nodes) q (width_pass t q).found
unfolding relaid
relaid_marked t q = sym (marked_t (width_pass t q).nodes (codes_pass t q) q (width_pass t q).found)

pub relaid_left : (t : Tree Cell) (q : LayoutInput) → relaid t q ≡ lay_t (map_t staying (left_by t q)) q (width_pass t q).found
relaid_left t q = relaid_marked t q ∙ ap (λ u. lay_t u q (width_pass t q).found) (sym (map_map_t staying marked_cell (width_pass t q).nodes))

marked_old : (l : Node) → (marked_cell l).old ≡ passed_row l
unfolding marked_cell
marked_old l = refl

abbrev entry : ℕ → Site → List (Entry Site)
entry n s = record { size = n; label = s } ∷ []

abbrev site_in : Cell → Site
site_in l = l.site

marked_sites : (u : Tree Node) → map_t (λ (l : Node). site_in (marked_cell l)) u ≡ map_t (λ (l : Node). site_in (cell_in l)) u
unfolding marked_cell
marked_sites u = refl

left_sites : (t : Tree Cell) (q : LayoutInput) → map_t site_in (left_by t q) ≡ map_t site_in t
left_sites t q =
    let u = (width_pass t q).nodes in
    map_map_t site_in marked_cell u ∙ marked_sites u ∙ sym (map_map_t site_in cell_in u) ∙ ap (map_t site_in) (pass_cells t q)

-- tables and depth see the sites alone
sites_t : (t : Tree Cell) → flat_t site_entry t ≡ flat_t entry (map_t site_in t)
sites_t t = sym (flat_map_t entry site_in t)

pub left_count : (t : Tree Cell) (q : LayoutInput) → count_t (left_by t q) ≡ count_t t
left_count t q = sym (count_map_t site_in (left_by t q)) ∙ ap count_t (left_sites t q) ∙ count_map_t site_in t

pub left_depth : (t : Tree Cell) (q : LayoutInput) → depth_t (left_by t q) ≡ depth_t t
left_depth t q = sym (depth_map_t site_in (left_by t q)) ∙ ap depth_t (left_sites t q) ∙ depth_map_t site_in t

-- memory after the pass
pub left_tabled : (ws : List ℕ) (xs rs : List Float) (ms es : List ℕ) (rs' : List Float) (ms' : List ℕ) (t : Tree Cell) (q : LayoutInput) → TabledT ws xs rs ms es 0 t → AreT rs' ms' (width_pass t q).nodes → TabledT ws xs rs' ms' es 0 (left_by t q)
left_tabled ws xs rs ms es rs' ms' t q h a =
    let n = left_count t q in
    let u = (width_pass t q).nodes in
    record {
      words_long = h.words_long ∙ ap (λ (k : ℕ). 4 * k) (sym n);
      sites_are = ap (from (site_at ws xs es 0) 0) n ∙ h.sites_are ∙ sites_t t ∙ ap (flat_t entry) (sym (left_sites t q)) ∙ sym (sites_t (left_by t q));
      rows_are = a.0 ∙ sym (flat_map_t old_numbers marked_cell u ∙ flat-sameT (λ k (l : Node). old_numbers k (marked_cell l)) passed_numbers (λ k l. ap row_numbers (marked_old l)) u);
      marks_are = a.1 ∙ sym (flat_map_t old_words marked_cell u ∙ flat-sameT (λ k (l : Node). old_words k (marked_cell l)) passed_words (λ k l. ap row_words (marked_old l)) u);
    }
