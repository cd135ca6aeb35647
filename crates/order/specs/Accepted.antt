-- Rows keep their order: of a page that a layout accepts and whose every node is steady, by the numbers of its nodes.
use Rattle.steps.specs.declared.Refusal.{Refusal}
use Rattle.tree.specs.declared.NodeId.{NodeId}
use Rattle.std.specs.Prelude.{◌≡◌, refl, true, false, List, [], ℕ, ◌+◌, ◌*◌, ◌<◌, get_or, Float, Option, None, Some, Result, Ok, ⊤}
use Rattle.std.proofs.Common.{sym, ap, subst, ◌∙◌, zero-add, arith}
use Rattle.std.specs.Float.Ieee.{lt, le}
use Rattle.geometry.specs.Geometry.{zero_f}
use Rattle.limits.specs.Limits.{too_large}
use Rattle.limits.specs.Laws.{small_finite}
use Rattle.style.specs.Style.{style_at}
use Rattle.tree.specs.Tree.{Tree, map_t, count_t}
use Rattle.tree.specs.Table.{from}
use Rattle.tree.proofs.Laws.{count_map_t}
use Rattle.steps.specs.Scan.{lowest}
use Rattle.steps.specs.Row.{Row, row_at}
use Rattle.steps.specs.Page.{nodes_in, site_at, cell_at, page_of, cells_of}
use Rattle.steps.specs.Layout.{fresh}
use Rattle.steps.specs.Noes.{end_at, bad_row}
use Rattle.steps.specs.Results.{rows_out, marks_out, over_limit, replied, tested}
use Rattle.steps.specs.declared.LayoutInput.{LayoutInput}
use Rattle.tables.specs.TreeCheck.{GoodTable}
use Rattle.tables.proofs.ScanLaws.{not_some}
use Rattle.tables.proofs.GoodPage.{good_page, good-cells}
use Rattle.laws.specs.Parsed.{parse-map}
use Rattle.laws.specs.Entries.{rows_tree}
use Rattle.laws.specs.Shape.{fresh_shape}
use Rattle.sums.specs.Numbers.{lt_le, finite_number, finite_add}
use Rattle.order.specs.Steady.{Steady}
use Rattle.order.specs.Rows.{top_edge, bottom_edge}
use Rattle.order.specs.Fresh.{SteadySite}
use Rattle.order.specs.Nodes.{SitsT, old_in, sits-T}

-- ---- every node of the page is steady

pub site_steady : (ws : List ℕ) (xs : List Float) (i : ℕ) → Steady (style_at ws i xs i) → SteadySite (site_at ws xs [] 0 i).label
unfolding site_at
site_steady ws xs i s = subst (λ (k : ℕ). Steady (style_at ws i xs k)) (sym (zero-add i)) s

-- ---- the rows of a tree, read back from the tables

pub rows_read : (ws : List ℕ) (xs : List Float) (q : LayoutInput) → GoodTable ws → let r = (fresh (page_of ws xs []) q).rows in SitsT (row_at (rows_out r) (marks_out r)) (end_at ws) 0 r
unfolding cells_of cell_at
rows_read ws xs q good =
    let r = (fresh (page_of ws xs []) q).rows in
    let c = good-cells ws good xs (rows_out r) (marks_out r) [] in
    let e : map_t old_in (cells_of ws xs (rows_out r) (marks_out r) []) ≡ r =
    parse-map old_in (cell_at ws xs (rows_out r) (marks_out r) []) (nodes_in ws) ∙ rows_tree (site_at ws xs [] 0) (nodes_in ws) (page_of ws xs []) r (good_page ws good xs []).entries (fresh_shape (page_of ws xs []) q) in
    subst (SitsT (row_at (rows_out r) (marks_out r)) (end_at ws) 0) e
    (sits-T ws xs (rows_out r) (marks_out r) [] 0 (cells_of ws xs (rows_out r) (marks_out r) []) (ap (from (cell_at ws xs (rows_out r) (marks_out r) []) 0) c.count ∙ c.entries))

pub rows_count : (ws : List ℕ) (xs : List Float) (q : LayoutInput) → GoodTable ws → count_t (fresh (page_of ws xs []) q).rows ≡ nodes_in ws
rows_count ws xs q good = sym (count_map_t _ (fresh (page_of ws xs []) q).rows) ∙ ap count_t (fresh_shape (page_of ws xs []) q) ∙ count_map_t _ (page_of ws xs []) ∙ (good_page ws good xs []).count

-- ---- refusal 8 is not given

-- places and sizes are among the numbers that 8 looks at
small_at : (rs : List Float) (i k : ℕ) → bad_row rs i ≡ false → k < 4 → too_large (get_or rs (16 * i + k) zero_f) ≡ false
unfolding bad_row
small_at rs i k e l = not_some (λ (m : ℕ). too_large (get_or rs (16 * i + m) zero_f)) _ e k (omega arith)

pub at_most : (rs : List Float) (ms : List ℕ) (i j : ℕ) → bad_row rs i ≡ false → bad_row rs j ≡ false → lt (top_edge (row_at rs ms j)) (bottom_edge (row_at rs ms i)) ≡ false → le (bottom_edge (row_at rs ms i)) (top_edge (row_at rs ms j)) ≡ true
at_most rs ms i j a b h =
    lt_le (bottom_edge (row_at rs ms i)) (top_edge (row_at rs ms j)) (finite_add _ _ (small_finite _ (small_at rs i 1 a (omega arith))) (small_finite _ (small_at rs i 3 a (omega arith))))
    (finite_number _ (small_finite _ (small_at rs j 1 b (omega arith)))) h

limit_nowhere : (w : Option NodeId) (t : Tree Row) (rs : List Float) (ms cw : List ℕ) (cx : List Float) (k : ℕ) → (over_limit w t rs ms cw cx).answer ≡ Ok k → w ≡ None
unfolding over_limit
limit_nowhere None t rs ms cw cx k e = refl
limit_nowhere (Some i) t rs ms cw cx k e = cc

pub done_nowhere : (u : Result ⊤ Refusal) (n : ℕ) (t : Tree Row) (rs : List Float) (ms cw : List ℕ) (cx : List Float) (k : ℕ) → u ≡ Ok tt → (tested u (replied n t rs ms cw cx) rs ms cw cx).answer ≡ Ok k → lowest (bad_row (rows_out t)) n ≡ None
unfolding tested replied
done_nowhere u n t rs ms cw cx k p e =
    let h : (over_limit (lowest (bad_row (rows_out t)) n) t rs ms cw cx).answer ≡ Ok k = rw p at e in
    limit_nowhere (lowest (bad_row (rows_out t)) n) t rs ms cw cx k h
