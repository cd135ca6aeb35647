-- Request 6: each call gives on numbers put field by field what it gave on the same numbers node by node, for any lent words, numbers, rows, marks, records, edits and question.
use Rattle.std.specs.Prelude.{◌≡◌, false, List, ℕ, Float}
use Rattle.std.proofs.Common.{sym, ◌∙◌}
use Rattle.steps.specs.Page.{nodes_in}
use Rattle.steps.specs.Results.{layout_result, relayout_result, size_result}
use Rattle.steps.specs.declared.LayoutInput.{LayoutInput}
use Rattle.steps.specs.declared.RequestedAxis.{RequestedAxis}
use Rattle.columns.specs.Reader.{bad_tables_with, layout_with, relayout_with, size_result_with}
use Rattle.columns.specs.Order.{rows, columns, by_column}
use Rattle.columns.proofs.Order.{as_long, lookup}
use Rattle.columns.specs.Engine.{layout_is, relayout-is, size_is}
use Rattle.columns.specs.Alike.{Alike, same_layout, same-relayout, same_size}
use Rattle.columns.specs.ByColumn.{whole_nodes}

module _ (ws : List ℕ) (os : List Float) where
  agree : bad_tables_with (columns (by_column os)) ws ≡ false → Alike (columns (by_column os)) (rows os)
  agree e i f g = lookup (nodes_in ws) os i f (sym (as_long os) ∙ whole_nodes (columns (by_column os)) ws e) g

  module _ (rs : List Float) (ms cw : List ℕ) (cx : List Float) (q : LayoutInput) where
    pub layout-by-column : layout_result ws (by_column os) rs ms cw cx q ≡ layout_with (rows os) ws rs ms cw cx q
    layout-by-column = layout_is ws (by_column os) rs ms cw cx q ∙ same_layout (columns (by_column os)) (rows os) ws (as_long os) agree rs ms cw cx q

    pub relayout-by-column : (es : List ℕ) → relayout_result ws (by_column os) rs ms cw cx es q ≡ relayout_with (rows os) ws rs ms cw cx es q
    relayout-by-column es = relayout-is ws (by_column os) rs ms cw cx q es ∙ same-relayout (columns (by_column os)) (rows os) ws (as_long os) agree rs ms cw cx q es

  pub size-by-column : (q : LayoutInput) (a : RequestedAxis) → size_result ws (by_column os) q a ≡ size_result_with (rows os) ws q a
  size-by-column q a = size_is ws (by_column os) q a ∙ same_size (columns (by_column os)) (rows os) ws (as_long os) agree q a
