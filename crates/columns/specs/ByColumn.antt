-- Request 6: each call gives on numbers put field by field what it gave on the same numbers node by node, for any lent words, numbers, rows, marks, records, edits and question.
use Rattle.std.specs.Prelude.{◌≡◌, false, not, List, ℕ, ◌*◌, length, eqb, ltb}
use Rattle.std.proofs.Common.{eqb-true}
use Rattle.std.proofs.lemmas.Bool.{not-false}
use Rattle.limits.specs.Bools.{or_right}
use Rattle.steps.specs.Page.{nodes_in}
use Rattle.columns.specs.Reader.{Reader, bad_tables_with}

-- lengths that pass: 28 numbers for each node
pub whole_nodes : (r : Reader) (ws : List ℕ) → bad_tables_with r ws ≡ false → r.lent ≡ 28 * nodes_in ws
unfolding bad_tables_with
whole_nodes r ws e =
    eqb-true _ _ (not-false _ (or_right (not (eqb (length ws) (4 * nodes_in ws))) _ (or_right (ltb 1024 (nodes_in ws)) _ (or_right (eqb (nodes_in ws) 0) _ e))))
