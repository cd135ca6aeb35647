-- Rows keep their order: of a page that a layout accepts and whose every node is steady, by the numbers of its nodes.
use Rattle.steps.specs.declared.Refusal.TheVariants.{Lengths}
use Rattle.std.specs.Prelude.{◌≡◌, true, ◌||◌, List, [], ℕ, ◌<◌, Float, None, Ok}
use Rattle.std.proofs.Common.{arith}
use Rattle.limits.specs.Bools.{or_left}
use Rattle.steps.specs.Scan.{lowest}
use Rattle.steps.specs.Row.{row_at}
use Rattle.steps.specs.Page.{nodes_in, site_at, page_of}
use Rattle.steps.specs.Layout.{fresh}
use Rattle.steps.specs.Noes.{end_at, bad_tables, bad_rows, bad_numbers, bad_row, refuse_if, no5, page_tested, layout_tested}
use Rattle.steps.specs.Results.{rows_out, marks_out, layout_result}
use Rattle.steps.specs.declared.LayoutInput.{LayoutInput}
use Rattle.tables.specs.TreeCheck.{GoodTable}
use Rattle.tables.proofs.ScanLaws.{lowest-nowhere}
use Rattle.tables.proofs.Passing.{sized, page_passes, then_pass_1, then_pass_2, if_pass}
use Rattle.laws.specs.Trees.{AllT}
use Rattle.laws.specs.Parsed.{all_parse}
use Rattle.laws.specs.Answers.{layout_accepted}
use Rattle.order.specs.Class.{keeps_order}
use Rattle.order.specs.Exact.{node-steady}
use Rattle.order.proofs.Steady.{steady-at}
use Rattle.order.specs.Rows.{RowsInOrder}
use Rattle.order.specs.Fresh.{SteadySite}
use Rattle.order.proofs.Fresh.{fresh_in_order}
use Rattle.order.specs.Nodes.{kids-T, siblings, child_root, child_within}
use Rattle.order.specs.Accepted.{site_steady, rows_read, rows_count, at_most, done_nowhere}

page_steady : (ws : List ℕ) (xs : List Float) → 0 < nodes_in ws → lowest (bad_numbers ws xs) (nodes_in ws) ≡ None → keeps_order ws xs ≡ true → AllT SteadySite (page_of ws xs [])
unfolding page_of
page_steady ws xs n g k =
    all_parse SteadySite (site_at ws xs [] 0) (nodes_in ws) n (λ i l. site_steady ws xs i (steady-at ws xs i (lowest-nowhere (bad_numbers ws xs) (nodes_in ws) g i l) (node-steady ws xs k i l)))

-- ---- the theorem

module _ (ws : List ℕ) (xs rs : List Float) (ms cw : List ℕ) (cx : List Float) (q : LayoutInput) where
  -- what the tests tell
  pub record Told : Type 0 where
    pub good : GoodTable ws
    pub numbers : lowest (bad_numbers ws xs) (nodes_in ws) ≡ None

  told : layout_tested ws xs rs ms cw cx q ≡ Ok tt → Told
  unfolding layout_tested
  told e =
      let b = or_left (bad_tables ws xs) _ (if_pass (bad_tables ws xs || bad_rows ws rs ms) Lengths (then_pass_1 (refuse_if (bad_tables ws xs || bad_rows ws rs ms) Lengths) _ e)) in
      let z = sized ws xs b in
      let p = page_passes ws xs q (then_pass_1 (page_tested ws xs q) (no5 ws xs cw cx) (then_pass_2 (refuse_if (bad_tables ws xs || bad_rows ws rs ms) Lengths) _ e)) in
      record { good = record { some = z.some; few = z.few; sound = p.tree }; numbers = p.numbers }

  -- of the rows that a layout accepts
  fresh-rows : Told → keeps_order ws xs ≡ true → lowest (bad_row (rows_out (fresh (page_of ws xs []) q).rows)) (nodes_in ws) ≡ None → RowsInOrder ws (rows_out (fresh (page_of ws xs []) q).rows) (marks_out (fresh (page_of ws xs []) q).rows)
  fresh-rows w k small p i j l a b g x y =
      let r = (fresh (page_of ws xs []) q).rows in
      let n = rows_count ws xs q w.good in
      let o = fresh_in_order (page_of ws xs []) q (page_steady ws xs w.good.some w.numbers k) in
      let c = kids-T (row_at (rows_out r) (marks_out r)) (end_at ws) r 0 p (rows_read ws xs q w.good) o (omega arith) (omega arith) in
      let i-in = child_within ws p i a in
      let j-in = child_within ws p j b in
      let top = c.inside in
      let fine = lowest-nowhere (bad_row (rows_out r)) (nodes_in ws) small in
      at_most (rows_out r) (marks_out r) i j (fine i (omega arith)) (fine j (omega arith))
      (siblings (row_at (rows_out r) (marks_out r)) (end_at ws) c.kids _ i j c.sits c.ordered (child_root ws _ p i c.kids c.sits c.ends a) (child_root ws _ p j c.kids c.sits c.ends b) g x y)

  -- a layout that is accepted leaves rows in order, where every node is steady
  pub layout-keeps-order : (k : ℕ) → (layout_result ws xs rs ms cw cx q).answer ≡ Ok k → keeps_order ws xs ≡ true → RowsInOrder ws (layout_result ws xs rs ms cw cx q).rows (layout_result ws xs rs ms cw cx q).marks
  unfolding layout_result
  layout-keeps-order k e s =
      let z = layout_accepted ws xs rs ms cw cx q k e in
      rw (z.rows_are, z.marks_are) (fresh-rows (told z.passed) s (done_nowhere (layout_tested ws xs rs ms cw cx q) (nodes_in ws) _ rs ms cw cx k z.passed e))
