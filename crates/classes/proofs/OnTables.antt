-- The theorem of lent tables: a layout accepts them, and number 22 (the ratio) equals 0 at every node.
use Rattle.std.specs.Prelude.{◌≡◌, true, false, List, [], ℕ, ◌<◌, Float, Ok}
use Rattle.tree.specs.Tree.{map_t}
use Rattle.steps.specs.Page.{nodes_in, page_of}
use Rattle.steps.specs.Layout.{fresh}
use Rattle.steps.specs.Results.{layout_result, rows_out, marks_out}
use Rattle.steps.specs.declared.LayoutInput.{LayoutInput}
use Rattle.laws.specs.Answers.{layout_accepted}
use Rattle.classes.specs.Margins.{MarT, val_t, Values, Sum}
use Rattle.classes.specs.Spots.{SpotT, ParentT, box_at_t, ClassOf}
use Rattle.classes.specs.Collect.{Iff}
use Rattle.classes.specs.Engine.{told_at}
use Rattle.classes.proofs.Fresh.{fresh-passed, fresh-gap}
use Rattle.classes.specs.Computes.{did_at}
use Rattle.classes.proofs.Computes.{fresh_told}
use Rattle.classes.specs.Rows.{said_box, laid_t}
use Rattle.classes.proofs.Rows.{boxes_are_rows}
use Rattle.classes.specs.OnTables.{NoRatios, AllFit, boxes_on, plain_page, fit_page, some_node}

-- ---- the theorem
module _ (ws : List ℕ) (xs rs : List Float) (ms cw : List ℕ) (cx : List Float) (q : LayoutInput) (k : ℕ) (accepted : (layout_result ws xs rs ms cw cx q).answer ≡ Ok k) where
  some : 0 < nodes_in ws
  some = some_node ws xs rs ms cw cx q (layout_accepted ws xs rs ms cw cx q k accepted).passed

  -- the boxes are the nodes that the layout laid, with the numbers, heights and through of the rows that it left
  pub rows-on-tables : map_t said_box (boxes_on ws xs q) ≡ laid_t (page_of ws xs []) (fresh (page_of ws xs []) q).rows
  rows-on-tables = boxes_are_rows (page_of ws xs []) q

  pub rows_left : (layout_result ws xs rs ms cw cx q).rows ≡ rows_out (fresh (page_of ws xs []) q).rows
  rows_left = (layout_accepted ws xs rs ms cw cx q k accepted).rows_are

  pub marks-left : (layout_result ws xs rs ms cw cx q).marks ≡ marks_out (fresh (page_of ws xs []) q).rows
  marks-left = (layout_accepted ws xs rs ms cw cx q k accepted).marks_are

  -- without ratio the plain engine tells of every box below the root what J did with it, bit for bit
  pub told-on-tables : NoRatios ws xs → AllFit xs → (p : SpotT (boxes_on ws xs q)) → did_at (boxes_on ws xs q) p ≡ told_at (boxes_on ws xs q) p
  told-on-tables r h = fresh_told (page_of ws xs []) q (plain_page ws xs some r) (fit_page ws xs some h)

  -- without ratio, for each laid box below the root that is not through:
  module _ (plain : NoRatios ws xs) (p : SpotT (boxes_on ws xs q)) (stands : (box_at_t (boxes_on ws xs q) p).through ≡ false) where
    -- its gap is passed out of the top exactly if its top margin and its parent's are in one class
    pub passed-on-tables : (m : MarT (boxes_on ws xs q)) → ParentT (boxes_on ws xs q) p m → Iff ((box_at_t (boxes_on ws xs q) p).passed ≡ true) (ClassOf (boxes_on ws xs q) p m)
    passed-on-tables = fresh-passed (page_of ws xs []) q (plain_page ws xs some plain) p stands

    -- if not, the gap is the largest positive plus the smallest negative of its class
    pub gap-on-tables : (box_at_t (boxes_on ws xs q) p).passed ≡ false → Sum (λ x. Values (val_t (boxes_on ws xs q)) (ClassOf (boxes_on ws xs q) p) x) (box_at_t (boxes_on ws xs q) p).gap
    gap-on-tables = fresh-gap (page_of ws xs []) q (plain_page ws xs some plain) p stands
