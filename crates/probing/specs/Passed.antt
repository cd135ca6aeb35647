-- What memory holds of a node after the width pass.
use Rattle.std.specs.Prelude.{cond, List, ℕ, Float}
use Rattle.steps.specs.Row.{Row, row_numbers, row_words, noted, with_code}
use Rattle.steps.specs.Page.{Cell, Node}
use Rattle.rows.specs.Store.{unlaid}

-- the old row with the node's probe words; where it was probed anew bit 0 is taken away, so that the final pass does not keep it
unfoldable pub passed_row : Node → Row
passed_row l = noted l.old l.probe (with_code (cond l.anew (unlaid l.old.bits) l.old.bits) l.probe.code)

abbrev pub passed_numbers : ℕ → Node → List Float
passed_numbers n l = row_numbers (passed_row l)

abbrev pub passed_words : ℕ → Node → List ℕ
passed_words n l = row_words (passed_row l)

-- the cell that the final pass finds there
unfoldable pub marked_cell : Node → Cell
marked_cell l = record { site = l.site; old = passed_row l }
