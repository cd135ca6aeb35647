-- A relayout: each of its answers exactly if it is due, and what the answer says of lent memory.
use Rattle.steps.specs.declared.Refusal.{Refusal}
use Rattle.std.specs.Prelude.{List, ℕ, length, Float, Result}
use Rattle.steps.specs.Page.{nodes_in, cells_of}
use Rattle.steps.specs.Layout.{relaid}
use Rattle.steps.specs.Candidates.{candidates}
use Rattle.steps.specs.Results.{rows_out}
use Rattle.steps.specs.declared.LayoutInput.{LayoutInput}
use Rattle.tables.specs.Refusals.{RelayoutDue}
use Rattle.outcomes.specs.Given.{GivenBy}

module _ (ws : List ℕ) (xs rs : List Float) (ms cw : List ℕ) (cx : List Float) (es : List ℕ) (q : LayoutInput) where
  -- what each answer of a relayout is given for
  abbrev pub RelayoutGiven : Result ℕ Refusal → Type 0
  RelayoutGiven = GivenBy (RelayoutDue ws xs rs ms cw cx es q) (rows_out (relaid (cells_of ws xs rs ms es) q).rows) (nodes_in ws) (length (candidates (relaid (cells_of ws xs rs ms es) q).rows))
