-- A layout: each of its answers exactly if it is due, and what the answer says of lent memory.
use Rattle.steps.specs.declared.Refusal.{Refusal}
use Rattle.std.specs.Prelude.{List, [], ℕ, length, Float, Result}
use Rattle.steps.specs.Page.{nodes_in, page_of}
use Rattle.steps.specs.Layout.{fresh}
use Rattle.steps.specs.Candidates.{candidates}
use Rattle.steps.specs.Results.{rows_out}
use Rattle.steps.specs.declared.LayoutInput.{LayoutInput}
use Rattle.tables.specs.Refusals.{LayoutDue}
use Rattle.outcomes.specs.Given.{GivenBy}

module _ (ws : List ℕ) (xs rs : List Float) (ms cw : List ℕ) (cx : List Float) (q : LayoutInput) where
  -- what each answer of a layout is given for
  abbrev pub LayoutGiven : Result ℕ Refusal → Type 0
  LayoutGiven = GivenBy (LayoutDue ws xs rs ms cw cx q) (rows_out (fresh (page_of ws xs []) q).rows) (nodes_in ws) (length (candidates (fresh (page_of ws xs []) q).rows))
