-- A layout: each of its answers exactly if it is due, and what the answer says of lent memory.
use Rattle.steps.specs.declared.Refusal.{Refusal}
use Rattle.std.specs.Prelude.{◌≡◌, List, [], ℕ, Float, Result}
use Rattle.steps.specs.Page.{nodes_in, page_of}
use Rattle.steps.specs.Layout.{fresh}
use Rattle.steps.specs.Noes.{paper, layout_tested}
use Rattle.steps.specs.Results.{layout_result}
use Rattle.steps.specs.declared.LayoutInput.{LayoutInput}
use Rattle.tables.specs.Refusals.{LayoutDue}
use Rattle.tables.proofs.Exactly.{Exactly, layout-exactly}
use Rattle.layout.specs.Public.{Replied}
use Rattle.outcomes.specs.Given.{Never}
use Rattle.outcomes.proofs.Given.{seen_exactly}
use Rattle.outcomes.specs.Left.{LeftBy}
use Rattle.outcomes.proofs.Left.{seen_left}
use Rattle.outcomes.specs.Layout.{LayoutGiven}

module _ (ws : List ℕ) (xs rs : List Float) (ms cw : List ℕ) (cx : List Float) (q : LayoutInput) where
  never : Never (LayoutDue ws xs rs ms cw cx q)
  never = record { large = λ i d. d }

  -- all nine outcomes, of an answer that is the definition's
  pub layout-answers : (a : Result ℕ Refusal) → a ≡ (layout_result ws xs rs ms cw cx q).answer → (b : Result ℕ Refusal) → Exactly (a ≡ b) (LayoutGiven ws xs rs ms cw cx q b)
  unfolding layout_result
  layout-answers a e b = seen_exactly (layout_tested ws xs rs ms cw cx q) (LayoutDue ws xs rs ms cw cx q) (layout-exactly ws xs rs ms cw cx q) never (nodes_in ws) (fresh (page_of ws xs []) q).rows rs ms cw cx a e b

  module _ (a : Result ℕ Refusal) (rs' : List Float) (ms' cw' : List ℕ) (cx' : List Float) (call : Replied (layout_result ws xs rs ms cw cx q) a rs' ms' cw' cx') where
    -- all nine outcomes
    pub layout-gives : (b : Result ℕ Refusal) → Exactly (a ≡ b) (LayoutGiven ws xs rs ms cw cx q b)
    layout-gives b = layout-answers a call.answer_is b

    -- 1 to 7, 8, and no other number
    pub layout-leaves : LeftBy (paper a).0 rs rs' ms ms' cw cw' cx cx'
    unfolding layout_result
    layout-leaves = seen_left (layout_tested ws xs rs ms cw cx q) (LayoutDue ws xs rs ms cw cx q) (layout-exactly ws xs rs ms cw cx q) never (nodes_in ws) (fresh (page_of ws xs []) q).rows rs ms cw cx a rs' ms' cw' cx' call
