-- A relayout: each of its answers exactly if it is due, and what the answer says of lent memory.
use Rattle.steps.specs.declared.Refusal.{Refusal}
use Rattle.std.specs.Prelude.{◌≡◌, List, ℕ, Float, Result}
use Rattle.steps.specs.Page.{nodes_in, cells_of}
use Rattle.steps.specs.Layout.{relaid}
use Rattle.steps.specs.Noes.{paper, relayout_tested}
use Rattle.steps.specs.Results.{relayout_result}
use Rattle.steps.specs.declared.LayoutInput.{LayoutInput}
use Rattle.tables.specs.Refusals.{RelayoutDue}
use Rattle.tables.proofs.Exactly.{Exactly, relayout-exactly}
use Rattle.layout.specs.Public.{Replied}
use Rattle.outcomes.specs.Given.{Never}
use Rattle.outcomes.proofs.Given.{seen_exactly}
use Rattle.outcomes.specs.Left.{LeftBy}
use Rattle.outcomes.proofs.Left.{seen_left}
use Rattle.outcomes.specs.Relayout.{RelayoutGiven}

module _ (ws : List ℕ) (xs rs : List Float) (ms cw : List ℕ) (cx : List Float) (es : List ℕ) (q : LayoutInput) where
  never : Never (RelayoutDue ws xs rs ms cw cx es q)
  never = record { large = λ i d. d }

  -- all nine outcomes, of an answer that is the definition's
  pub relayout-answers : (a : Result ℕ Refusal) → a ≡ (relayout_result ws xs rs ms cw cx es q).answer → (b : Result ℕ Refusal) → Exactly (a ≡ b) (RelayoutGiven ws xs rs ms cw cx es q b)
  unfolding relayout_result
  relayout-answers a e b = seen_exactly (relayout_tested ws xs rs ms cw cx es q) (RelayoutDue ws xs rs ms cw cx es q) (relayout-exactly ws xs rs ms cw cx q es) never (nodes_in ws) (relaid (cells_of ws xs rs ms es) q).rows rs ms cw cx a e b

  module _ (a : Result ℕ Refusal) (rs' : List Float) (ms' cw' : List ℕ) (cx' : List Float) (call : Replied (relayout_result ws xs rs ms cw cx es q) a rs' ms' cw' cx') where
    -- all nine outcomes
    pub relayout-gives : (b : Result ℕ Refusal) → Exactly (a ≡ b) (RelayoutGiven ws xs rs ms cw cx es q b)
    relayout-gives b = relayout-answers a call.answer_is b

    -- 1 to 7, 8, and no other number
    pub relayout-leaves : LeftBy (paper a).0 rs rs' ms ms' cw cw' cx cx'
    unfolding relayout_result
    relayout-leaves = seen_left (relayout_tested ws xs rs ms cw cx es q) (RelayoutDue ws xs rs ms cw cx es q) (relayout-exactly ws xs rs ms cw cx q es) never (nodes_in ws) (relaid (cells_of ws xs rs ms es) q).rows rs ms cw cx a rs' ms' cw' cx' call
