-- What each of the nine answers is given for, from what the tests are given for, the finished rows and the count of candidates.
use Rattle.steps.specs.declared.Refusal.TheVariants.{Lengths, Tree, Codes, Numbers, Room, Edits, NotLaid, TooLarge}
use Rattle.steps.specs.declared.Refusal.{Refusal}
use Rattle.std.specs.Prelude.{◌≡◌, List, ℕ, length, Float, Option, None, Some, Result, Ok, Err, ⊤}
use Rattle.std.proofs.Math.Path.{refl}
use Rattle.tree.specs.Tree as tree
use Rattle.tree.specs.declared.NodeId.{NodeId}
use Rattle.steps.specs.Scan.{lowest}
use Rattle.steps.specs.Row.{Row}
use Rattle.steps.specs.Candidates.{candidates}
use Rattle.steps.specs.Noes.{bad_row}
use Rattle.steps.specs.Results.{rows_out, accepted, over_limit, replied, tested}
use Rattle.tables.specs.Refusals.{Lowest, Sound}

-- 1 to 7: what the tests refuse for; 8: they pass, and this row is the lowest that is too large; 0: they pass, no row is, and this is the count
abbrev pub GivenBy : (Result ⊤ Refusal → Type 0) → List Float → ℕ → ℕ → Result ℕ Refusal → Type 0
GivenBy D rows n count (Ok k) = D (Ok tt) × Sound (bad_row rows) n × (k ≡ count)
GivenBy D rows n count (Err (TooLarge i)) = D (Ok tt) × Lowest (bad_row rows) n i.0
GivenBy D rows n count (Err Lengths) = D (Err Lengths)
GivenBy D rows n count (Err (Tree i)) = D (Err (Tree i))
GivenBy D rows n count (Err (Codes i)) = D (Err (Codes i))
GivenBy D rows n count (Err (Numbers k)) = D (Err (Numbers k))
GivenBy D rows n count (Err Room) = D (Err Room)
GivenBy D rows n count (Err (Edits k)) = D (Err (Edits k))
GivenBy D rows n count (Err NotLaid) = D (Err NotLaid)

-- the tests never refuse with 8
pub record Never (D : Result ⊤ Refusal → Type 0) : Type 0 where
  pub large : (i : NodeId) → D (Err (TooLarge i)) → ⊥

abbrev pub answer_of : Result ⊤ Refusal → Option NodeId → ℕ → Result ℕ Refusal
answer_of (Err a) f k = Err a
answer_of (Ok _) None k = Ok k
answer_of (Ok _) (Some i) k = Err (TooLarge i)

module _ (n : ℕ) (t : tree.Tree Row) (rs : List Float) (ms cw : List ℕ) (cx : List Float) where
  over-answer : (f : Option NodeId) → (over_limit f t rs ms cw cx).answer ≡ answer_of (Ok tt) f (length (candidates t))
  unfolding over_limit accepted
  over-answer None = refl
  over-answer (Some i) = refl

  -- the answer of a reply
  pub reply-answer : (u : Result ⊤ Refusal) → (tested u (replied n t rs ms cw cx) rs ms cw cx).answer ≡ answer_of u (lowest (bad_row (rows_out t)) n) (length (candidates t))
  unfolding tested replied
  reply-answer (Ok _) = over-answer (lowest (bad_row (rows_out t)) n)
  reply-answer (Err a) = refl
