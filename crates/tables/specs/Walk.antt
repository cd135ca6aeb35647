-- One step of the count of candidates over the nodes in preorder.
use Rattle.steps.specs.declared.Refusal.{Refusal}
use Rattle.std.specs.Prelude.{◌≡◌, List, [], ℕ, Float, Result, ⊤}
use Rattle.steps.specs.Page.{page_of}
use Rattle.steps.specs.Candidates.{needed}
use Rattle.steps.specs.Noes.{no5}
use Rattle.style.specs.declared.Flow.{Flow}
use Rattle.style.specs.declared.Flow.TheVariants.{Gone, Out, In}

-- how many candidates a node is itself
unfoldable pub counted_by : Flow → ℕ
counted_by Gone = 0
counted_by Out = 1
counted_by In = 0

-- how many nodes are passed: all its run, unless it is in flow
unfoldable pub passed_by : Flow → ℕ → ℕ
passed_by Gone size = size
passed_by Out size = size
passed_by In size = 1

-- the numbers do not matter: the count that is needed, and test 5
abbrev pub NeededIn : List ℕ → ℕ → Type 0
NeededIn ws r = (xs : List Float) → r ≡ needed (page_of ws xs [])

abbrev pub RoomTested : List ℕ → List ℕ → List Float → Result ⊤ Refusal → Type 0
RoomTested ws cw cx r = (xs : List Float) → r ≡ no5 ws xs cw cx
