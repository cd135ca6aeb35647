-- What each answer of coarse is given for.
use Rattle.coarse.specs.declared.CoarseRefusal.TheVariants.{Plain, TooFar}
use Rattle.coarse.specs.declared.CoarseRefusal.{CoarseRefusal}
use Rattle.std.specs.Prelude.{Bool, List, ℕ, Float, Result, Ok, ⊤, Err}
use Rattle.steps.specs.Page.{nodes_in}
use Rattle.tables.specs.Refusals.{Lowest, Sound}
use Rattle.edges.specs.Tests.{LaidSound, LaidRefused}
use Rattle.coarse.specs.Coarse.{far_at}

-- in order: 1, 2, 3, 7, then 12
abbrev pub CoarseDue : Bool → List ℕ → List Float → List ℕ → Result ⊤ CoarseRefusal → Type 0
CoarseDue misfit ws rs ms (Ok _) = LaidSound misfit ws ms × Sound (far_at ws rs ms) (nodes_in ws)
CoarseDue misfit ws rs ms (Err (Plain a)) = LaidRefused misfit ws ms a
CoarseDue misfit ws rs ms (Err (TooFar i)) = LaidSound misfit ws ms × Lowest (far_at ws rs ms) (nodes_in ws) i.0
