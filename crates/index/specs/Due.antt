-- What each answer of make_index is given for.
use Rattle.index.specs.declared.IndexRefusal.TheVariants.{Plain, BadEntry}
use Rattle.index.specs.declared.IndexRefusal.{IndexRefusal}
use Rattle.std.specs.Prelude.{◌≡◌, Bool, List, ℕ, ◌<◌, ◌≤◌, min, length, Result, Ok, ⊤, Err}
use Rattle.tables.specs.Refusals.{Lowest, Sound}
use Rattle.edges.specs.Tests.{LaidSound, LaidRefused}
use Rattle.index.specs.Entries.{bad_entry}

-- 9: the first bad index among the first 256, else 256
pub data EntryAt (ws ms list : List ℕ) (k : ℕ) : Type 0 where
  of_entry : Lowest (bad_entry ws ms list) (min 256 (length list)) k → EntryAt ws ms list k
  too_many : Sound (bad_entry ws ms list) (min 256 (length list)) → 256 < length list → k ≡ 256 → EntryAt ws ms list k

-- 9 is not due
pub record ListSound (ws ms list : List ℕ) : Type 0 where
  pub each : Sound (bad_entry ws ms list) (length list)
  pub few : length list ≤ 256

-- in order: 1, 2, 3, 7, then 9
abbrev pub IndexDue : Bool → List ℕ → List ℕ → List ℕ → Result ⊤ IndexRefusal → Type 0
IndexDue misfit ws ms list (Ok _) = LaidSound misfit ws ms × ListSound ws ms list
IndexDue misfit ws ms list (Err (Plain a)) = LaidRefused misfit ws ms a
IndexDue misfit ws ms list (Err (BadEntry k)) = LaidSound misfit ws ms × EntryAt ws ms list k
