-- The tests of a call that is lent words, rows and marks alone: 1, then 2 and 3 by the words, then 7.
use Rattle.steps.specs.declared.Refusal.TheVariants.{Lengths, Tree, Codes, Numbers, Room, Edits, NotLaid, TooLarge}
use Rattle.steps.specs.declared.Refusal.{Refusal}
use Rattle.std.specs.Prelude.{◌≡◌, Bool, true, false, not, ◌||◌, List, ℕ, ◌*◌, length, get_or, eqb, ltb, Float, Result, Ok, Err, ⊤}
use Rattle.style.specs.Codes.{flag_at}
use Rattle.steps.specs.Page.{nodes_in}
use Rattle.steps.specs.Noes.{bad_rows, bad_tree, bad_codes, refuse_if, and_then, no2, no3_by, no7}
use Rattle.tables.specs.Refusals.{Lowest, Sound}

-- 1: no node, over 1,024, or not 4n words
unfoldable pub bad_words : List ℕ → Bool
bad_words ws = eqb (nodes_in ws) 0 || (ltb 1024 (nodes_in ws) || not (eqb (length ws) (4 * nodes_in ws)))

-- the tests in order, given whether 1 is due
unfoldable pub laid_tested : Bool → List ℕ → List ℕ → Result ⊤ Refusal
laid_tested misfit ws ms = and_then (refuse_if misfit Lengths) (and_then (no2 ws) (and_then (no3_by (bad_codes ws) ws) (no7 ms)))

-- 1 with rows and marks alone
unfoldable pub rows_tested : List ℕ → List Float → List ℕ → Result ⊤ Refusal
rows_tested ws rs ms = laid_tested (bad_words ws || bad_rows ws rs ms) ws ms

-- none of them is due
pub record LaidSound (misfit : Bool) (ws ms : List ℕ) : Type 0 where
  pub lengths : misfit ≡ false
  pub tree : Sound (bad_tree ws) (nodes_in ws)
  pub codes : Sound (bad_codes ws) (nodes_in ws)
  pub root : flag_at (get_or ms 1 0) 0 ≡ true

-- what each is given for
abbrev pub LaidRefused : Bool → List ℕ → List ℕ → Refusal → Type 0
LaidRefused misfit ws ms Lengths = misfit ≡ true
LaidRefused misfit ws ms (Tree i) = (misfit ≡ false) × Lowest (bad_tree ws) (nodes_in ws) i.0
LaidRefused misfit ws ms (Codes i) = (misfit ≡ false) × Sound (bad_tree ws) (nodes_in ws) × Lowest (bad_codes ws) (nodes_in ws) i.0
LaidRefused misfit ws ms NotLaid = (misfit ≡ false) × Sound (bad_tree ws) (nodes_in ws) × Sound (bad_codes ws) (nodes_in ws) × (flag_at (get_or ms 1 0) 0 ≡ false)
LaidRefused misfit ws ms (Numbers k) = ⊥
LaidRefused misfit ws ms Room = ⊥
LaidRefused misfit ws ms (Edits k) = ⊥
LaidRefused misfit ws ms (TooLarge i) = ⊥

abbrev pub LaidDue : Bool → List ℕ → List ℕ → Result ⊤ Refusal → Type 0
LaidDue misfit ws ms (Ok _) = LaidSound misfit ws ms
LaidDue misfit ws ms (Err a) = LaidRefused misfit ws ms a
