-- 1 to 4 of a layout and of a relayout: what stands before any question of room, of edits or of the profile.
use Rattle.steps.specs.declared.Refusal.TheVariants.{Lengths}
use Rattle.steps.specs.declared.Refusal.{Refusal}
use Rattle.std.specs.Prelude.{◌||◌, List, ℕ, Float, Result, ⊤}
use Rattle.steps.specs.Noes.{bad_tables, bad_rows, refuse_if, and_then, page_tested}
use Rattle.steps.specs.declared.LayoutInput.{LayoutInput}

unfoldable pub early_tested : List ℕ → List Float → List Float → List ℕ → LayoutInput → Result ⊤ Refusal
early_tested ws xs rs ms q = and_then (refuse_if (bad_tables ws xs || bad_rows ws rs ms) Lengths) (page_tested ws xs q)
