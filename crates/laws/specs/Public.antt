-- Demand 3 carried to tables: trees parsed from them, and the results of the public calls.
use Rattle.steps.specs.declared.Refusal.{Refusal}
use Rattle.std.specs.Prelude.{◌≡◌, ℕ, Float, Result, Ok, ⊤}
use mathlib.Core.List.{List, []}
use Rattle.tree.specs.Tree.{Tree}
use Rattle.steps.specs.Row.{Row}
use Rattle.steps.specs.Page.{page_of}
use Rattle.steps.specs.Layout.{fresh}
use Rattle.steps.specs.Results.{rows_out, marks_out, replied, tested}
use Rattle.steps.specs.declared.LayoutInput.{LayoutInput}
use Rattle.laws.specs.Tables.{Sound}

-- rows and marks that are those of a fresh layout of a page
pub record FreshRows (ws : List ℕ) (xs : List Float) (q : LayoutInput) (rs : List Float) (ms : List ℕ) : Type 0 where
  pub sound : Sound ws xs
  pub rows : rs ≡ rows_out (fresh (page_of ws xs []) q).rows
  pub marks : ms ≡ marks_out (fresh (page_of ws xs []) q).rows

pub reply_same : (t s : Result ⊤ Refusal) (m n : ℕ) (a b : Tree Row) (rs : List Float) (ms cw : List ℕ) (cx : List Float) → t ≡ Ok tt → s ≡ Ok tt → m ≡ n → a ≡ b
    → tested t (replied m a rs ms cw cx) rs ms cw cx ≡ tested s (replied n b rs ms cw cx) rs ms cw cx
reply_same t s m n a b rs ms cw cx p q r e = rw (p, q, r, e)
