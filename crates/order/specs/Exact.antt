-- The yes is given exactly if every node is steady: for any words and numbers, tables that a layout refuses too.
use Rattle.std.specs.Prelude.{◌≡◌, true, List, ℕ, ◌<◌, Float}
use Rattle.std.proofs.Math.Path.{ap}
use Rattle.std.proofs.Math.Bool.{false, not}
use Rattle.std.proofs.Common.{arith}
use borrow.Author.Tests.{not-true, not-false}
use Rattle.style.specs.Style.{style_at}
use Rattle.steps.specs.Page.{nodes_in}
use Rattle.tables.proofs.ScanLaws.{is_none, not_some}
use Rattle.tables.proofs.Exactly.{Exactly}
use Rattle.order.specs.Class.{steady, unsteady, keeps_order}

module _ (ws : List ℕ) (xs : List Float) where
  pub node-steady : keeps_order ws xs ≡ true → (i : ℕ) → i < nodes_in ws → steady (style_at ws i xs i) ≡ true
  unfolding keeps_order unsteady
  node-steady k i l = not-false _ (not_some (unsteady ws xs) (nodes_in ws) (not-true _ k) i l)

  all-steady : ((i : ℕ) → i < nodes_in ws → steady (style_at ws i xs i) ≡ true) → keeps_order ws xs ≡ true
  unfolding keeps_order unsteady
  all-steady h = ap not (is_none (unsteady ws xs) (λ _. true) false (nodes_in ws) 0 (λ i a b. ap not (h i (omega arith))))

  pub yes_exactly : Exactly (keeps_order ws xs ≡ true) ((i : ℕ) → i < nodes_in ws → steady (style_at ws i xs i) ≡ true)
  yes_exactly = record { only = node-steady; given = all-steady }
