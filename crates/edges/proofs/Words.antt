-- What it says of the words that 1 is not due, and of the table that 1 and 2 are not.
use mathlib.Core.Path.{◌≡◌}
use mathlib.Core.Bool.{false}
use mathlib.Core.List.{List}
use Prim.Native.Nat.{ℕ, ◌*◌, ◌<◌, ◌≤◌}
use native.Mathlib.Omega.{arith}
use lib.ListN.{length}
use lib.Dec.{eqb, ltb}
use borrow.Author.Tests.{ltb-false, eqb-false, eqb-true, not-false}
use Rattle.limits.specs.Bools.{or_left, or_right}
use Rattle.steps.specs.Page.{nodes_in}
use Rattle.steps.specs.Noes.{bad_tree}
use Rattle.tables.specs.Refusals.{Sound}
use Rattle.tables.specs.TreeCheck.{GoodTable}
use Rattle.tables.proofs.ScanLaws.{nowhere-lowest}
use Rattle.edges.specs.Tests.{bad_words}

pub record Worded (ws : List ℕ) : Type 0 where
  pub some : 0 < nodes_in ws
  pub few : nodes_in ws ≤ 1024
  pub long : length ws ≡ 4 * nodes_in ws

pub worded : (ws : List ℕ) → bad_words ws ≡ false → Worded ws
unfolding bad_words
worded ws e =
    let a = or_right (eqb (nodes_in ws) 0) _ e in
    let n : (nodes_in ws ≡ 0) → ⊥ = eqb-false _ _ (or_left (eqb (nodes_in ws) 0) _ e) in
    record {
      some = omega arith;
      few = ltb-false _ _ (or_left (ltb 1024 (nodes_in ws)) _ a);
      long = eqb-true _ _ (not-false _ (or_right (ltb 1024 (nodes_in ws)) _ a));
    }

pub good_words : (ws : List ℕ) → bad_words ws ≡ false → Sound (bad_tree ws) (nodes_in ws) → GoodTable ws
good_words ws e s =
    let w = worded ws e in
    record { some = w.some; few = w.few; sound = nowhere-lowest (bad_tree ws) (nodes_in ws) s }
