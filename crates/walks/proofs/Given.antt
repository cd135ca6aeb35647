-- The lengths and the children's tables of a tree that some `requires` gives.
use mathlib.Core.Path.{◌≡◌}
use mathlib.Core.List.{List}
use Prim.Native.Nat.{ℕ, suc, ◌+◌, ◌*◌, ◌-◌, ◌≤◌, ◌<◌}
use native.Mathlib.Omega.{arith}
use lib.ListN.{length, take, drop}
use lib.Ieee.{Float}
use Rattle.style.specs.Style.{plane_of}
use Rattle.tree.specs.Tree.{Tree, node, count_t, count_f, depth_t}
use Rattle.tree.proofs.Laws.{count_t_node, depth_t_node}
use Rattle.steps.specs.Page.{Cell}
use Rattle.rows.specs.Store.{OneRow, Whole}
use Rattle.walks.specs.Tables.{TabledT, IsTree, IsForest}
use Rattle.walks.proofs.Parts.{tree_facts}

pub record Facts (ws : List ℕ) (xs rs : List Float) (ms es : List ℕ) (b depth : ℕ) : Type 0 where
  pub words_some : 4 ≤ length ws
  pub rows_long : length rs ≡ 4 * length ws
  pub marks_long : 2 * length ms ≡ length ws
  pub room : OneRow rs ms
  pub whole : Whole rs ms
  pub deep : 1 ≤ depth
  pub fit : 4 * b + length ws ≤ 4096
  pub reach : b < plane_of xs
  pub kids : IsForest (take (length ws - 4) (drop 4 ws)) xs (take (length rs - 16) (drop 16 rs)) (take (length ms - 2) (drop 2 ms)) es (b + 1) (depth - 1)

module _ (ws : List ℕ) (xs rs : List Float) (ms es : List ℕ) (b depth : ℕ) where
  facts_of : (t : Tree Cell) → TabledT ws xs rs ms es b t → depth_t t ≤ depth → b + count_t t ≤ 1024 → b + count_t t ≤ plane_of xs → Facts ws xs rs ms es b depth
  facts_of (node l ks) h dp fit reach =
      let k = tree_facts ws xs rs ms es b l ks h in
      let one : count_t (node l ks) ≡ suc (count_f ks) = count_t_node l ks in
      let wl = h.words_long in
      let rl = k.rows_long in
      let ml = k.marks_long in
      let z = simp depth_t_node at dp in
      record {
        words_some = k.words_some;
        rows_long = k.rows_long;
        marks_long = k.marks_long;
        room = record { rows_some = k.rows_some; marks_some = k.marks_some };
        whole = record { n = suc (count_f ks); rows_long = omega arith; marks_long = omega arith };
        deep = omega arith;
        fit = omega arith;
        reach = omega arith;
        kids = record { forest = ks; tabled = k.kids; deep = omega arith; fit = omega arith; reach = omega arith };
      }

  pub facts : IsTree ws xs rs ms es b depth → Facts ws xs rs ms es b depth
  facts h = facts_of h.tree h.tabled h.deep h.fit h.reach
