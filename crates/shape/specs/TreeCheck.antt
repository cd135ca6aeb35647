-- What the tree check hands down: a part of the words, and where it stands among the runs of the nodes before it.
use Rattle.tree.specs.declared.NodeId.{NodeId}
use Rattle.std.specs.Prelude.{◌≡◌, Bool, ◌&&◌, ◌||◌, List, ℕ, ◌+◌, ◌<◌, ◌≤◌, eqb, ltb, Option, None}
use Rattle.style.specs.Codes.{code_at}
use Rattle.style.specs.Style.{word_at}
use Rattle.steps.specs.Scan.{scan, at_node, how_many}
use Rattle.steps.specs.Page.{nodes_in}
use Rattle.steps.specs.Noes.{end_at, holds, bad_tree}

-- 2, of a node below the root: its size, its style word, the nodes from here to the end of its parent's run, the depth left
unfoldable pub node_fault : ℕ → ℕ → ℕ → ℕ → Bool
node_fault size style room depth = eqb size 0 || (ltb room size || ((eqb (code_at style 0) 1 && ltb 1 size) || eqb depth 0))

-- Place i, in a parent's run that ends at e: each run that holds i ends at e or later, one ends at e, and with the depth left their number is 32.
pub record Front (ws : List ℕ) (i e depth : ℕ) : Type 0 where
  pub around : (j : ℕ) → j < i → i < end_at ws j → e ≤ end_at ws j
  pub parent : ℕ
  pub before : parent < i
  pub ends : end_at ws parent ≡ e
  pub levels : i < e → how_many (holds ws i) i + depth ≡ 32

-- the part of the words that starts at node b
abbrev pub PartOf : List ℕ → ℕ → List ℕ → Type 0
PartOf ws b part = (k m : ℕ) → k < nodes_in part → m < 4 → word_at part k m ≡ word_at ws (b + k) m

-- the answer for a part: the lowest of its nodes that is at fault in the whole table
abbrev pub CheckedPart : List ℕ → ℕ → ℕ → Option NodeId → Type 0
CheckedPart part b depth r = (ws : List ℕ) → PartOf ws b part → Front ws b (b + nodes_in part) depth → r ≡ scan (bad_tree ws) at_node None b (nodes_in part)
