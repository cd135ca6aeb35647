-- Refusal 2 in plain words: children, ancestors and depth, read off the sizes of the runs.
use Rattle.std.specs.Prelude.{◌≡◌, List, ℕ, suc, ◌<◌}
use Rattle.style.specs.Codes.{code_at}
use Rattle.style.specs.Style.{word_at}
use Rattle.steps.specs.Page.{nodes_in}
use Rattle.steps.specs.Noes.{end_at}

-- i is a child of j: it lies in j's run, and is next after j or right after the run of another child of j
pub data Child (ws : List ℕ) (j : ℕ) : ℕ → Type 0 where
  first : (i : ℕ) → i ≡ suc j → i < end_at ws j → Child ws j i
  next : (i k : ℕ) → Child ws j k → i ≡ end_at ws k → i < end_at ws j → Child ws j i

-- j is an ancestor of i: its parent, or the parent of an ancestor
pub data Ancestor (ws : List ℕ) (i : ℕ) : ℕ → Type 0 where
  parent : (j : ℕ) → Child ws j i → Ancestor ws i j
  further : (j k : ℕ) → Child ws j k → Ancestor ws i k → Ancestor ws i j

-- node i stands at depth d: the root at 1, a child one deeper than its parent
pub data Depth (ws : List ℕ) : ℕ → ℕ → Type 0 where
  root : Depth ws 0 1
  below : (j i d : ℕ) → Depth ws j d → Child ws j i → Depth ws i (suc d)

-- node i is at fault: a root whose size is not n, no size, past its parent's end, a leaf above size 1, a depth over 32
pub data TreeFault (ws : List ℕ) (i : ℕ) : Type 0 where
  root_size_lem : i ≡ 0 → (word_at ws i 0 ≡ nodes_in ws → ⊥) → TreeFault ws i
  no_size : word_at ws i 0 ≡ 0 → TreeFault ws i
  past_parent : (j : ℕ) → Child ws j i → end_at ws j < end_at ws i → TreeFault ws i
  leaf_size : code_at (word_at ws i 1) 0 ≡ 1 → 1 < word_at ws i 0 → TreeFault ws i
  too_deep : (d : ℕ) → Depth ws i d → 32 < d → TreeFault ws i

-- node i is at fault, and no lower node is
pub record LowestFault (ws : List ℕ) (i : ℕ) : Type 0 where
  pub within : i < nodes_in ws
  pub fault : TreeFault ws i
  pub lower : (j : ℕ) → j < i → TreeFault ws j → ⊥
