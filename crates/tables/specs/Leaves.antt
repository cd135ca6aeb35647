-- Leaves have no children.
use Rattle.std.specs.Prelude.{◌≡◌, Bool, true, ℕ, eqb}
use Rattle.style.specs.Codes.{code_at}
use Rattle.tree.specs.Tree.{Tree, Forest, node, none, more}

-- a style word of kind 1
abbrev pub leaf_word : ℕ → Bool
leaf_word style = eqb (code_at style 0) 1

-- p says which labels are leaves'
unfoldable mutual
  pub LeavesT : {A : Type 0} → (A → Bool) → Tree A → Type 0
  LeavesT p (node a ks) = (p a ≡ true → ks ≡ none) × LeavesF p ks

  pub LeavesF : {A : Type 0} → (A → Bool) → Forest A → Type 0
  LeavesF p none = Unit {0}
  LeavesF p (more t ts) = LeavesT p t × LeavesF p ts
