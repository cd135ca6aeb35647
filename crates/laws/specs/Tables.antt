-- What demand 3 supposes of lent tables, and what is to be had from the tests 1 to 5.
use Rattle.std.specs.Prelude.{◌≡◌, Bool, false, List, [], ◌∷◌, ℕ, ◌<◌, get_or, Float, Ok}
use Rattle.style.specs.Codes.{code_at}
use Rattle.style.specs.Style.{word_at, number_at}
use Rattle.tree.specs.Tree.{flat_t}
use Rattle.tree.specs.Table.{entry_of, from}
use Rattle.steps.specs.Page.{named, site_at, nodes_in, page_of, cells_of}
use Rattle.steps.specs.Noes.{layout_tested}
use Rattle.steps.specs.Results.{layout_result, relayout_result}
use Rattle.steps.specs.declared.LayoutInput.{LayoutInput}
use Rattle.laws.specs.Pages.{LeavesT}
use Rattle.laws.specs.Below.{below_kept}

-- node i has the same four words and 28 numbers
pub record SameAt (ws : List ℕ) (xs : List Float) (ws' : List ℕ) (xs' : List Float) (i : ℕ) : Type 0 where
  pub words : (k : ℕ) → k < 4 → word_at ws i k ≡ word_at ws' i k
  pub numbers : (f : ℕ) → f < 28 → number_at xs i f ≡ number_at xs' i f

-- the same shape: as many nodes, the sizes of all subtrees equal
pub record SameShape (ws : List ℕ) (ws' : List ℕ) : Type 0 where
  pub nodes : nodes_in ws ≡ nodes_in ws'
  pub sizes : (i : ℕ) → i < nodes_in ws → word_at ws i 0 ≡ word_at ws' i 0

-- the edit list names every node that differs
abbrev pub Named : List ℕ → List ℕ → List Float → List ℕ → List Float → Type 0
Named es ws xs ws' xs' = (i : ℕ) → i < nodes_in ws → named es i ≡ false → SameAt ws xs ws' xs' i

-- tables that are a page: there is a node, the entries are those of the page's tree, and leaves have no children
pub record Sound (ws : List ℕ) (xs : List Float) : Type 0 where
  pub some : 0 < nodes_in ws
  pub entries : from (site_at ws xs [] 0) 0 (nodes_in ws) ≡ flat_t entry_of (page_of ws xs [])
  pub leaves : LeavesT (page_of ws xs [])

-- what the tests see to: tables that pass them are a page
pub record Checks : Type 0 where
  pub sound : (ws : List ℕ) (xs rs : List Float) (ms cw : List ℕ) (cx : List Float) (q : LayoutInput) → layout_tested ws xs rs ms cw cx q ≡ Ok tt → Sound ws xs

-- Rows that an accepted layout and accepted relayouts left, each given the rows unaltered, the same shape and an edit list that names every node changed since.
-- `Calls ws xs q rs ms`: the last tables and question, and the rows and marks at exit.
pub data Calls : List ℕ → List Float → LayoutInput → List Float → List ℕ → Type 0 where
  laid_out : (ws : List ℕ) (xs rs : List Float) (ms cw : List ℕ) (cx : List Float) (q : LayoutInput) (k : ℕ) → (layout_result ws xs rs ms cw cx q).answer ≡ Ok k
      → Calls ws xs q (layout_result ws xs rs ms cw cx q).rows (layout_result ws xs rs ms cw cx q).marks
  laid_again : (ws : List ℕ) (xs : List Float) (q : LayoutInput) (rs : List Float) (ms : List ℕ) (ws' : List ℕ) (xs' : List Float) (cw : List ℕ) (cx : List Float) (es : List ℕ) (p : LayoutInput) (k : ℕ) → Calls ws xs q rs ms
      → SameShape ws ws' → Named es ws xs ws' xs' → (relayout_result ws' xs' rs ms cw cx es p).answer ≡ Ok k
      → Calls ws' xs' p (relayout_result ws' xs' rs ms cw cx es p).rows (relayout_result ws' xs' rs ms cw cx es p).marks

-- node i lies strictly below a node that a relayout keeps, in the page of these tables
unfoldable pub below_at : List ℕ → List Float → List Float → List ℕ → List ℕ → LayoutInput → ℕ → Bool
below_at ws xs rs ms es q i = get_or (flat_t (λ _ b. b ∷ []) (below_kept (cells_of ws xs rs ms es) q)) i false

-- two pages agree in all but styles and numbers strictly below kept nodes, where they agree in kind (style bits 0-1) and position (4-5)
pub record AgreeAt (ws : List ℕ) (xs : List Float) (ws' : List ℕ) (xs' : List Float) (below : Bool) (i : ℕ) : Type 0 where
  pub same : below ≡ false → SameAt ws xs ws' xs' i
  pub kind : code_at (word_at ws i 1) 0 ≡ code_at (word_at ws' i 1) 0
  pub position : code_at (word_at ws i 1) 2 ≡ code_at (word_at ws' i 1) 2
