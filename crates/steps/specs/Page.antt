-- A page: what the lent tables say of each node.
use Rattle.std.specs.Prelude.{Bool, true, false, ◌||◌, List, [], ◌∷◌, ℕ, zero, suc, ◌+◌, ◌*◌, ◌/◌, length, eqb, Float}
use Rattle.style.specs.Style.{word_at, style_at}
use Rattle.style.specs.declared.Style.{Style}
use Rattle.tree.specs.Tree.{Tree, Forest, node, none, more, map_t}
use Rattle.tree.specs.Table.{Entry, parse_t}
use Rattle.steps.specs.Row.{Row, ProbeWords, row_at, no_row, no_probe, probe_of}

-- a node of the page: its number, its style, and whether the edit list names it
pub record Site : Type 0 where
  pub node : ℕ
  pub style : Style
  pub edit : Bool

-- a node with its old row
pub record Cell : Type 0 where
  pub site : Site
  pub old : Row

-- a node after the width pass: its probe words of this time, and whether it was probed anew
pub record Node : Type 0 where
  pub site : Site
  pub old : Row
  pub probe : ProbeWords
  pub anew : Bool

-- the edit list names node i
unfoldable pub named : List ℕ → ℕ → Bool
named [] i = false
named (e ∷ es) i = eqb e i || named es i

-- some label of a tree is such
unfoldable mutual
  pub any_t : {A : Type 0} → (A → Bool) → Tree A → Bool
  any_t p (node a ks) = p a || any_f p ks

  pub any_f : {A : Type 0} → (A → Bool) → Forest A → Bool
  any_f p none = false
  any_f p (more t ts) = any_t p t || any_f p ts

-- The k-th node of a run of words whose first node has the number b.
unfoldable pub site_at : List ℕ → List Float → List ℕ → ℕ → ℕ → Entry Site
site_at ws xs es b k = record { size = word_at ws k 0; label = record { node = b + k; style = style_at ws k xs (b + k); edit = named es (b + k) } }

-- node i of the whole tables with its old row
unfoldable pub cell_at : List ℕ → List Float → List Float → List ℕ → List ℕ → ℕ → Entry Cell
cell_at ws xs rs ms es i = record { size = (site_at ws xs es 0 i).size; label = record { site = (site_at ws xs es 0 i).label; old = row_at rs ms i } }

-- n is words/4, floored
abbrev pub nodes_in : List ℕ → ℕ
nodes_in ws = length ws / 4

-- the page's tree, and the page with its old rows
unfoldable pub page_of : List ℕ → List Float → List ℕ → Tree Site
page_of ws xs es = parse_t (site_at ws xs es 0) (nodes_in ws)

unfoldable pub cells_of : List ℕ → List Float → List Float → List ℕ → List ℕ → Tree Cell
cells_of ws xs rs ms es = parse_t (cell_at ws xs rs ms es) (nodes_in ws)

-- a page with nothing kept
unfoldable pub blank : Site → Cell
blank s = record { site = s; old = no_row }

-- a node that is not probed, and one whose probe words stay
unfoldable pub cleared : Cell → Node
cleared l = record { site = l.site; old = l.old; probe = no_probe; anew = false }

unfoldable pub staying : Cell → Node
staying l = record { site = l.site; old = l.old; probe = probe_of l.old; anew = false }

-- a node probed anew
unfoldable pub probed_anew : Cell → ProbeWords → Node
probed_anew l p = record { site = l.site; old = l.old; probe = p; anew = true }

unfoldable pub edits : Cell → Bool
edits l = l.site.edit
