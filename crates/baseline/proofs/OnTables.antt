-- Both theorems of lent tables: what holds where no style word has bit 16, and where each baseline comes from.
use Rattle.std.specs.Prelude.{◌≡◌, false, List, [], ℕ, ◌<◌, Float}
use Rattle.std.proofs.Common.{ap, ◌∙◌}
use Rattle.style.specs.Codes.{flag_at}
use Rattle.style.specs.Style.{word_at}
use Rattle.tree.specs.Tree.{Tree, map_t}
use Rattle.steps.specs.Page.{Site, nodes_in, page_of}
use Rattle.steps.specs.Layout.{fresh}
use Rattle.steps.specs.declared.LayoutInput.{LayoutInput}
use Rattle.baseline.specs.Unlined.{unsaid}
use Rattle.baseline.specs.Others.{unlined_site}
use Rattle.baseline.proofs.Others.{other_words}
use Rattle.baseline.specs.Carried.{SaysT}
use Rattle.baseline.proofs.Found.{from_a_leaf}
use Rattle.baseline.specs.OnTables.{page_same, none_page}

-- Tables without bit 16: number 15 and bit 9 of every row are zero, so all there is stands in the other words.
pub no_baseline_on_tables : (ws : List ℕ) (xs : List Float) (q : LayoutInput) → 0 < nodes_in ws → ((i : ℕ) → i < nodes_in ws → flag_at (word_at ws i 1) 16 ≡ false)
    → map_t unsaid (fresh (page_of ws xs []) q).rows ≡ (fresh (page_of ws xs []) q).rows
no_baseline_on_tables ws xs q p h = (other_words (page_of ws xs []) q).same_rows ∙ ap (λ (t : Tree Site). (fresh t q).rows) (page_same (page_of ws xs []) (none_page ws xs [] p h))

-- Any tables: the other words are those of the page without bit 16, which is what a layout left before there were baselines.
pub others_on_tables : (ws : List ℕ) (xs : List Float) (q : LayoutInput) → map_t unsaid (fresh (page_of ws xs []) q).rows ≡ (fresh (map_t unlined_site (page_of ws xs [])) q).rows
others_on_tables ws xs q = (other_words (page_of ws xs []) q).same_rows

-- Any tables: each baseline of a row is that of a leaf at or below its node, moved by places.
pub from_a_leaf_on_tables : (ws : List ℕ) (xs : List Float) (q : LayoutInput) → SaysT (page_of ws xs []) (fresh (page_of ws xs []) q).rows
from_a_leaf_on_tables ws xs q = from_a_leaf (page_of ws xs []) q
