-- The candidate list of the public calls: at exit of an accepted layout or relayout the records name exactly the page's asides, in preorder, and the count is what refusal 5 asks room for.
use Rattle.std.specs.Prelude.{◌≡◌, refl, ℕ, length, Float}
use Rattle.std.proofs.Common.{sym, ap, ◌∙◌}
use mathlib.Core.List.{List, [], map, Memᴰ}
use Rattle.tree.specs.Tree.{map_t}
use Rattle.tree.proofs.Laws.{map_map_t}
use Rattle.steps.specs.Page.{Cell, named, site_at, nodes_in, page_of, cells_of, blank}
use Rattle.steps.specs.Candidates.{Candidate, candidate_words, candidate_numbers, needed}
use Rattle.steps.specs.Results.{listed, on_front}
use Rattle.tables.proofs.GoodPage.{parse-relabel, page_of_cells}
use Rattle.tables.proofs.Exactly.{Exactly}
use Rattle.laws.specs.Final.{unmarked}
use Rattle.laws.specs.Afresh.{site_in}
use Rattle.listing.specs.Asides.{asides}
use Rattle.listing.specs.Members.{Aside, Grows}

-- the node numbers of records
abbrev pub nodes_of : List Candidate → List ℕ
nodes_of l = map (λ (c : Candidate). c.node) l

-- records that a call left in lent memory: they name the page's asides, in plain words and in preorder; they are as many as needed, and stand at the front of what was lent
pub record Lists (ws : List ℕ) (xs : List Float) (count : ℕ) (cw : List ℕ) (cx : List Float) (cw' : List ℕ) (cx' : List Float) : Type 0 where
  pub records : List Candidate
  pub nodes : nodes_of records ≡ asides (page_of ws xs [])
  pub exact : (i : ℕ) → Exactly (Memᴰ i (nodes_of records)) (Aside ws i)
  pub grow : Grows 1 (nodes_in ws) (nodes_of records)
  pub counted : count ≡ length records
  pub as_needed : count ≡ needed (page_of ws xs [])
  pub words : cw' ≡ on_front (listed candidate_words records) cw
  pub numbers : cx' ≡ on_front (listed candidate_numbers records) cx

-- a page's tree by its words and numbers alone
unmark : (ws : List ℕ) (xs : List Float) (es : List ℕ) → map_t unmarked (page_of ws xs es) ≡ page_of ws xs []
unfolding page_of site_at named
unmark ws xs es = sym (parse-relabel unmarked (site_at ws xs es 0) (site_at ws xs [] 0) (λ i. refl) (nodes_in ws))

pub blank_page : (ws : List ℕ) (xs : List Float) → map_t site_in (map_t blank (page_of ws xs [])) ≡ page_of ws xs []
unfolding blank
blank_page ws xs = map_map_t site_in blank (page_of ws xs []) ∙ unmark ws xs []

pub cells_page : (ws : List ℕ) (xs rs : List Float) (ms es : List ℕ) → map_t site_in (cells_of ws xs rs ms es) ≡ page_of ws xs []
cells_page ws xs rs ms es = sym (map_map_t unmarked (λ (c : Cell). c.site) (cells_of ws xs rs ms es)) ∙ ap (map_t unmarked) (sym (page_of_cells ws xs rs ms es)) ∙ unmark ws xs es
