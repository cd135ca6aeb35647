-- Demand 3: what is promised of a relayout, in trees and of the public calls. The proofs are in the other files.
-- What is supposed stands in Pages (one page as it was and as it is), Below (two pages, and what lies below kept nodes) and Tables (lent tables, chains of calls).
use Rattle.std.specs.Prelude.{◌≡◌}
use Rattle.tree.specs.Tree.{Tree, map_t}
use Rattle.steps.specs.Row.{Row, no_row}
use Rattle.steps.specs.Page.{Site, Cell}
use Rattle.steps.specs.Layout.{relaid, fresh}
use Rattle.steps.specs.declared.LayoutInput.{LayoutInput}
use Rattle.laws.specs.Trees.{AllT}
use Rattle.laws.specs.Final.{unmarked}
use Rattle.laws.specs.Pages.{Both, was_site, now_site, old_of, again, Honest, LeavesT}
use Rattle.laws.specs.Afresh as afresh

-- 0. From rows of zeros the engine gives a fresh layout, whatever the edit marks.
pub rows_of_zeros : (t : Tree Cell) (q : LayoutInput) → AllT (λ (c : Cell). c.old ≡ no_row) t → relaid t q ≡ fresh (map_t (λ (c : Cell). unmarked c.site) t) q
rows_of_zeros t q h = afresh.zero_fresh t q h

-- The same for a page whose rows are cleared: edit marks do not matter.
pub marks_do_not_matter : (t : Tree Site) (q : LayoutInput) → fresh t q ≡ fresh (map_t unmarked t) q
marks_do_not_matter t q = afresh.unmarked_fresh t q

-- 2. Chains: rows that came from a layout by relayouts, each given the rows as the last call left them, a page of the same shape, and an edit list that
-- names every node changed since. `Chain t q rows`: the last page is t, asked at q.
pub data Chain : Tree Site → LayoutInput → Tree Row → Type 0 where
  first_laid : (t : Tree Site) (q : LayoutInput) → Chain t q (fresh t q).rows
  then_laid : (t : Tree Both) (q p : LayoutInput) → Chain (map_t was_site t) q (map_t old_of t) → AllT Honest t → LeavesT (map_t now_site t) → Chain (map_t now_site t) p (relaid (map_t again t) p).rows
