-- Rows that a layout or a relayout leaves: bits 0 and 2 are those of the page's styles, whatever the old rows, so the candidate list names its asides.
use Rattle.std.specs.Prelude.{◌≡◌, map, Float}
use Rattle.tree.specs.Tree.{Tree, node, map_t, map_f}
use Rattle.steps.specs.Page.{Cell, Node}
use Rattle.steps.specs.Probe.{width_pass}
use Rattle.steps.specs.Layout.{lay_t, relaid}
use Rattle.steps.specs.Candidates.{Candidate, candidates}
use Rattle.steps.specs.declared.LayoutInput.{LayoutInput}
use Rattle.laws.specs.Afresh.{site_in, site_of, sites_t}
use Rattle.tables.specs.Leaves.{LeavesT}
use Rattle.tables.proofs.GoodPage.{leaf_site}
use Rattle.listing.specs.Asides.{asides}
use Rattle.listing.proofs.Flows.{seen_nodes}
use Rattle.listing.specs.Laid.{Leafy, flows_t}

-- the records' node numbers
laid_nodes : (t : Tree Node) (q : LayoutInput) (found : Float) → Leafy t → map (λ (c : Candidate). c.node) (candidates (lay_t t q found).rows) ≡ asides (map_t site_of t)
unfolding map_t
laid_nodes (node l ks) q found g = seen_nodes (site_of l) (map_f site_of ks) (lay_t (node l ks) q found).rows (flows_t (node l ks) q found g)

-- every page whose leaves have no children, any old rows
pub relaid_nodes : (t : Tree Cell) (q : LayoutInput) → LeavesT leaf_site (map_t site_in t) → map (λ (c : Candidate). c.node) (candidates (relaid t q).rows) ≡ asides (map_t site_in t)
unfolding relaid
relaid_nodes t q g = rw (← sites_t t q) (laid_nodes (width_pass t q).nodes q (width_pass t q).found (rw (sites_t t q) g))
