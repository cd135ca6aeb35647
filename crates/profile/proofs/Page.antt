-- The profile on trees, as the steps read a style; and that tables of the profile are such a page.
use Rattle.std.specs.Prelude.{◌≡◌, true, List, [], ℕ, ◌-◌, ◌<◌, Float}
use Rattle.std.proofs.Common.{arith}
use Rattle.tree.specs.Table.{parse_t}
use Rattle.steps.specs.Page.{site_at, nodes_in, page_of}
use Rattle.profile.specs.Profile.{of_profile}
use Rattle.profile.specs.Page.{ChildProfile, ProfilePage, node_style, node_sides, site_style, all_from, all_parse}

child_in : (ws : List ℕ) (xs : List Float) (i : ℕ) → 0 < i → of_profile ws xs i ≡ true → ChildProfile (site_at ws xs [] 0 i).label
child_in ws xs i u e = record { style = rw (site_style ws xs i) (node_style ws xs i e); sides = rw (site_style ws xs i) (node_sides ws xs i u e) }

-- tables whose every node is of the profile are a page of the profile
pub page_in : (ws : List ℕ) (xs : List Float) → 0 < nodes_in ws → ((i : ℕ) → i < nodes_in ws → of_profile ws xs i ≡ true) → ProfilePage (page_of ws xs [])
unfolding page_of parse_t ProfilePage
page_in ws xs p h = (
  rw (site_style ws xs 0) (node_style ws xs 0 (h 0 p)),
  all_parse (nodes_in ws - 1) _ (all_from (site_at ws xs [] 0) 1 (nodes_in ws - 1) (λ k u v. child_in ws xs k u (h k (omega arith)))),
)
