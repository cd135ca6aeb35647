-- The yes or no exactly by the list: yes if every node and the question are of the profile; else the place is the lowest node that is not, or n.
use Rattle.std.specs.Prelude.{◌≡◌, false, List, ℕ, ◌<◌, Float, Some}
use Rattle.steps.specs.Scan.{first_of}
use Rattle.steps.specs.Page.{nodes_in}
use Rattle.steps.specs.declared.LayoutInput.{LayoutInput}
use Rattle.tables.proofs.ScanLaws.{first-at, nowhere-first}
use Rattle.profile.specs.Profile.{outside, whole_question, profile_spot}
use Rattle.profile.specs.Exact.{NodesIn, LowestOutside, in_told, asked_spot, spot_node}

pub question_no : (ws : List ℕ) (xs : List Float) (q : LayoutInput) → NodesIn ws xs → whole_question q ≡ false → profile_spot ws xs q ≡ Some (nodes_in ws)
unfolding profile_spot
question_no ws xs q h e = asked_spot (first_of (outside ws xs) (nodes_in ws)) (whole_question q) (nodes_in ws) (nowhere-first (outside ws xs) (nodes_in ws) (λ i l. in_told ws xs i (h i l))) e

pub no_node : (ws : List ℕ) (xs : List Float) (q : LayoutInput) (k : ℕ) → profile_spot ws xs q ≡ Some k → k < nodes_in ws → LowestOutside ws xs k
unfolding profile_spot
no_node ws xs q k e l = first-at (outside ws xs) (nodes_in ws) k (spot_node (first_of (outside ws xs) (nodes_in ws)) (whole_question q) (nodes_in ws) k e l)
