-- The yes or no exactly by the list: yes if every node and the question are of the profile; else the place is the lowest node that is not, or n.
use Rattle.std.specs.Prelude.{◌≡◌, refl, Bool, true, false, not, List, ℕ, ◌<◌, Float, Option, None, Some}
use Rattle.std.proofs.Common.{ap, arith}
use Rattle.std.proofs.lemmas.Bool.{not-false}
use Rattle.steps.specs.Scan.{first_of}
use Rattle.steps.specs.Page.{nodes_in}
use Rattle.steps.specs.declared.LayoutInput.{LayoutInput}
use Rattle.tables.specs.Refusals.{Lowest}
use Rattle.tables.proofs.ScanLaws.{at_first, first-nowhere, nowhere-first}
use Rattle.profile.specs.Profile.{of_profile, outside, whole_question, else_at, profile_spot}

-- every node is of the profile
abbrev pub NodesIn : List ℕ → List Float → Type 0
NodesIn ws xs = (i : ℕ) → i < nodes_in ws → of_profile ws xs i ≡ true

-- node k is the lowest that is not
abbrev pub LowestOutside : List ℕ → List Float → ℕ → Type 0
LowestOutside ws xs k = Lowest (outside ws xs) (nodes_in ws) k

told_in : (ws : List ℕ) (xs : List Float) (i : ℕ) → outside ws xs i ≡ false → of_profile ws xs i ≡ true
unfolding outside
told_in ws xs i e = not-false (of_profile ws xs i) e

pub in_told : (ws : List ℕ) (xs : List Float) (i : ℕ) → of_profile ws xs i ≡ true → outside ws xs i ≡ false
unfolding outside
in_told ws xs i e = ap not e

spot_yes : (s : Option ℕ) (b : Bool) (n : ℕ) → else_at s b n ≡ None → (s ≡ None) × (b ≡ true)
unfolding else_at
spot_yes None true n e = (refl, refl)
spot_yes None false n e = (refl, cc)
spot_yes (Some k) b n e = (e, cc)

yes_spot : (s : Option ℕ) (b : Bool) (n : ℕ) → s ≡ None → b ≡ true → else_at s b n ≡ None
unfolding else_at
yes_spot s b n e f = rw (e, f)

-- yes, exactly if
pub yes_told : (ws : List ℕ) (xs : List Float) (q : LayoutInput) → profile_spot ws xs q ≡ None → NodesIn ws xs × (whole_question q ≡ true)
unfolding profile_spot
yes_told ws xs q e =
    let s = spot_yes (first_of (outside ws xs) (nodes_in ws)) (whole_question q) (nodes_in ws) e in
    ((λ i l. told_in ws xs i (first-nowhere (outside ws xs) (nodes_in ws) s.0 i l)), s.1)

pub told_yes : (ws : List ℕ) (xs : List Float) (q : LayoutInput) → NodesIn ws xs → whole_question q ≡ true → profile_spot ws xs q ≡ None
unfolding profile_spot
told_yes ws xs q h e = yes_spot (first_of (outside ws xs) (nodes_in ws)) (whole_question q) (nodes_in ws) (nowhere-first (outside ws xs) (nodes_in ws) (λ i l. in_told ws xs i (h i l))) e

-- no at a node: the lowest that is not of the profile
node_spot : (s : Option ℕ) (b : Bool) (n k : ℕ) → s ≡ Some k → else_at s b n ≡ Some k
unfolding else_at
node_spot s b n k e = rw e

pub node_no : (ws : List ℕ) (xs : List Float) (q : LayoutInput) (k : ℕ) → LowestOutside ws xs k → profile_spot ws xs q ≡ Some k
unfolding profile_spot
node_no ws xs q k l = node_spot (first_of (outside ws xs) (nodes_in ws)) (whole_question q) (nodes_in ws) k (at_first (outside ws xs) (nodes_in ws) k l)

-- no at n: the question alone is not
pub asked_spot : (s : Option ℕ) (b : Bool) (n : ℕ) → s ≡ None → b ≡ false → else_at s b n ≡ Some n
unfolding else_at
asked_spot s b n e f = rw (e, f)

-- and a place below n is such a node
pub spot_node : (s : Option ℕ) (b : Bool) (n k : ℕ) → else_at s b n ≡ Some k → k < n → s ≡ Some k
unfolding else_at
spot_node (Some j) b n k e l = e
spot_node None true n k e l = cc
spot_node None false n k e l =
    let z : n ≡ k = cc in
    absurd (omega (arith, z, l))
