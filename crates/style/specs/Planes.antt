-- Where a number stands: within the 28 planes, and which node's it is. Assumes nothing.
use Rattle.std.specs.Prelude.{◌≡◌, List, ℕ, ◌*◌, ◌%◌, ◌<◌, ◌≤◌, get_or, Float}
use Rattle.std.proofs.Math.Arith.{digits_lt, digits_mod}
use Rattle.std.proofs.Common.{lt-ltb, le-ltb}
use Rattle.geometry.specs.Geometry.{zero_f}
use Rattle.style.specs.Style.{plane_of, number_place, number_at}

pub place_within : {n i f : ℕ} → i < n → f < 28 → number_place n i f < 28 * n
place_within h g = digits_lt g h

-- the node of a place
pub place_node : {n i : ℕ} (f : ℕ) → i < n → number_place n i f % n ≡ i
place_node f h = digits_mod f h

-- what is read of a node of the table, and of none
pub number_in : (xs : List Float) (i f : ℕ) → i < plane_of xs → number_at xs i f ≡ get_or xs (number_place (plane_of xs) i f) zero_f
unfolding number_at
number_in xs i f h = rw (lt-ltb i (plane_of xs) h)

pub number_past : (xs : List Float) (i f : ℕ) → plane_of xs ≤ i → number_at xs i f ≡ zero_f
unfolding number_at
number_past xs i f h = rw (le-ltb i (plane_of xs) h)
