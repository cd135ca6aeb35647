-- Every table of numbers is some table node by node put field by field: what is said of such tables is said of all.
use Rattle.std.specs.Prelude.{◌≡◌, List, ℕ, ◌+◌, ◌*◌, ◌/◌, ◌%◌, ◌<◌, get_or, Float}
use Rattle.std.proofs.Math.Path.{ap}
use Rattle.std.proofs.Common.{◌∙◌, mod-lt, div-add-mod', arith}
use Rattle.std.proofs.Math.Arith.{digits_div, digits_mod}
use Rattle.geometry.specs.Geometry.{zero_f}
use Rattle.style.specs.Style.{plane_of, number_at}
use Rattle.style.specs.Planes.{number_in}
use Rattle.columns.specs.Order.{remade}

-- numbers that stand field by field, put node by node: place k gets number k % 28 of node k / 28
abbrev pub node_at : List Float → ℕ → Float
node_at xs k = number_at xs (k / 28) (k % 28)

unfoldable pub by_node : List Float → List Float
by_node xs = remade (node_at xs) xs

-- number f of node i of the table put back
pub node_place : (xs : List Float) (i f : ℕ) → f < 28 → node_at xs (i * 28 + f) ≡ number_at xs i f
node_place xs i f g = cc (digits_div i g, digits_mod i g)

-- a place of the planes is that of a number of a node
pub place_of : (xs : List Float) (k : ℕ) → k < 28 * plane_of xs → number_at xs (k % plane_of xs) (k / plane_of xs) ≡ get_or xs k zero_f
place_of xs k h =
    number_in xs (k % plane_of xs) (k / plane_of xs) (mod-lt k (omega arith)) ∙ ap (λ (j : ℕ). get_or xs j zero_f) (div-add-mod' k (plane_of xs))
