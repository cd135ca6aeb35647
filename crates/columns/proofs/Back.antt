-- Every table of numbers is some table node by node put field by field: what is said of such tables is said of all.
use Rattle.std.specs.Prelude.{◌≡◌, refl, Bool, true, false, List, ℕ, ◌+◌, ◌*◌, ◌/◌, ◌%◌, ◌<◌, ◌≤◌, length, get_or, ltb, Float}
use Rattle.std.proofs.Math.Path.{ap}
use Rattle.std.proofs.Common.{◌∙◌, mod-lt, div-lt_iff_lt-mul, arith, ext_get_or, ltb-true, ltb-false}
use Rattle.geometry.specs.Geometry.{zero_f}
use Rattle.style.specs.Style.{plane_of, number_at}
use Rattle.columns.specs.Order.{by_row, field_at, by_column, remade_long, remade_in, remade_past}
use Rattle.columns.proofs.Order.{as_long}
use Rattle.columns.specs.Back.{node_at, by_node, node_place, place_of}

node_long : (xs : List Float) → length (by_node xs) ≡ length xs
unfolding by_node
node_long xs = remade_long (node_at xs) xs

put_back : (xs : List Float) (i f : ℕ) → i < plane_of xs → f < 28 → by_row (by_node xs) i f ≡ number_at xs i f
unfolding by_node
put_back xs i f h g = remade_in (node_at xs) xs (i * 28 + f) (omega arith) ∙ node_place xs i f g

module _ (xs : List Float) where
  long : plane_of (by_node xs) ≡ plane_of xs
  long = ap (λ (k : ℕ). k / 28) (node_long xs)

  within : (k : ℕ) → k < 28 * plane_of xs → get_or (by_column (by_node xs)) k zero_f ≡ get_or xs k zero_f
  unfolding by_column
  within k h =
      remade_in (field_at (by_node xs)) (by_node xs) k (rw long h)
      ∙ ap (λ (p : ℕ). by_row (by_node xs) (k % p) (k / p)) long
      ∙ put_back xs (k % plane_of xs) (k / plane_of xs) (mod-lt k (omega arith)) ((div-lt_iff_lt-mul (omega arith)).1 h)
      ∙ place_of xs k h

  past : (k : ℕ) → 28 * plane_of xs ≤ k → get_or (by_column (by_node xs)) k zero_f ≡ get_or xs k zero_f
  unfolding by_column by_node
  past k h = remade_past (field_at (by_node xs)) (by_node xs) k (rw long h) ∙ remade_past (node_at xs) xs k h

  pub every-table : by_column (by_node xs) ≡ xs
  every-table = ext_get_or zero_f (by_column (by_node xs)) xs (as_long (by_node xs) ∙ node_long xs) (λ k l. go k (ltb k (28 * plane_of xs)) refl)
    where
      go : (k : ℕ) (b : Bool) → ltb k (28 * plane_of xs) ≡ b → get_or (by_column (by_node xs)) k zero_f ≡ get_or xs k zero_f
      go k true t = within k (ltb-true k (28 * plane_of xs) t)
      go k false t = past k (ltb-false k (28 * plane_of xs) t)
