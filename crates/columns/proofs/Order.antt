-- The two orders of the numbers, how one becomes the other, and the lookup: read field by field, a node has the number that it had node by node.
use Rattle.std.specs.Prelude.{◌≡◌, refl, Bool, true, false, List, ℕ, ◌*◌, ◌-◌, ◌/◌, ◌<◌, ◌≤◌, length, get_or, ltb, Float}
use Rattle.std.proofs.Common.{sym, ap, ◌∙◌, arith, ltb-true, ltb-false}
use Rattle.std.proofs.Math.ListN.{get_or-eq_default}
use Rattle.geometry.specs.Geometry.{zero_f}
use Rattle.style.specs.Style.{plane_of, number_place, number_at}
use Rattle.style.specs.Planes.{place_within, number_in, number_past}
use Rattle.columns.specs.Order.{by_row, field_at, by_column, remade_long, remade_in, at_place}

-- ---- the lookup
-- as many numbers as before
pub as_long : (os : List Float) → length (by_column os) ≡ length os
unfolding by_column
as_long os = remade_long (field_at os) os

pub planes_stay : (os : List Float) → plane_of (by_column os) ≡ plane_of os
planes_stay os = ap (λ (k : ℕ). k / 28) (as_long os)

moved : (os : List Float) (i f : ℕ) → i < plane_of os → f < 28 → get_or (by_column os) (number_place (plane_of os) i f) zero_f ≡ by_row os i f
unfolding by_column
moved os i f h g = remade_in (field_at os) os (number_place (plane_of os) i f) (place_within h g) ∙ at_place os i f h

-- The lookup, over the field, for any number of nodes and any node, past the last one too.
pub lookup : (n : ℕ) (os : List Float) (i f : ℕ) → length os ≡ 28 * n → f < 28 → number_at (by_column os) i f ≡ by_row os i f
lookup n os i f e g = go (ltb i (plane_of os)) refl
  where
    go : (b : Bool) → ltb i (plane_of os) ≡ b → number_at (by_column os) i f ≡ by_row os i f
    go true t =
        let h : i < plane_of os = ltb-true i (plane_of os) t in
        number_in (by_column os) i f (rw (planes_stay os) h) ∙ ap (λ (p : ℕ). get_or (by_column os) (number_place p i f) zero_f) (planes_stay os) ∙ moved os i f h g
    go false t =
        let h : plane_of os ≤ i = ltb-false i (plane_of os) t in
        number_past (by_column os) i f (rw (planes_stay os) h) ∙ sym (get_or-eq_default os zero_f (omega arith))
