use mathlib.Core.Path.{◌≡◌, sym, ◌∙◌}
use native.Mathlib.Omega.{arith}
use Rattle.geometry.specs.Geometry.{zero_f}
use Rattle.lent.proofs.Reading.{get_d_any}
use Rattle.style.specs.Style.{plane_of, number_place}
use Rattle.style.specs.Planes.{place_within, number_in}
use Rattle.style.proofs.number_in.Goals as goal

pub number_place-at-requires : goal.number_place-at-requires
number_place-at-requires c = let a = c.args in
    let h = c.requires in
    omega (arith, h.0.0, place_within {n = a.n} {i = a.i} {f = a.f} h.0.1 h.1)

pub offset_bounds-numbers-at : goal.offset_bounds-numbers-at
offset_bounds-numbers-at c = let a = c.args in
    let h = c.requires in
    omega (arith, c.number_place-at.ensures, h.0.0, place_within {n = a.n} {i = a.i} {f = a.f} h.0.1 h.1)

pub bounds-numbers-at : goal.bounds-numbers-at
bounds-numbers-at c = let a = c.args in
    let h = c.requires in
    omega (arith, c.number_place-at.ensures, h.0.0, place_within {n = a.n} {i = a.i} {f = a.f} h.0.1 h.1)

pub returns : goal.returns
returns c = let a = c.args in
    let h = c.requires in
    let xs = a.numbers.now in
    let p : a.n ≡ plane_of xs = h.0.0 in
    let inside = rw p at h.0.1 in
    let at : c.number_place-at.result ≡ number_place a.n a.i a.f = c.number_place-at.ensures in
    rw (at, p) (get_d_any xs (number_place (plane_of xs) a.i a.f) _ zero_f (omega (arith, place_within {n = plane_of xs} {i = a.i} {f = a.f} inside h.1)) ∙ sym (number_in xs a.i a.f inside))
