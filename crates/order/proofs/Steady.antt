-- What a steady node brings to the steps, where refusal 4 is not given. Assumes nothing.
use Rattle.std.specs.Prelude.{◌≡◌, Bool, true, cond, List, ℕ, ◌<◌, Float, Option}
use Rattle.std.proofs.Math.Path.{refl}
use Rattle.std.proofs.Common.{sym, ap, ◌∙◌, arith}
use Rattle.std.proofs.Math.Bool.{false}
use Rattle.std.specs.Float.Ieee.{neg}
use borrow.Author.Tests.{not-false}
use Rattle.geometry.specs.Geometry.{zero_f, plus}
use Rattle.limits.specs.Limits.{in_range}
use Rattle.limits.specs.Bools.{and_fst, and_snd, or_left, or_right}
use Rattle.length.specs.Length.{resolved_or_zero, resolved_rect}
use Rattle.style.specs.Codes.{unit_of}
use Rattle.style.specs.Style.{word_at, number_at, length_at, rect_at, measure_at, style_at}
use Rattle.steps.specs.Scan.{some}
use Rattle.steps.specs.Noes.{bad_field, bad_pixels, bad_numbers, bad_ratio, signed, most_pixels, most_of}
use Rattle.tables.proofs.ScanLaws.{not_some}
use Rattle.sums.specs.Solid.{Solid, add_solid}
use Rattle.order.specs.Class.{fair, whole, still, fair_down, whole_down, steady}
use Rattle.order.specs.Steady.{Steady, fair_number, whole_number, still_offset, unshifted_none, range_solid}

module _ (ws : List ℕ) (xs : List Float) (i : ℕ) (good : bad_numbers ws xs i ≡ false) where
  abbrev unit_at : ℕ → ℕ
  unit_at f = unit_of (word_at ws i 2) (word_at ws i 3) f

  abbrev bad_at : ℕ → Bool
  bad_at f = bad_field f (unit_at f) (number_at xs i f)

  -- a field that may not be negative
  unsigned-solid : (f : ℕ) → f < 22 → signed f ≡ false → Solid (number_at xs i f)
  unfolding bad_numbers bad_field
  unsigned-solid f l e =
      let g : bad_at f ≡ false = not_some bad_at _ (or_left (some bad_at _) _ good) f l in
      range_solid (number_at xs i f) (most_of (unit_at f)) (ap (λ (b : Bool). in_range (number_at xs i f) (cond b (neg (most_of (unit_at f))) zero_f) (most_of (unit_at f))) (sym e) ∙ not-false _ g)

  -- a leaf's height
  text-solid : Solid (measure_at ws i xs i).height
  unfolding bad_numbers measure_at
  text-solid =
      let h1 = or_right (some bad_at _) _ good in
      let h2 = or_right (bad_ratio (number_at xs i 22)) _ h1 in
      let h3 = or_right (bad_pixels (number_at xs i 23)) _ h2 in
      let h4 = or_right (bad_pixels (number_at xs i 24)) _ h3 in
      let h5 = or_right (bad_pixels (number_at xs i 25)) _ h4 in
      range_solid (number_at xs i 26) most_pixels (not-false _ (or_left (bad_pixels (number_at xs i 26)) _ h5))

  field-solid : (f : ℕ) (b : Option Float) → f < 22 → signed f ≡ false → whole (length_at ws i xs i f) ≡ true → Solid (resolved_or_zero (length_at ws i xs i f) b)
  unfolding length_at
  field-solid f b l e h = whole_number (unit_at f) (number_at xs i f) b h (unsigned-solid f l e)

  pub steady-at : steady (style_at ws i xs i) ≡ true → Steady (style_at ws i xs i)
  unfolding steady fair_down whole_down style_at rect_at plus resolved_rect signed
  steady-at h =
      let s = style_at ws i xs i in
      let m = and_fst (fair_down s.margin) _ h in
      let h1 = and_snd (fair_down s.margin) _ h in
      let p = and_fst (whole_down s.padding) _ h1 in
      let h2 = and_snd (whole_down s.padding) _ h1 in
      let d = and_fst (whole_down s.border) _ h2 in
      let h3 = and_snd (whole_down s.border) _ h2 in
      record {
        above = λ b. fair_number s.margin.top b (and_fst (fair s.margin.top) _ m);
        under = λ b. fair_number s.margin.bottom b (and_snd (fair s.margin.top) _ m);
        floor =
            λ b.
            add_solid _ _ (add_solid _ _ (field-solid 10 b (omega arith) refl (and_fst (whole s.padding.top) _ p)) (field-solid 14 b (omega arith) refl (and_fst (whole s.border.top) _ d)))
            (add_solid _ _ (field-solid 12 b (omega arith) refl (and_snd (whole s.padding.top) _ p)) (field-solid 16 b (omega arith) refl (and_snd (whole s.border.top) _ d)));
        offset = λ j rtl b g. still_offset s.position j rtl b g (and_fst (still s.position) _ h3);
        shift = λ free. unshifted_none s.align s.safe free (and_snd (still s.position) _ h3);
        text = text-solid.1;
      }
