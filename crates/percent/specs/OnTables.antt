-- The two theorems of lent tables: what the tables say of each node, and what the tests before any write grant.
use Rattle.std.specs.Prelude.{◌≡◌, refl, Bool, true, false, cond, not, ◌&&◌, List, ℕ, zero, suc, eqb, Float, None, Some, is_some}
use Rattle.std.proofs.Common.{sym, ap, ◌∙◌, arith}
use Rattle.std.specs.Float.Ieee.{eq}
use Rattle.geometry.specs.Geometry.{zero_f}
use Rattle.limits.specs.Bools.{or_left, or_right}
use Rattle.style.specs.Codes.{length_of, ratio_of}
use Rattle.style.specs.Style.{number_at, length_at, size_at, rect_at, style_at}
use Rattle.steps.specs.Page.{site_at}
use Rattle.steps.specs.Noes.{fraction_at, ratio_beside_fraction, bad_style}
use Rattle.tables.proofs.ScanLaws.{never}
use Rattle.percent.specs.Parts.{is_part, NoParts, NoHeightParts}
use Rattle.percent.specs.Widths.{RatioAlone}

whole_unit : (k : ℕ) (x : Float) → eqb k 2 ≡ false → is_part (length_of k x) ≡ false
unfolding length_of
whole_unit zero x e = refl
whole_unit (suc zero) x e = refl
whole_unit (suc (suc zero)) x e = never e
whole_unit (suc (suc (suc n))) x e = refl

whole_at : (ws : List ℕ) (xs : List Float) (i f : ℕ) → fraction_at ws i f ≡ false → is_part (length_at ws i xs i f) ≡ false
unfolding length_at
whole_at ws xs i f e = whole_unit _ _ e

no_parts : (ws : List ℕ) (xs : List Float) (i : ℕ) → fraction_at ws i 1 ≡ false → fraction_at ws i 3 ≡ false → fraction_at ws i 5 ≡ false → NoParts (style_at ws i xs i)
unfolding style_at size_at
no_parts ws xs i a b c = record { size = whole_at ws xs i 1 a; min = whole_at ws xs i 3 b; max = whole_at ws xs i 5 c }

pub site_style : (ws : List ℕ) (xs : List Float) (es : List ℕ) (i : ℕ) → (site_at ws xs es 0 i).label.style ≡ style_at ws i xs i
unfolding site_at
site_style ws xs es i = ap (style_at ws i xs) (omega arith)

-- ---- no unit of fields 1, 3, 5, 18 and 20 is a fraction
pub record PlainHeights (ws : List ℕ) (i : ℕ) : Type 0 where
  pub height : fraction_at ws i 1 ≡ false
  pub min : fraction_at ws i 3 ≡ false
  pub max : fraction_at ws i 5 ≡ false
  pub top : fraction_at ws i 18 ≡ false
  pub bottom : fraction_at ws i 20 ≡ false

pub plain_at : (ws : List ℕ) (xs : List Float) (i : ℕ) → PlainHeights ws i → NoHeightParts (style_at ws i xs i)
unfolding style_at rect_at
plain_at ws xs i h = record { sizes = no_parts ws xs i h.height h.min h.max; top = whole_at ws xs i 18 h.top; bottom = whole_at ws xs i 20 h.bottom }

-- ---- refusal 3 keeps ratios and such fractions apart
ratio_told : (x : Float) → is_some (ratio_of x) ≡ true → eq x zero_f ≡ false
unfolding ratio_of
ratio_told x e = go (eq x zero_f) refl
  where
    go : (b : Bool) → eq x zero_f ≡ b → eq x zero_f ≡ false
    go false h = h
    go true h = never (sym (sym (ap (λ (b : Bool). is_some (cond b None (Some x))) h) ∙ e))

beside : (a b : Bool) → a ≡ false → (not a && b) ≡ false → b ≡ false
beside true b p e = never p
beside false b p e = e

pub alone_at : (ws : List ℕ) (xs : List Float) (i : ℕ) → bad_style ws xs i ≡ false → RatioAlone (style_at ws i xs i)
unfolding bad_style ratio_beside_fraction style_at
alone_at ws xs i e r =
    let z = ratio_told (number_at xs i 22) r in
    let a = beside (eq (number_at xs i 22) zero_f) _ z (or_left (ratio_beside_fraction ws xs i) _ e) in
    let b = or_right (fraction_at ws i 1) _ a in
    no_parts ws xs i (or_left (fraction_at ws i 1) _ a) (or_left (fraction_at ws i 3) _ b) (or_right (fraction_at ws i 3) _ b)
