-- Fractions of heights: where a style has none, the basis is not read.
use Rattle.geometry.specs.declared.Size.{Size}
use Rattle.std.specs.Prelude.{◌≡◌, refl, Bool, true, false, Option, Float}
use Rattle.geometry.specs.Geometry.{plus}
use Rattle.geometry.specs.declared.Rect.{Rect}
use Rattle.length.specs.Length.{resolved, resolved_rect, resolved_size}
use Rattle.length.specs.declared.Length.{Length}
use Rattle.length.specs.declared.Length.TheVariants.{Auto, Pixels, Fraction}
use Rattle.style.specs.declared.Position.{Position}
use Rattle.style.specs.declared.Position.TheVariants.{Static, Relative, Absolute}
use Rattle.style.specs.declared.Style.{Style}
use Rattle.steps.specs.Sizing.{box_size, sized_by, sizing_of}
use Rattle.steps.specs.Stack.{relative_offset, offset_by}

abbrev pub is_part : Length → Bool
is_part Auto = false
is_part (Pixels x) = false
is_part (Fraction f) = true

-- no fraction in fields 1, 3 and 5
pub record NoParts (s : Style) : Type 0 where
  pub size : is_part s.size.height ≡ false
  pub min : is_part s.min.height ≡ false
  pub max : is_part s.max.height ≡ false

-- nor in fields 18 and 20
pub record NoHeightParts (s : Style) : Type 0 where
  pub sizes : NoParts s
  pub top : is_part s.inset.top ≡ false
  pub bottom : is_part s.inset.bottom ≡ false

pub whole_length : (l : Length) (h k : Option Float) → is_part l ≡ false → resolved l h ≡ resolved l k
unfolding resolved
whole_length Auto h k e = refl
whole_length (Pixels x) h k e = refl
whole_length (Fraction f) h k e = cc

whole_size_lem : (s : Style) (l : Size Length) (b h k : Option Float) (both : Rect Float) → is_part l.height ≡ false → box_size s l b h both ≡ box_size s l b k both
unfolding box_size resolved_size
whole_size_lem s l b h k both e = rw (whole_length l.height h k e)

-- step A
pub whole_sizing : (s : Style) (b h k : Option Float) → NoParts s → sizing_of s b h ≡ sizing_of s b k
unfolding sizing_of sized_by
whole_sizing s b h k n =
    let both = plus (resolved_rect s.padding b) (resolved_rect s.border b) in
    rw (whole_size_lem s s.size b h k both n.size, whole_size_lem s s.min b h k both n.min, whole_size_lem s s.max b h k both n.max)

-- step J's offset
pub whole_offset : (p : Position) (i : Rect Length) (rtl : Bool) (b h k : Option Float) → is_part i.top ≡ false → is_part i.bottom ≡ false → offset_by p i rtl b h ≡ offset_by p i rtl b k
unfolding offset_by relative_offset
whole_offset Static i rtl b h k t u = refl
whole_offset Relative i rtl b h k t u = rw (whole_length i.top h k t, whole_length i.bottom h k u)
whole_offset Absolute i rtl b h k t u = refl
