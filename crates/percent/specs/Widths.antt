-- No width depends on a fraction of a height: with the fractions of fields 1, 3 and 5 read as auto, numbers 0, 2, 8 and 10 to 13 of every row are the same.
use Rattle.geometry.specs.declared.Size.{Size}
use Rattle.std.specs.Prelude.{◌≡◌, refl, Bool, true, false, cond, Float, Option, None, Some, is_some}
use Rattle.std.proofs.Common.{sym, ap, ◌∙◌}
use Rattle.geometry.specs.Geometry.{sum_axes, plus}
use Rattle.geometry.specs.declared.Rect.{Rect}
use Rattle.util.specs.Maybe.{add_size, ratio_fills}
use Rattle.length.specs.Length.{resolved, scaled, resolved_rect, resolved_size}
use Rattle.length.specs.declared.Length.{Length}
use Rattle.length.specs.declared.Length.TheVariants.{Auto, Pixels, Fraction}
use Rattle.style.specs.declared.Style.{Style}
use Rattle.steps.specs.Row.{Row, RowProbe}
use Rattle.steps.specs.Sizing.{box_size, sized_by, sizing_of, step_a}
use Rattle.steps.specs.declared.Sizing.{Sizing}
use Rattle.percent.specs.Parts.{is_part, NoParts, whole_sizing}

-- a length that is auto where it was a fraction
abbrev pub auto_part : Length → Length
auto_part Auto = Auto
auto_part (Pixels x) = Pixels x
auto_part (Fraction f) = Auto

abbrev pub auto_height : Size Length → Size Length
auto_height l = record { width = l.width; height = auto_part l.height }

-- a style whose fractions in fields 1, 3 and 5 are auto
abbrev pub auto_heights : Style → Style
auto_heights s =
    record {
      kind = s.kind;
      content = s.content;
      rtl = s.rtl;
      position = s.position;
      overflow = s.overflow;
      align = s.align;
      safe = s.safe;
      contained = s.contained;
      size = auto_height s.size;
      min = auto_height s.min;
      max = auto_height s.max;
      margin = s.margin;
      padding = s.padding;
      border = s.border;
      inset = s.inset;
      ratio = s.ratio;
      scrollbar = s.scrollbar;
      measure = s.measure;
    }

-- numbers 0, 2, 8, 10 and 11 to 13 of a row
pub record Across : Type 0 where
  pub x : Float
  pub width : Float
  pub known : Float
  pub parent : Float
  pub probe : RowProbe

abbrev pub across_of : Row → Across
across_of r = record { x = r.place.x; width = r.answer.size.width; known = r.asked.width; parent = r.asked.parent; probe = r.probe }

-- what refusal 3 grants: no fraction in 1, 3 and 5 beside a ratio
abbrev pub RatioAlone : Style → Type 0
RatioAlone s = is_some s.ratio ≡ true → NoParts s

-- ---- step A
pub auto_none : (l : Length) → resolved (auto_part l) None ≡ resolved l None
unfolding resolved scaled
auto_none Auto = refl
auto_none (Pixels x) = refl
auto_none (Fraction f) = refl

auto_whole : (l : Length) → is_part l ≡ false → auto_part l ≡ l
auto_whole Auto e = refl
auto_whole (Pixels x) e = refl
auto_whole (Fraction f) e = cc

-- without a basis there is no difference
box_none : (s : Style) (l : Size Length) (b : Option Float) (both : Rect Float) → box_size (auto_heights s) (auto_height l) b None both ≡ box_size s l b None both
unfolding box_size resolved_size
box_none s l b both = rw (auto_none l.height)

pub auto_a : (s : Style) (b : Option Float) → step_a (auto_heights s) b ≡ step_a s b
unfolding step_a sizing_of sized_by
auto_a s b =
    let both = plus (resolved_rect s.padding b) (resolved_rect s.border b) in
    rw (box_none s s.size b both, box_none s s.min b both, box_none s s.max b both)

-- with any two bases the widths are the same
filled_width : (w h k : Option Float) (r : Option Float) → r ≡ None → (ratio_fills (record { width = w; height = h }) r).width ≡ (ratio_fills (record { width = w; height = k }) r).width
unfolding ratio_fills
filled_width w h k r e = rw e

add_width : (s : Style) (a b : Size (Option Float)) (both : Rect Float) → a.width ≡ b.width → (cond s.content (add_size a (sum_axes both)) a).width ≡ (cond s.content (add_size b (sum_axes both)) b).width
unfolding add_size
add_width s a b both e = go s.content
  where
    go : (c : Bool) → (cond c (add_size a (sum_axes both)) a).width ≡ (cond c (add_size b (sum_axes both)) b).width
    go true = rw e
    go false = e

box_width : (s : Style) (l : Size Length) (b h k : Option Float) (both : Rect Float) → s.ratio ≡ None → (box_size s l b h both).width ≡ (box_size (auto_heights s) (auto_height l) b k both).width
unfolding box_size resolved_size
box_width s l b h k both e = add_width s _ _ both (filled_width (resolved l.width b) (resolved l.height h) (resolved (auto_part l.height) k) s.ratio e)

-- what of step A the widths are made of
pub record SameAcross (y z : Sizing) : Type 0 where
  pub both : y.both ≡ z.both
  pub padding : y.padding ≡ z.padding
  pub border : y.border ≡ z.border
  pub size : y.size.width ≡ z.size.width
  pub min : y.min.width ≡ z.min.width
  pub max : y.max.width ≡ z.max.width

across_is : (y z : Sizing) → y ≡ z → SameAcross y z
across_is y z e = rw e (record { both = refl; padding = refl; border = refl; size = refl; min = refl; max = refl })

auto_style : (s : Style) → NoParts s → auto_heights s ≡ s
auto_style s n = rw (auto_whole s.size.height n.size, auto_whole s.min.height n.min, auto_whole s.max.height n.max)

no_ratio : (s : Style) (b h k : Option Float) → s.ratio ≡ None → SameAcross (sizing_of s b h) (sizing_of (auto_heights s) b k)
unfolding sizing_of sized_by
no_ratio s b h k e =
    let both = plus (resolved_rect s.padding b) (resolved_rect s.border b) in
    record {
      both = refl;
      padding = refl;
      border = refl;
      size = box_width s s.size b h k both e;
      min = box_width s s.min b h k both e;
      max = box_width s s.max b h k both e;
    }

pub sizing_across : (s : Style) (b h k : Option Float) → RatioAlone s → SameAcross (sizing_of s b h) (sizing_of (auto_heights s) b k)
sizing_across s b h k a = go s.ratio refl
  where
    go : (r : Option Float) → s.ratio ≡ r → SameAcross (sizing_of s b h) (sizing_of (auto_heights s) b k)
    go None e = no_ratio s b h k e
    go (Some r) e =
        let n : NoParts s = a (ap is_some e) in
        across_is _ _ (whole_sizing s b h k n ∙ ap (λ (t : Style). sizing_of t b k) (sym (auto_style s n)))
