-- What the engine over whole numbers is given of a page and a question: each number read as a whole number.
use Rattle.std.specs.Prelude.{Option, None, Some, Float}
use Rattle.geometry.specs.declared.Size.{Size}
use Rattle.geometry.specs.declared.Rect.{Rect}
use Rattle.length.specs.declared.Length.{Length}
use Rattle.length.specs.declared.Length.TheVariants.{Auto, Pixels, Fraction}
use Rattle.length.specs.declared.AvailableSpace.{AvailableSpace}
use Rattle.length.specs.declared.AvailableSpace.TheVariants.{Definite, MinContent, MaxContent}
use Rattle.style.specs.declared.Measure.{Measure}
use Rattle.style.specs.declared.Style.{Style}
use Rattle.tree.specs.Tree.{Tree, map_t}
use Rattle.steps.specs.Page.{Site}
use Rattle.steps.specs.declared.LayoutInput.{LayoutInput}
use Rattle.whole.specs.Test.{number}
use Rattle.integers.specs.Numbers.{MayZ, NoneZ, SomeZ, SizeMay, RectMay}
use Rattle.integers.specs.Styles.{MeasureZ, StyleZ, AvailableZ, DefiniteZ, MinContentZ, MaxContentZ, InputZ}

-- a length: auto is missing; a fraction is not of the profile
abbrev pub length_z : Length → MayZ
length_z Auto = NoneZ
length_z (Pixels x) = SomeZ (number x)
length_z (Fraction f) = NoneZ

abbrev pub option_z : Option Float → MayZ
option_z None = NoneZ
option_z (Some x) = SomeZ (number x)

abbrev pub size_z : Size Length → SizeMay
size_z l = record { width = length_z l.width; height = length_z l.height }

abbrev pub rect_z : Rect Length → RectMay
rect_z l = record { top = length_z l.top; right = length_z l.right; bottom = length_z l.bottom; left = length_z l.left }

abbrev pub measure_z : Measure → MeasureZ
measure_z m = record { least = number m.least; most = number m.most; height = number m.height; baseline = option_z m.baseline }

-- a style
unfoldable pub style_z : Style → StyleZ
style_z s =
    record {
      kind = s.kind;
      content = s.content;
      rtl = s.rtl;
      position = s.position;
      overflow = s.overflow;
      align = s.align;
      safe = s.safe;
      contained = s.contained;
      size = size_z s.size;
      min = size_z s.min;
      max = size_z s.max;
      margin = rect_z s.margin;
      padding = rect_z s.padding;
      border = rect_z s.border;
      inset = rect_z s.inset;
      scrollbar = number s.scrollbar;
      measure = measure_z s.measure;
    }

abbrev pub available_z : AvailableSpace → AvailableZ
available_z (Definite a) = DefiniteZ (number a)
available_z MinContent = MinContentZ
available_z MaxContent = MaxContentZ

-- a question
unfoldable pub input_z : LayoutInput → InputZ
input_z q =
    record {
      known = record { width = option_z q.known.width; height = option_z q.known.height };
      parent = option_z q.parent;
      basis = option_z q.basis;
      definiteHeight = q.definiteHeight;
      available = available_z q.available;
      collapseStart = q.collapseStart;
      collapseEnd = q.collapseEnd;
      nested = q.nested;
    }

-- a page
abbrev pub site_z : Site → StyleZ
site_z s = style_z s.style

unfoldable pub page_z : Tree Site → Tree StyleZ
page_z t = map_t site_z t
