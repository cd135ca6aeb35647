-- A result row: 16 numbers, order and bits, in groups. Of an out-of-flow child, place and width hold start, line and end.
use Rattle.std.specs.Prelude.{Bool, true, false, cond, ◌||◌, List, [], ◌∷◌, ℕ, ◌+◌, ◌*◌, ◌/◌, ◌%◌, get_or, Float, None, Some, is_some}
use Rattle.geometry.specs.Floats.{◌⊕◌}
use Rattle.geometry.specs.Geometry.{zero_f}
use Rattle.geometry.specs.declared.Point.{Point}
use Rattle.geometry.specs.declared.Size.{Size}
use Rattle.util.specs.Maybe.{or_zero}
use Rattle.length.specs.Available.{definite}
use Rattle.length.specs.declared.AvailableSpace.{AvailableSpace}
use Rattle.length.specs.declared.AvailableSpace.TheVariants.{Definite, MinContent, MaxContent}
use Rattle.style.specs.Codes.{flag_at}
use Rattle.margin.specs.Margin.{no_margins}
use Rattle.margin.specs.declared.CollapsibleMarginSet.{CollapsibleMarginSet}
use Rattle.steps.specs.declared.LayoutInput.{LayoutInput}
use Rattle.steps.specs.declared.LayoutOutput.{LayoutOutput}
use Rattle.steps.specs.declared.ProbeInput.{ProbeInput}

-- numbers 2-7 and 15: the size, the top set, the bottom set, the first baseline
pub record RowAnswer : Type 0 where
  pub size : Size Float
  pub top : CollapsibleMarginSet
  pub bottom : CollapsibleMarginSet
  pub baseline : Float

-- numbers 8-10 and 14: known width, known height, parent width and height basis as asked
pub record RowAsked : Type 0 where
  pub width : Float
  pub height : Float
  pub parent : Float
  pub basis : Float

-- numbers 11-13: the probe's definite available width, its known height, its answer
pub record RowProbe : Type 0 where
  pub width : Float
  pub height : Float
  pub answer : Float

-- numbers 0-1 are the place
pub record Row : Type 0 where
  pub place : Point Float
  pub answer : RowAnswer
  pub asked : RowAsked
  pub probe : RowProbe
  pub order : ℕ
  pub bits : ℕ

-- the 16 numbers, and the two words
abbrev pub row_numbers : Row → List Float
row_numbers r =
    r.place.x
    ∷ r.place.y
    ∷ r.answer.size.width
    ∷ r.answer.size.height
    ∷ r.answer.top.positive
    ∷ r.answer.top.negative
    ∷ r.answer.bottom.positive
    ∷ r.answer.bottom.negative
    ∷ r.asked.width
    ∷ r.asked.height
    ∷ r.asked.parent
    ∷ r.probe.width
    ∷ r.probe.height
    ∷ r.probe.answer
    ∷ r.asked.basis
    ∷ r.answer.baseline
    ∷ []

abbrev pub row_words : Row → List ℕ
row_words r = r.order ∷ r.bits ∷ []

-- row i of the lent rows; 0 past the end
abbrev pub row_at : List Float → List ℕ → ℕ → Row
row_at rs ms i =
    record {
      place = record { x = get_or rs (16 * i) zero_f; y = get_or rs (16 * i + 1) zero_f };
      answer =
          record {
            size = record { width = get_or rs (16 * i + 2) zero_f; height = get_or rs (16 * i + 3) zero_f };
            top = record { positive = get_or rs (16 * i + 4) zero_f; negative = get_or rs (16 * i + 5) zero_f };
            bottom = record { positive = get_or rs (16 * i + 6) zero_f; negative = get_or rs (16 * i + 7) zero_f };
            baseline = get_or rs (16 * i + 15) zero_f;
          };
      asked =
          record {
            width = get_or rs (16 * i + 8) zero_f;
            height = get_or rs (16 * i + 9) zero_f;
            parent = get_or rs (16 * i + 10) zero_f;
            basis = get_or rs (16 * i + 14) zero_f;
          };
      probe = record { width = get_or rs (16 * i + 11) zero_f; height = get_or rs (16 * i + 12) zero_f; answer = get_or rs (16 * i + 13) zero_f };
      order = get_or ms (2 * i) 0;
      bits = get_or ms (2 * i + 1) 0;
    }

-- bits: 0 laid, 1 through, 2 out of flow, 3 known height given, 4 probed, 5-6 available kind, 7 probe height given, 8 height basis given, 9 baseline given
unfoldable pub is_laid : Row → Bool
is_laid r = flag_at r.bits 0

unfoldable pub is_out : Row → Bool
is_out r = flag_at r.bits 2

abbrev pub bit : Bool → ℕ
bit true = 1
bit false = 0

-- available kind: 1 definite, 2 min, 3 max
unfoldable pub available_kind : AvailableSpace → ℕ
available_kind (Definite a) = 1
available_kind MinContent = 2
available_kind MaxContent = 3

-- bits 4-7 as a number below 16
unfoldable pub probe_code : ProbeInput → ℕ
probe_code q = 1 + 2 * available_kind q.available + 8 * bit (is_some q.height)

-- the probe words: numbers 11-13 and bits 4-7
pub record ProbeWords : Type 0 where
  pub numbers : RowProbe
  pub code : ℕ

unfoldable pub no_probe : ProbeWords
no_probe = record { numbers = record { width = zero_f; height = zero_f; answer = zero_f }; code = 0 }

-- a probe and its answer, as they are noted; absent values are 0
unfoldable pub probe_note : ProbeInput → Float → ProbeWords
probe_note q answer = record { numbers = record { width = or_zero (definite q.available); height = or_zero q.height; answer = answer }; code = probe_code q }

-- the probe words that a row has
unfoldable pub probe_of : Row → ProbeWords
probe_of r = record { numbers = r.probe; code = r.bits / 16 % 16 }

-- bits with other probe bits
unfoldable pub with_code : ℕ → ℕ → ℕ
with_code b code = b % 16 + 16 * code + 256 * (b / 256)

-- a row with other probe words and bits
unfoldable pub noted : Row → ProbeWords → ℕ → Row
noted r p bits = record { place = r.place; answer = r.answer; asked = r.asked; probe = p.numbers; order = r.order; bits = bits }

-- a row that is zero but for place, width, order and bits
unfoldable pub bare : Point Float → Float → ℕ → ℕ → Row
bare place width order bits =
    record {
      place = place;
      answer = record { size = record { width = width; height = zero_f }; top = no_margins; bottom = no_margins; baseline = zero_f };
      asked = record { width = zero_f; height = zero_f; parent = zero_f; basis = zero_f };
      probe = record { width = zero_f; height = zero_f; answer = zero_f };
      order = order;
      bits = bits;
    }

abbrev pub origin : Point Float
origin = record { x = zero_f; y = zero_f }

-- a row of zeros
unfoldable pub no_row : Row
no_row = bare origin zero_f 0 0

-- a hidden child's row: its order alone
unfoldable pub hidden_row : ℕ → Row
hidden_row order = bare origin zero_f order 0

-- a shown out-of-flow child's row: start, line, end, its order and bit 2
unfoldable pub aside_row : Float → Float → Float → ℕ → Row
aside_row start line end order = bare (record { x = start; y = line }) end order 4

-- a laid row at 0, 0: the answer, the question as asked, the probe words
unfoldable pub laid_row : LayoutInput → LayoutOutput → ProbeWords → Row
laid_row q o p =
    record {
      place = origin;
      answer = record { size = o.size; top = o.top; bottom = o.bottom; baseline = or_zero o.baseline };
      asked =
          record {
            width = or_zero q.known.width;
            height = or_zero q.known.height;
            parent = or_zero q.parent;
            basis = or_zero q.basis;
          };
      probe = p.numbers;
      order = 0;
      bits = 1 + 2 * bit o.through + 8 * bit (is_some q.known.height) + 16 * p.code + 256 * bit (is_some q.basis) + 512 * bit (is_some o.baseline);
    }

-- the answer that a laid row holds
unfoldable pub output_in : Row → LayoutOutput
output_in r =
    record {
      size = r.answer.size;
      top = r.answer.top;
      bottom = r.answer.bottom;
      through = flag_at r.bits 1;
      baseline = cond (flag_at r.bits 9) (Some r.answer.baseline) None;
    }

-- a row put at its place among its siblings
unfoldable pub put_at : Point Float → ℕ → Row → Row
put_at p order r = record { place = p; answer = r.answer; asked = r.asked; probe = r.probe; order = order; bits = r.bits }

-- M: the shift on a place y or a line; rows that are neither laid nor out of flow stay
unfoldable pub lowered : Float → Row → Row
lowered d r =
    record {
      place = record { x = r.place.x; y = cond (is_laid r || is_out r) (r.place.y ⊕ d) r.place.y };
      answer = r.answer;
      asked = r.asked;
      probe = r.probe;
      order = r.order;
      bits = r.bits;
    }
