-- A result row over whole numbers: 16 numbers, order and bits.
use Rattle.std.specs.Prelude.{Bool, cond, ◌||◌, List, [], ◌∷◌, ℕ, ◌+◌, ◌*◌, ℤ, pos, ◌+ℤ◌}
use Rattle.style.specs.Codes.{flag_at}
use Rattle.steps.specs.Row.{bit}
use Rattle.integers.specs.Numbers.{MayZ, SizeZ, PointZ, SetZ, or_zero_z, is_some_z, no_margins_z}
use Rattle.integers.specs.Styles.{InputZ, ProbeInputZ, AvailableZ, DefiniteZ, MinContentZ, MaxContentZ, definite_z}

-- what a box answers
pub record OutputZ : Type 0 where
  pub size : SizeZ
  pub top : SetZ
  pub bottom : SetZ
  pub through : Bool
  pub baseline : MayZ

-- numbers 11-13 and bits 4-7
pub record ProbeWordsZ : Type 0 where
  pub width : ℤ
  pub height : ℤ
  pub answer : ℤ
  pub code : ℕ

-- numbers 8-10 and 14
pub record AskedZ : Type 0 where
  pub width : ℤ
  pub height : ℤ
  pub parent : ℤ
  pub basis : ℤ

pub record RowZ : Type 0 where
  pub place : PointZ
  pub size : SizeZ
  pub top : SetZ
  pub bottom : SetZ
  pub baseline : ℤ
  pub asked : AskedZ
  pub probe : ProbeWordsZ
  pub order : ℕ
  pub bits : ℕ

-- the 16 numbers in their order, and the two words
abbrev pub row_numbers_z : RowZ → List ℤ
row_numbers_z r =
    r.place.x
    ∷ r.place.y
    ∷ r.size.width
    ∷ r.size.height
    ∷ r.top.positive
    ∷ r.top.negative
    ∷ r.bottom.positive
    ∷ r.bottom.negative
    ∷ r.asked.width
    ∷ r.asked.height
    ∷ r.asked.parent
    ∷ r.probe.width
    ∷ r.probe.height
    ∷ r.probe.answer
    ∷ r.asked.basis
    ∷ r.baseline
    ∷ []

abbrev pub row_words_z : RowZ → List ℕ
row_words_z r = r.order ∷ r.bits ∷ []

unfoldable pub no_probe_z : ProbeWordsZ
no_probe_z = record { width = pos 0; height = pos 0; answer = pos 0; code = 0 }

-- available kind: 1 definite, 2 min, 3 max
unfoldable pub available_kind_z : AvailableZ → ℕ
available_kind_z (DefiniteZ a) = 1
available_kind_z MinContentZ = 2
available_kind_z MaxContentZ = 3

-- a probe and its answer, as they are noted
unfoldable pub probe_note_z : ProbeInputZ → ℤ → ProbeWordsZ
probe_note_z q answer =
    record {
      width = or_zero_z (definite_z q.available);
      height = or_zero_z q.height;
      answer = answer;
      code = 1 + 2 * available_kind_z q.available + 8 * bit (is_some_z q.height);
    }

-- a row that is zero but for place, width, order and bits
unfoldable pub bare_z : PointZ → ℤ → ℕ → ℕ → RowZ
bare_z place width order bits =
    record {
      place = place;
      size = record { width = width; height = pos 0 };
      top = no_margins_z;
      bottom = no_margins_z;
      baseline = pos 0;
      asked = record { width = pos 0; height = pos 0; parent = pos 0; basis = pos 0 };
      probe = no_probe_z;
      order = order;
      bits = bits;
    }

abbrev pub origin_z : PointZ
origin_z = record { x = pos 0; y = pos 0 }

unfoldable pub no_row_z : RowZ
no_row_z = bare_z origin_z (pos 0) 0 0

-- a hidden child's row, and a shown out-of-flow child's
unfoldable pub hidden_row_z : ℕ → RowZ
hidden_row_z order = bare_z origin_z (pos 0) order 0

unfoldable pub aside_row_z : ℤ → ℤ → ℤ → ℕ → RowZ
aside_row_z start line end order = bare_z (record { x = start; y = line }) end order 4

-- a laid row at 0, 0: the answer, the question as asked, the probe words
unfoldable pub laid_row_z : InputZ → OutputZ → ProbeWordsZ → RowZ
laid_row_z q o p =
    record {
      place = origin_z;
      size = o.size;
      top = o.top;
      bottom = o.bottom;
      baseline = or_zero_z o.baseline;
      asked =
          record {
            width = or_zero_z q.known.width;
            height = or_zero_z q.known.height;
            parent = or_zero_z q.parent;
            basis = or_zero_z q.basis;
          };
      probe = p;
      order = 0;
      bits = 1 + 2 * bit o.through + 8 * bit (is_some_z q.known.height) + 16 * p.code + 256 * bit (is_some_z q.basis) + 512 * bit (is_some_z o.baseline);
    }

-- a row put at its place among its siblings
unfoldable pub put_at_z : PointZ → ℕ → RowZ → RowZ
put_at_z p order r =
    record { place = p; size = r.size; top = r.top; bottom = r.bottom; baseline = r.baseline; asked = r.asked; probe = r.probe; order = order; bits = r.bits }

-- M: the shift on a place y or a line; rows that are neither laid nor out of flow stay
unfoldable pub lowered_z : ℤ → RowZ → RowZ
lowered_z d r =
    record {
      place = record { x = r.place.x; y = cond (flag_at r.bits 0 || flag_at r.bits 2) (r.place.y +ℤ d) r.place.y };
      size = r.size;
      top = r.top;
      bottom = r.bottom;
      baseline = r.baseline;
      asked = r.asked;
      probe = r.probe;
      order = r.order;
      bits = r.bits;
    }
