-- A node's style, from its four words and 28 numbers.
use Rattle.geometry.specs.declared.Size.{Size}
use Rattle.geometry.specs.declared.Rect.{Rect}
use Rattle.std.specs.Prelude.{ℕ, ◌+◌, ◌*◌, ◌/◌, cond, List, length, get_or, ltb, Float}
use Rattle.geometry.specs.Geometry.{zero_f}
use Rattle.length.specs.declared.Length.{Length}
use Rattle.style.specs.Codes.{code_at, flag_at, kind_of, position_of, overflow_xy, align_at, unit_of, length_of, ratio_of, baseline_of}
use Rattle.style.specs.declared.Measure.{Measure}
use Rattle.style.specs.declared.Style.{Style}

-- word k of node i: 0 subtree size, 1 style, 2 and 3 units; 0 past the end
unfoldable pub word_at : List ℕ → ℕ → ℕ → ℕ
word_at ws i k = get_or ws (i * 4 + k) 0

-- Numbers stand field by field: 28 planes, each with one number of every node.

-- how long a plane is
abbrev pub plane_of : List Float → ℕ
plane_of xs = length xs / 28

-- the place of number f of node i, in planes of n
abbrev pub number_place : ℕ → ℕ → ℕ → ℕ
number_place n i f = f * n + i

-- number f of node i; 0 past the last node
unfoldable pub number_at : List Float → ℕ → ℕ → Float
number_at xs i f = cond (ltb i (plane_of xs)) (get_or xs (number_place (plane_of xs) i f) zero_f) zero_f

-- Below: the words of the node at i, the numbers of the node at j. (A part of the words is handed on, the numbers are not cut.)

-- field f as a length
unfoldable pub length_at : List ℕ → ℕ → List Float → ℕ → ℕ → Length
length_at ws i xs j f = length_of (unit_of (word_at ws i 2) (word_at ws i 3) f) (number_at xs j f)

-- width and height
unfoldable pub size_at : List ℕ → ℕ → List Float → ℕ → ℕ → Size Length
size_at ws i xs j f = record { width = length_at ws i xs j f; height = length_at ws i xs j (f + 1) }

-- top, right, bottom, left
unfoldable pub rect_at : List ℕ → ℕ → List Float → ℕ → ℕ → Rect Length
rect_at ws i xs j f =
    record {
      top = length_at ws i xs j f;
      right = length_at ws i xs j (f + 1);
      bottom = length_at ws i xs j (f + 2);
      left = length_at ws i xs j (f + 3);
    }

-- a leaf's table
unfoldable pub measure_at : List ℕ → ℕ → List Float → ℕ → Measure
measure_at ws i xs j =
    record { least = number_at xs j 24; most = number_at xs j 25; height = number_at xs j 26; baseline = baseline_of (word_at ws i 1) (number_at xs j 27) }

-- style bits: 0-1 kind, 2 content-box, 3 RTL, 4-5 position, 6-9 overflow, 10-11 and 13-15 align-content, 12 contained, 16 a leaf's baseline, 17 safe
unfoldable pub style_at : List ℕ → ℕ → List Float → ℕ → Style
style_at ws i xs j =
    record {
      kind = kind_of (code_at (word_at ws i 1) 0);
      content = flag_at (word_at ws i 1) 2;
      rtl = flag_at (word_at ws i 1) 3;
      position = position_of (code_at (word_at ws i 1) 2);
      overflow = overflow_xy (word_at ws i 1);
      align = align_at (word_at ws i 1);
      safe = flag_at (word_at ws i 1) 17;
      contained = flag_at (word_at ws i 1) 12;
      size = size_at ws i xs j 0;
      min = size_at ws i xs j 2;
      max = size_at ws i xs j 4;
      margin = rect_at ws i xs j 6;
      padding = rect_at ws i xs j 10;
      border = rect_at ws i xs j 14;
      inset = rect_at ws i xs j 18;
      ratio = ratio_of (number_at xs j 22);
      scrollbar = number_at xs j 23;
      measure = measure_at ws i xs j;
    }
