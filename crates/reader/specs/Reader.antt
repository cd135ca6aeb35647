-- The style that a reader reads: a node's three words, and its numbers in their planes. Assumes nothing.
use Rattle.std.specs.Prelude.{◌≡◌, refl, List, ℕ, ◌<◌, Float}
use Rattle.std.proofs.Common.{arith}
use Rattle.style.specs.Codes.{code_at, flag_at, kind_of, position_of, overflow_xy, align_at, ratio_of, baseline_of}
use Rattle.style.specs.Style.{word_at, plane_of, number_at, measure_at, style_at}
use Rattle.style.specs.Fields.{size_in, rect_in, size_first, rect_first, rect_second}
use Rattle.style.specs.Flow.{flow_at, flow_of}
use Rattle.style.specs.declared.Style.{Style}
use Rattle.reader.specs.declared.Reader.{Reader}

-- the style that a style word and two unit words give with the numbers of node j
unfoldable pub style_by : ℕ → ℕ → ℕ → List Float → ℕ → Style
style_by style first second xs j =
    record {
      kind = kind_of (code_at style 0);
      content = flag_at style 2;
      rtl = flag_at style 3;
      position = position_of (code_at style 2);
      overflow = overflow_xy style;
      align = align_at style;
      safe = flag_at style 17;
      contained = flag_at style 12;
      size = size_in first 0 xs j 0;
      min = size_in first 2 xs j 2;
      max = size_in first 4 xs j 4;
      margin = rect_in first 6 xs j 6;
      padding = rect_in first 10 xs j 10;
      border = rect_in second 0 xs j 14;
      inset = rect_in second 4 xs j 18;
      ratio = ratio_of (number_at xs j 22);
      scrollbar = number_at xs j 23;
      measure =
          record {
            least = number_at xs j 24;
            most = number_at xs j 25;
            height = number_at xs j 26;
            baseline = baseline_of style (number_at xs j 27);
          };
    }

-- what it reads in these numbers
abbrev pub style_in : Reader → List Float → Style
style_in r xs = style_by r.style r.first r.second xs r.node

-- by its own numbers
abbrev pub style_of : Reader → Style
style_of r = style_in r r.numbers.now

-- with the first node's words it is the style of node j, of any j
pub style_read : (ws : List ℕ) (xs : List Float) (j : ℕ) → style_by (word_at ws 0 1) (word_at ws 0 2) (word_at ws 0 3) xs j ≡ style_at ws 0 xs j
unfolding style_by style_at measure_at
style_read ws xs j =
    rw (size_first ws 0 xs j 0 (omega arith), size_first ws 0 xs j 2 (omega arith), size_first ws 0 xs j 4 (omega arith), rect_first ws 0 xs j 6 (omega arith), rect_first ws 0 xs j 10 (omega arith), rect_second ws 0 xs j 0, rect_second ws 0 xs j 4)

-- what the style word alone tells of it
pub flow_by : (style first second : ℕ) (xs : List Float) (j : ℕ) → flow_of (style_by style first second xs j) ≡ flow_at style
unfolding style_by flow_of flow_at
flow_by style first second xs j = refl

pub kind_by : (style first second : ℕ) (xs : List Float) (j : ℕ) → (style_by style first second xs j).kind ≡ kind_of (code_at style 0)
unfolding style_by
kind_by style first second xs j = refl

pub content_by : (style first second : ℕ) (xs : List Float) (j : ℕ) → (style_by style first second xs j).content ≡ flag_at style 2
unfolding style_by
content_by style first second xs j = refl

pub rtl_by : (style first second : ℕ) (xs : List Float) (j : ℕ) → (style_by style first second xs j).rtl ≡ flag_at style 3
unfolding style_by
rtl_by style first second xs j = refl

-- the same of a reader; each by itself, so that an edit of `style_by` is refused at the first of them
pub flow_read : (r : Reader) (xs : List Float) → flow_of (style_in r xs) ≡ flow_at r.style
unfolding style_by flow_of flow_at
flow_read r xs = refl

pub kind_read : (r : Reader) (xs : List Float) → (style_in r xs).kind ≡ kind_of (code_at r.style 0)
unfolding style_by
kind_read r xs = refl

pub content_read : (r : Reader) (xs : List Float) → (style_in r xs).content ≡ flag_at r.style 2
unfolding style_by
content_read r xs = refl

pub rtl_read : (r : Reader) (xs : List Float) → (style_in r xs).rtl ≡ flag_at r.style 3
unfolding style_by
rtl_read r xs = refl

-- kind, flow and table of a node's style are those of its word and its numbers
pub kind_at : (ws : List ℕ) (xs : List Float) (j : ℕ) → kind_of (code_at (word_at ws 0 1) 0) ≡ (style_at ws 0 xs j).kind
unfolding style_at
kind_at ws xs j = refl

pub flow_at_lem : (ws : List ℕ) (xs : List Float) (j : ℕ) → flow_at (word_at ws 0 1) ≡ flow_of (style_at ws 0 xs j)
unfolding style_at flow_of flow_at
flow_at_lem ws xs j = refl

pub measure_at_lem : (ws : List ℕ) (xs : List Float) (j : ℕ) → measure_at ws 0 xs j ≡ (style_at ws 0 xs j).measure
unfolding style_at
measure_at_lem ws xs j = refl
