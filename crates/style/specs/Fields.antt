-- Fields whose units stand one after another in one unit word. Size, minimum, maximum, margin and padding stand in the
-- first, border and inset in the second: no group is cut by the end of a word. Assumes nothing.
use Rattle.length.specs.declared.Length.{Length}
use Rattle.geometry.specs.declared.Size.{Size}
use Rattle.geometry.specs.declared.Rect.{Rect}
use Rattle.std.specs.Prelude.{◌≡◌, List, ℕ, ◌+◌, ◌-◌, ◌<◌, ◌≤◌, Float}
use Rattle.std.proofs.Common.{arith}
use Rattle.style.specs.Codes.{code_at, length_of}
use Rattle.style.specs.Style.{word_at, number_at, length_at, size_at, rect_at}
use Rattle.style.specs.Units.{unit_first, unit_second}

-- width and height: fields f and f + 1 of node j, units from place k on
unfoldable pub size_in : ℕ → ℕ → List Float → ℕ → ℕ → Size Length
size_in units k xs j f = record { width = length_of (code_at units k) (number_at xs j f); height = length_of (code_at units (k + 1)) (number_at xs j (f + 1)) }

-- top, right, bottom, left
unfoldable pub rect_in : ℕ → ℕ → List Float → ℕ → ℕ → Rect Length
rect_in units k xs j f =
    record {
      top = length_of (code_at units k) (number_at xs j f);
      right = length_of (code_at units (k + 1)) (number_at xs j (f + 1));
      bottom = length_of (code_at units (k + 2)) (number_at xs j (f + 2));
      left = length_of (code_at units (k + 3)) (number_at xs j (f + 3));
    }

pub size_first : (ws : List ℕ) (i : ℕ) (xs : List Float) (j f : ℕ) → f < 13 → size_in (word_at ws i 2) f xs j f ≡ size_at ws i xs j f
unfolding size_in size_at length_at
size_first ws i xs j f h = rw (unit_first (word_at ws i 2) (word_at ws i 3) f (omega arith), unit_first (word_at ws i 2) (word_at ws i 3) (f + 1) (omega arith))

pub rect_first : (ws : List ℕ) (i : ℕ) (xs : List Float) (j f : ℕ) → f < 11 → rect_in (word_at ws i 2) f xs j f ≡ rect_at ws i xs j f
unfolding rect_in rect_at length_at
rect_first ws i xs j f h =
    let at = unit_first (word_at ws i 2) (word_at ws i 3) in
    rw (at f (omega arith), at (f + 1) (omega arith), at (f + 2) (omega arith), at (f + 3) (omega arith))

pub rect_second : (ws : List ℕ) (i : ℕ) (xs : List Float) (j k : ℕ) → rect_in (word_at ws i 3) k xs j (14 + k) ≡ rect_at ws i xs j (14 + k)
unfolding rect_in rect_at length_at
rect_second ws i xs j k =
    let at = unit_second (word_at ws i 2) (word_at ws i 3) in
    let e0 : 14 + k - 14 ≡ k = omega arith in
    let e1 : 14 + k + 1 - 14 ≡ k + 1 = omega arith in
    let e2 : 14 + k + 2 - 14 ≡ k + 2 = omega arith in
    let e3 : 14 + k + 3 - 14 ≡ k + 3 = omega arith in
    rw (← at (14 + k) (omega arith), ← at (14 + k + 1) (omega arith), ← at (14 + k + 2) (omega arith), ← at (14 + k + 3) (omega arith)) (rw (e0, e1, e2, e3))
