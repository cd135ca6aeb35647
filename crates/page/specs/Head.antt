-- The first five lines of a page file: how many nodes, and the question.
use Rattle.page.specs.declared.PageError.TheVariants.{BadLine}
use Rattle.page.specs.declared.PageError.{PageError}
use Rattle.page.specs.declared.Head.{Head}
use Rattle.geometry.specs.declared.Size.{Size}
use Rattle.std.specs.Prelude.{List, ℕ, Float, Option, None, Some, Err, Ok, Result}
use Rattle.length.specs.declared.AvailableSpace.{AvailableSpace}
use Rattle.steps.specs.declared.Question.{Question}
use Rattle.text.specs.Pieces.{piece_at}
use Rattle.lines.specs.Lines.{nodes_line, parent_line, known_line, avail_line, flags_line}
use Rattle.lines.specs.declared.Flags.{Flags}

-- the question as written: of a root, with a parent width
unfoldable pub head_question : Float → Size (Option Float) → AvailableSpace → Flags → Question
head_question p k a f =
    record {
      known = k;
      parent = p;
      definiteHeight = f.definiteHeight;
      available = a;
      collapseStart = f.collapseStart;
      collapseEnd = f.collapseEnd;
    }

-- line 5: lines=
unfoldable pub flags_in : ℕ → Float → Size (Option Float) → AvailableSpace → Option Flags → Result Head PageError
flags_in n p k a None = Err (BadLine 5)
flags_in n p k a (Some f) = Ok (record { count = n; question = head_question p k a f })

-- line 4: avail=
unfoldable pub avail_in : ℕ → Float → Size (Option Float) → List (List ℕ) → Option AvailableSpace → Result Head PageError
avail_in n p k ls None = Err (BadLine 4)
avail_in n p k ls (Some a) = flags_in n p k a (flags_line (piece_at ls 4))

-- line 3: known=
unfoldable pub known_in : ℕ → Float → List (List ℕ) → Option (Size (Option Float)) → Result Head PageError
known_in n p ls None = Err (BadLine 3)
known_in n p ls (Some k) = avail_in n p k ls (avail_line (piece_at ls 3))

-- line 2: parent=
unfoldable pub parent_in : ℕ → List (List ℕ) → Option Float → Result Head PageError
parent_in n ls None = Err (BadLine 2)
parent_in n ls (Some p) = known_in n p ls (known_line (piece_at ls 2))

-- line 1: nodes=
unfoldable pub count_in : List (List ℕ) → Option ℕ → Result Head PageError
count_in ls None = Err (BadLine 1)
count_in ls (Some n) = parent_in n ls (parent_line (piece_at ls 1))

-- the five lines; a missing line reads as an empty one, which is bad
unfoldable pub head_of : ℕ → List (List ℕ) → Result Head PageError
head_of limit ls = count_in ls (nodes_line limit (piece_at ls 0))
