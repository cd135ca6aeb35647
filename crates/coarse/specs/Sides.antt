-- The four edges of a box: where each stands on the page, and where the output of coarse has it.
use Rattle.std.specs.Prelude.{List, ℕ, ◌+◌, ◌*◌, ℤ, pos, ◌+ℤ◌, get_or, Float}
use Rattle.edges.specs.Edges.{edge_at}
use Rattle.coarse.specs.Panel.{span_of}

pub data Axis : Type 0 where
  across : Axis
  down : Axis

pub data Side : Type 0 where
  near : Side
  far : Side

-- the axis as the rows count it
abbrev pub axis_no : Axis → ℕ
axis_no across = 0
axis_no down = 1

-- an edge of node i on the page
abbrev pub edge_on : List ℕ → List Float → Axis → Side → ℕ → Float
edge_on ws rs a near i = (span_of (edge_at ws rs) rs (axis_no a) i).start
edge_on ws rs a far i = (span_of (edge_at ws rs) rs (axis_no a) i).end

-- the size of node i in the output
abbrev pub size_on : List ℤ → Axis → ℕ → ℤ
size_on out a i = get_or out (4 * i + 2 + axis_no a) (pos 0)

-- an edge of node i in the output: the far one is the near one plus the size
abbrev pub pixel_on : List ℤ → Axis → Side → ℕ → ℤ
pixel_on out a near i = get_or out (4 * i + axis_no a) (pos 0)
pixel_on out a far i = get_or out (4 * i + axis_no a) (pos 0) +ℤ size_on out a i
