-- A node as a walk over the panel sees it, tested and rounded at once.
--     pixel_span     along one axis: the near edge and the size in whole pixels, None where 12 is due
--     seen_of        a node: its box, None where 12 is due
use Rattle.std.specs.Prelude.{cond, List, ℕ, ◌+◌, ◌*◌, ℤ, ◌-ℤ◌, set, Float, Option, None, Some, unwrap_or}
use Rattle.geometry.specs.declared.Line.{Line}
use Rattle.pixel.specs.Pixel.{whole_pixel}
use Rattle.coarse.specs.Panel.{too_far, far_node, no_box, box_of}
use Rattle.coarse.specs.declared.PixelBox.{PixelBox}
use Rattle.coarse.specs.declared.PixelSpan.{PixelSpan}

unfoldable pub pixel_span : Line → Option PixelSpan
pixel_span s = cond (too_far s) None (Some (record { near = whole_pixel s.start; size = whole_pixel s.end -ℤ whole_pixel s.start }))

abbrev pub box_by : PixelSpan → PixelSpan → PixelBox
box_by across down = record { x = across.near; y = down.near; width = across.size; height = down.size }

abbrev pub seen_by : Option PixelSpan → Option PixelSpan → Option PixelBox
seen_by None down = None
seen_by (Some x) None = None
seen_by (Some x) (Some y) = Some (box_by x y)

unfoldable pub seen_of : (ℕ → ℕ → Float) → List Float → List ℕ → ℕ → Option PixelBox
seen_of near rs ms i = cond (far_node near rs ms i) None (Some (box_of near rs ms i))

-- its box, zeros where 12 is due
abbrev pub seen_place : (ℕ → ℕ → Float) → List Float → List ℕ → ℕ → PixelBox
seen_place near rs ms i = unwrap_or (seen_of near rs ms i) no_box

-- box i of the output
abbrev pub box_put : List ℤ → ℕ → PixelBox → List ℤ
box_put out i b = set (set (set (set out (4 * i) b.x) (4 * i + 1) b.y) (4 * i + 2) b.width) (4 * i + 3) b.height
