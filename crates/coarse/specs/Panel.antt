-- A node on the coarse panel, given where the near edges of the nodes stand: near f i is that of node i, f is 0 across and 1 down.
--     span_of      its near and far edge
--     far_node     12
--     box_of       its box in whole pixels
--     boxes_of     the boxes as numbers, four for each
use Rattle.std.specs.Prelude.{Bool, cond, ◌&&◌, ◌||◌, List, [], ◌∷◌, ℕ, zero, suc, ◌+◌, ◌*◌, ℤ, pos, ◌-ℤ◌, get_or, Float}
use Rattle.geometry.specs.Floats.{◌⊕◌}
use Rattle.geometry.specs.declared.Line.{Line}
use Rattle.limits.specs.Limits.{too_large}
use Rattle.style.specs.Codes.{flag_at}
use Rattle.edges.specs.Edges.{row_number}
use Rattle.pixel.specs.Pixel.{whole_pixel}
use Rattle.coarse.specs.declared.PixelBox.{PixelBox}

-- bit 0 of row i: node i is laid
unfoldable pub laid_at : List ℕ → ℕ → Bool
laid_at ms i = flag_at (get_or ms (2 * i + 1) 0) 0

-- the far edge is the near edge plus the size: number 2 of the row across, 3 down
unfoldable pub span_of : (ℕ → ℕ → Float) → List Float → ℕ → ℕ → Line
span_of near rs f i = record { start = near f i; end = near f i ⊕ row_number rs i (2 + f) }

-- 12: an edge of magnitude 16,777,216 or more, or NaN
unfoldable pub too_far : Line → Bool
too_far s = too_large s.start || too_large s.end

-- 12: node i is laid, and an edge of it is so
unfoldable pub far_node : (ℕ → ℕ → Float) → List Float → List ℕ → ℕ → Bool
far_node near rs ms i = laid_at ms i && (too_far (span_of near rs 0 i) || too_far (span_of near rs 1 i))

-- each edge at its nearest whole pixel; a size is the difference of two such edges
unfoldable pub on_pixels : Line → Line → PixelBox
on_pixels across down =
    record {
      x = whole_pixel across.start;
      y = whole_pixel down.start;
      width = whole_pixel across.end -ℤ whole_pixel across.start;
      height = whole_pixel down.end -ℤ whole_pixel down.start;
    }

-- what a node that is not laid gets
abbrev pub no_box : PixelBox
no_box = record { x = pos 0; y = pos 0; width = pos 0; height = pos 0 }

unfoldable pub box_of : (ℕ → ℕ → Float) → List Float → List ℕ → ℕ → PixelBox
box_of near rs ms i = cond (laid_at ms i) (on_pixels (span_of near rs 0 i) (span_of near rs 1 i)) no_box

-- of n nodes from node i on
unfoldable pub boxes_of : (ℕ → PixelBox) → ℕ → ℕ → List ℤ
boxes_of box i zero = []
boxes_of box i (suc n) = (box i).x ∷ (box i).y ∷ (box i).width ∷ (box i).height ∷ boxes_of box (i + 1) n
