-- What is held of a child while it is laid out: its item but for E's numbers.
use Rattle.std.specs.Prelude.{◌≡◌}
use Rattle.std.proofs.Common.{ap}
use Rattle.steps.specs.declared.BlockItem.{BlockItem}
use Rattle.steps.specs.declared.Sizing.{Sizing}
use Rattle.stacking.specs.declared.Footing.{Footing}

-- of an item
unfoldable pub footing_of : BlockItem → Footing
footing_of i = record { margin = i.margin; left = i.left; right = i.right; offset = i.offset }

-- an item with this footing, whatever E's numbers are: no place asks for them
abbrev pub item_with : Sizing → Footing → BlockItem
item_with z g = record { sizing = z; margin = g.margin; left = g.left; right = g.right; offset = g.offset }

pub with_footing : (i : BlockItem) (g : Footing) → g ≡ footing_of i → item_with i.sizing g ≡ i
unfolding footing_of
with_footing i g h = ap (item_with i.sizing) h
