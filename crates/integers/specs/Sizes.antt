-- Steps C and G: what a size question answers, over whole numbers.
use Rattle.std.specs.Prelude.{ℤ, pos}
use Rattle.steps.specs.declared.RequestedAxis.{RequestedAxis}
use Rattle.steps.specs.declared.RequestedAxis.TheVariants.{Horizontal, Both}
use Rattle.tree.specs.Tree.{Tree, node}
use Rattle.whole.specs.More.{max_z}
use Rattle.integers.specs.Numbers.{MayZ, NoneZ, SomeZ, SizeZ, SizeMay, unwrap_or_z, down_z}
use Rattle.integers.specs.Styles.{StyleZ, InputZ}
use Rattle.integers.specs.Boxes.{BoxZ, box_of_z, known_z}
use Rattle.integers.specs.Widths.{width_pass_z}
use Rattle.integers.specs.Layout.{fresh_z}

unfoldable pub axes_z : ℤ → ℤ → SizeZ
axes_z w h = record { width = w; height = h }

-- C: both known answers them; width-only with width known, (width, 0)
unfoldable pub width_known_z : RequestedAxis → ℤ → MayZ → SizeZ → SizeZ
width_known_z a w (SomeZ h) rest = axes_z w h
width_known_z Horizontal w NoneZ rest = axes_z w (pos 0)
width_known_z Both w NoneZ rest = rest

unfoldable pub step_cz : RequestedAxis → MayZ → MayZ → SizeZ → SizeZ
step_cz a (SomeZ w) h rest = width_known_z a w h rest
step_cz a NoneZ h rest = rest

-- G: known height answers, larger with padding+border; width-only answers (width, 0)
unfoldable pub step_gz : RequestedAxis → ℤ → ℤ → MayZ → SizeZ → SizeZ
step_gz a width pb (SomeZ h) whole = axes_z width (max_z h pb)
step_gz Horizontal width pb NoneZ whole = axes_z width (pos 0)
step_gz Both width pb NoneZ whole = whole

unfoldable pub size_below_z : RequestedAxis → BoxZ → SizeMay → ℤ → SizeZ → SizeZ
size_below_z a z known found whole = step_gz a (unwrap_or_z known.width found) (down_z z.both) known.height whole

-- the size of a page
unfoldable pub size_of_z : Tree StyleZ → InputZ → RequestedAxis → SizeZ
size_of_z (node s ks) q a =
    let z = box_of_z s in
    let b = known_z z q.known in
    step_cz a b.width b.height (size_below_z a z b (width_pass_z (node s ks) q).found (fresh_z (node s ks) q).out.size)
