-- The width pass does not read fractions of heights: with these auto, it gives every node the same probe words.
use Rattle.geometry.specs.declared.Size.{Size}
use Rattle.std.specs.Prelude.{◌≡◌, refl, Float, Option, None}
use Rattle.length.specs.declared.AvailableSpace.{AvailableSpace}
use Rattle.style.specs.Flow.{flow_of}
use Rattle.style.specs.declared.Flow.{Flow}
use Rattle.style.specs.declared.Flow.TheVariants.{Gone, Out, In}
use Rattle.style.specs.declared.Style.{Style}
use Rattle.tree.specs.Tree.{Tree, map_t}
use Rattle.steps.specs.Sizing.{step_a, step_d, known_of, gutter, insets}
use Rattle.steps.specs.Width.{side_margins, outer_width, want_in, want_of}
use Rattle.steps.specs.Page.{Site, Cell, Node}
use Rattle.steps.specs.Probe.{space_in, found_width, width_pass}
use Rattle.steps.specs.declared.LayoutInput.{LayoutInput}
use Rattle.laws.specs.Restyled.{site_by, cell_by, node_by, on_passed, Unseen, pass-restyled}
use Rattle.percent.specs.Widths.{auto_heights, auto_a}

-- a page with auto for fractions of heights
abbrev pub auto_site : Site → Site
auto_site s = site_by auto_heights s

abbrev pub auto_cell : Cell → Cell
auto_cell c = cell_by auto_heights c

abbrev pub auto_node : Node → Node
auto_node n = node_by auto_heights n

-- what the pass reads of a style
pub auto_flow : (s : Style) → flow_of (auto_heights s) ≡ flow_of s
unfolding flow_of
auto_flow s = refl

want_in_lem : (f : Flow) (s : Style) (a : AvailableSpace) → want_in f (auto_heights s) a ≡ want_in f s a
unfolding want_in side_margins
want_in_lem Gone s a = refl
want_in_lem Out s a = refl
want_in_lem In s a = rw (auto_a s None)

want_auto : (s : Style) (a : AvailableSpace) → want_of (auto_heights s) a ≡ want_of s a
unfolding want_of
want_auto s a = rw (auto_flow s) (want_in_lem (flow_of s) s a)

outer_auto : (s : Style) (a : AvailableSpace) (w : Float) → outer_width (auto_heights s) a w ≡ outer_width s a w
unfolding outer_width side_margins
outer_auto s a w = rw (auto_a s None)

space_auto : (s : Style) (p : Option Float) (a : AvailableSpace) → space_in (auto_heights s) p a ≡ space_in s p a
unfolding space_in insets gutter
space_auto s p a = rw (auto_a s p)

found_auto : (s : Style) (p : Option Float) (m : Float) → found_width (auto_heights s) p m ≡ found_width s p m
unfolding found_width insets gutter
found_auto s p m = rw (auto_a s p)

pub known_auto : (s : Style) (p : Option Float) (k : Size (Option Float)) → known_of (auto_heights s) (step_a (auto_heights s) p) k ≡ known_of s (step_a s p) k
unfolding known_of step_d
known_auto s p k = rw (auto_a s p)

unseen : Unseen auto_heights
unseen = record {
  leaf = λ s. refl;
  measure = λ s a. refl;
  want = want_auto;
  outer = outer_auto;
  space = space_auto;
  found = found_auto;
  known = known_auto;
}

-- the whole pass
pub pass_auto : (t : Tree Cell) (q : LayoutInput) → width_pass (map_t auto_cell t) q ≡ on_passed auto_heights (width_pass t q)
pass_auto t q = pass-restyled auto_heights unseen t q
