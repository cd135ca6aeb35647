-- Step F: the width pass, over whole numbers. A leaf's width.
use Rattle.std.specs.Prelude.{true, false, ℤ, pos, ◌+ℤ◌}
use Rattle.style.specs.Flow.{is_leaf}
use Rattle.style.specs.declared.Flow.{Flow}
use Rattle.style.specs.declared.Flow.TheVariants.{Gone, Out, In}
use Rattle.tree.specs.Tree.{Tree, Forest, node, none, more, map_t, map_f, root_t}
use Rattle.whole.specs.More.{max_z}
use Rattle.integers.specs.Numbers.{MayZ, NoneZ, SomeZ, SizeMay, or_zero_z, clamped_z, clamp_opt_z, across_z}
use Rattle.integers.specs.Styles.{MeasureZ, StyleZ, flow_z, AvailableZ, DefiniteZ, MinContentZ, MaxContentZ, available_less_z, InputZ, ProbeInputZ}
use Rattle.integers.specs.Boxes.{BoxZ, box_of_z, known_z, insets_z}
use Rattle.integers.specs.Rows.{ProbeWordsZ, no_probe_z, probe_note_z}

-- F: side margins; larger(width, its padding+border) + margins
unfoldable pub side_margins_z : StyleZ → ℤ
side_margins_z s = or_zero_z s.margin.left +ℤ or_zero_z s.margin.right

unfoldable pub outer_of_z : BoxZ → ℤ → ℤ → ℤ
outer_of_z z margins width = max_z width (across_z z.both) +ℤ margins

unfoldable pub outer_width_z : StyleZ → ℤ → ℤ
outer_width_z s width = outer_of_z (box_of_z s) (side_margins_z s) width

-- what F wants of a child: nothing, its outer width, or a probe
pub data WantZ : Type 0 where
  NothingZ : WantZ
  OuterZ : ℤ → WantZ
  ProbeZ : ProbeInputZ → WantZ

-- F: a child with a width gives it, clamped; one without is probed with its clamped height, at the available width less margins
unfoldable pub want_by_z : BoxZ → ℤ → AvailableZ → MayZ → WantZ
want_by_z z margins a NoneZ = ProbeZ (record { height = clamp_opt_z z.size.height z.min.height z.max.height; available = available_less_z a margins })
want_by_z z margins a (SomeZ w) = OuterZ (outer_of_z z margins w)

unfoldable pub want_sized_z : BoxZ → ℤ → AvailableZ → WantZ
want_sized_z z margins a = want_by_z z margins a (clamp_opt_z z.size.width z.min.width z.max.width)

unfoldable pub want_in_z : Flow → StyleZ → AvailableZ → WantZ
want_in_z Gone s a = NothingZ
want_in_z Out s a = NothingZ
want_in_z In s a = want_sized_z (box_of_z s) (side_margins_z s) a

unfoldable pub want_of_z : StyleZ → AvailableZ → WantZ
want_of_z s a = want_in_z (flow_z s) s a

-- F: then add insets, clamp, larger with padding+border
unfoldable pub found_width_z : StyleZ → ℤ → ℤ
found_width_z s most = max_z (clamped_z (most +ℤ across_z (insets_z s)) (box_of_z s).min.width (box_of_z s).max.width) (across_z (box_of_z s).both)

-- a leaf's table: min, max, or clamp of the definite width
unfoldable pub leaf_width_z : MeasureZ → AvailableZ → ℤ
leaf_width_z m (DefiniteZ a) = clamped_z a (SomeZ m.least) (SomeZ m.most)
leaf_width_z m MinContentZ = m.least
leaf_width_z m MaxContentZ = m.most

-- a node after the width pass
pub record NodeZ : Type 0 where
  pub style : StyleZ
  pub probe : ProbeWordsZ

unfoldable pub cleared_z : StyleZ → NodeZ
cleared_z s = record { style = s; probe = no_probe_z }

-- a probe's answer, and the nodes after it; the largest outer width so far, and the nodes
pub record ProbedZ : Type 0 where
  pub answer : ℤ
  pub nodes : Tree NodeZ

pub record WidestZ : Type 0 where
  pub most : ℤ
  pub nodes : Forest NodeZ

unfoldable pub asked_z : StyleZ → ProbeInputZ → ℤ → Forest NodeZ → ProbedZ
asked_z s q answer ks = record { answer = answer; nodes = node (record { style = s; probe = probe_note_z q answer }) ks }

-- a probed block: a width that B gives, else F
unfoldable pub block_probe_z : StyleZ → ProbeInputZ → Forest StyleZ → MayZ → WidestZ → ProbedZ
block_probe_z s q ks (SomeZ w) r = asked_z s q w (map_f cleared_z ks)
block_probe_z s q ks NoneZ r = asked_z s q (found_width_z s r.most) r.nodes

unfoldable pub widen_z : ℤ → Tree NodeZ → (ℤ → WidestZ) → WidestZ
widen_z m t rest =
    let r = rest m in
    record { most = r.most; nodes = more t r.nodes }

unfoldable pub space_in_z : StyleZ → AvailableZ → AvailableZ
space_in_z s a = available_less_z a (across_z (insets_z s))

unfoldable pub probe_known_z : StyleZ → ProbeInputZ → SizeMay
probe_known_z s q = known_z (box_of_z s) (record { width = NoneZ; height = q.height })

-- a probe, and the children of a container without a width, one after the other; m is the largest so far
unfoldable mutual
  pub probe_tz : Tree StyleZ → ProbeInputZ → ProbedZ
  probe_tz (node s ks) q =
      elim (is_leaf s.kind) [
        | true ↦ asked_z s q (leaf_width_z s.measure q.available) (map_f cleared_z ks)
        | false ↦ block_probe_z s q ks (probe_known_z s q).width (probe_fz ks (space_in_z s q.available) (pos 0))
      ]

  pub probe_fz : Forest StyleZ → AvailableZ → ℤ → WidestZ
  probe_fz none a m = record { most = m; nodes = none }
  probe_fz (more t ts) a m =
      elim (want_of_z (root_t t) a) [
        | NothingZ ↦ widen_z m (map_t cleared_z t) (probe_fz ts a)
        | OuterZ w ↦ widen_z (max_z m w) (map_t cleared_z t) (probe_fz ts a)
        | ProbeZ q ↦
            let p : ProbedZ = probe_tz t q in
            widen_z (max_z m (outer_width_z (root_t t) p.answer)) p.nodes (probe_fz ts a)
      ]

-- the page after the width pass, and the width that F found
pub record PassedZ : Type 0 where
  pub found : ℤ
  pub nodes : Tree NodeZ

unfoldable pub pass_by_z : StyleZ → Forest StyleZ → MayZ → WidestZ → PassedZ
pass_by_z s ks (SomeZ w) r = record { found = pos 0; nodes = node (cleared_z s) (map_f cleared_z ks) }
pass_by_z s ks NoneZ r = record { found = found_width_z s r.most; nodes = node (cleared_z s) r.nodes }

unfoldable pub width_pass_z : Tree StyleZ → InputZ → PassedZ
width_pass_z (node s ks) q = pass_by_z s ks (known_z (box_of_z s) q.known).width (probe_fz ks (space_in_z s q.available) (pos 0))
