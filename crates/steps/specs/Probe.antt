-- The width pass: which nodes are probed, what is asked of them, and the probe words that every node is left with.
--   a probe that stands answered in its row goes no deeper         probe_stands, answered, stay
--   F: a definite available width first loses the insets           space_in
--   F: the largest from 0 over in-flow children                    probe_f, over want_of and outer_width (Width)
--   F: then add insets, clamp, larger with padding+border          found_width
--   a probed block: A, B, D, then F                                probe_known, block_probe; a probe put anew: probe_t
-- F, whole, of the page: width_pass.
use Rattle.geometry.specs.declared.Size.{Size}
use Rattle.std.specs.Prelude.{Bool, true, false, cond, not, ◌&&◌, ℕ, ◌/◌, ◌%◌, eqb, Float, Option, None, Some, is_some}
use Rattle.std.specs.Bool.{beq}
use Rattle.geometry.specs.Geometry.{zero_f, across}
use Rattle.limits.specs.Limits.{same_f}
use Rattle.util.specs.Math.{larger}
use Rattle.util.specs.Maybe.{or_zero}
use Rattle.length.specs.Available.{available_less, definite}
use Rattle.length.specs.declared.AvailableSpace.{AvailableSpace}
use Rattle.style.specs.Codes.{flag_at}
use Rattle.style.specs.declared.Style.{Style}
use Rattle.tree.specs.Tree.{Tree, Forest, node, none, more, map_t, map_f, root_t}
use Rattle.steps.specs.Sizing.{step_a, known_of, insets}
use Rattle.style.specs.Flow.{is_leaf}
use Rattle.steps.specs.Width.{want_of, outer_width, content_width, leaf_width}
use Rattle.steps.specs.Row.{Row, ProbeWords, probe_note, no_probe, available_kind}
use Rattle.steps.specs.Page.{Cell, Node, any_t, edits, cleared, staying, probed_anew}
use Rattle.steps.specs.declared.ProbeInput.{ProbeInput}
use Rattle.steps.specs.declared.LayoutInput.{LayoutInput}
use Rattle.steps.specs.declared.Want.{Want}
use Rattle.steps.specs.declared.Want.TheVariants.{Nothing, Outer}
use Rattle.steps.specs.declared.Want.TheVariants as want

-- a probe stands answered in a row: numbers 11-12, bits 5-7 with the same bits, bit 4 set
unfoldable pub probe_stands : ProbeInput → Row → Bool
probe_stands q r =
    flag_at r.bits 4
    && (same_f r.probe.width (or_zero (definite q.available))
    && (same_f r.probe.height (or_zero q.height) && (eqb (r.bits / 32 % 4) (available_kind q.available) && beq (flag_at r.bits 7) (is_some q.height))))

-- a probe that stands so, no edit at or below, is answered by 13 and goes no deeper
unfoldable pub answered : Tree Cell → ProbeInput → Bool
answered t q = not (any_t edits t) && probe_stands q (root_t t).old

-- a probe's answer, and the nodes of the subtree after it
pub record Probed : Type 0 where
  pub answer : Float
  pub nodes : Tree Node

-- the largest outer width so far, and the nodes
pub record Widest : Type 0 where
  pub most : Float
  pub nodes : Forest Node

-- the known sizes of a probed block: no width asked, no parent width
unfoldable pub probe_known : Style → ProbeInput → Size (Option Float)
probe_known s q = known_of s (step_a s None) (record { width = None; height = q.height })

-- F: a definite available width first loses the insets
unfoldable pub space_in : Style → Option Float → AvailableSpace → AvailableSpace
space_in s parent a = available_less a (across (insets s (step_a s parent).both))

-- F: the width that the widest child gives
unfoldable pub found_width : Style → Option Float → Float → Float
found_width s parent most = content_width (step_a s parent) (insets s (step_a s parent).both) most

unfoldable pub asked : Cell → ProbeInput → Float → Forest Node → Probed
asked l q answer ks = record { answer = answer; nodes = node (probed_anew l (probe_note q answer)) ks }

-- a probed block: a width that B or D gives, else F
unfoldable pub block_probe : Cell → ProbeInput → Forest Cell → Option Float → Widest → Probed
block_probe l q ks (Some w) r = asked l q w (map_f cleared ks)
block_probe l q ks None r = asked l q (found_width l.site.style None r.most) r.nodes

unfoldable pub stay : Tree Cell → Probed
stay t = record { answer = (root_t t).old.probe.answer; nodes = map_t staying t }

unfoldable pub widen : Float → Tree Node → (Float → Widest) → Widest
widen m t rest =
    let r = rest m in
    record { most = r.most; nodes = more t r.nodes }

-- A probe put anew, and the in-flow children of a container without a width, one after the other; m is the largest so far.
unfoldable mutual
  pub probe_t : Tree Cell → ProbeInput → Probed
  probe_t (node l ks) q =
      elim (is_leaf l.site.style.kind) [
        | true ↦ asked l q (leaf_width l.site.style.measure q.available) (map_f cleared ks)
        | false ↦ block_probe l q ks (probe_known l.site.style q).width (probe_f ks (space_in l.site.style None q.available) zero_f)
      ]

  pub probe_f : Forest Cell → AvailableSpace → Float → Widest
  probe_f none a m = record { most = m; nodes = none }
  probe_f (more t ts) a m =
      elim (want_of (root_t t).site.style a) [
        | Nothing ↦ widen m (map_t cleared t) (probe_f ts a)
        | Outer w ↦ widen (larger m w) (map_t cleared t) (probe_f ts a)
        | want.Probe q ↦
            let p : Probed = elim (answered t q) [ true ↦ stay t | false ↦ probe_t t q ] in
            widen (larger m (outer_width (root_t t).site.style a p.answer)) p.nodes (probe_f ts a)
      ]

-- what a child is answered
unfoldable pub ask_p : Tree Cell → ProbeInput → Probed
ask_p t q = cond (answered t q) (stay t) (probe_t t q)

-- the page after the width pass, and the width that F found; the root itself is not probed
pub record Passed : Type 0 where
  pub found : Float
  pub nodes : Tree Node

unfoldable pub pass_by : Cell → Forest Cell → Option Float → Option Float → Widest → Passed
pass_by l ks (Some w) parent r = record { found = zero_f; nodes = node (cleared l) (map_f cleared ks) }
pass_by l ks None parent r = record { found = found_width l.site.style parent r.most; nodes = node (cleared l) r.nodes }

unfoldable pub width_pass : Tree Cell → LayoutInput → Passed
width_pass (node l ks) q =
    pass_by l ks (known_of l.site.style (step_a l.site.style q.parent) q.known).width q.parent
    (probe_f ks (space_in l.site.style q.parent q.available) zero_f)
