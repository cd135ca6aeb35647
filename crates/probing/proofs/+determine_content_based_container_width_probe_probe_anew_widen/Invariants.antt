use mathlib.Core.Path.{◌≡◌, refl, sym, ap, ◌∙◌}
use native.Mathlib.Omega.{arith}
use borrow.Author.Rules.{rules}
use lib.ListN.{length}
use Rattle.tree.specs.Tree.{Forest}
use Rattle.steps.specs.Page.{Cell}
use Rattle.style.specs.Flow.{is_leaf}
use Rattle.style.specs.declared.Measure.{Measure}
use Rattle.style.specs.declared.Style.{Style}
use Rattle.steps.specs.Width.{leaf_width}
use Rattle.reader.specs.Reader.{kind_at, measure_at_lem}
use Rattle.walks.specs.Tables.{TabledF}
use Rattle.walks.proofs.Given.{facts}
use Rattle.probing.proofs.WidestLoop.{Rest, Turn, begin, turn, end}
use Rattle.probing.proofs.OneTree.{probe_stood, probe_noted, anew-at-once, anew-inside, widened-past, widened-probe, all_rows}
use Prim.Native.Nat.{ℕ, ◌+◌, ◌*◌, ◌-◌, ◌≤◌, ◌<◌}
use Rattle.widths.specs.AtOnce.{width_at_once}
use Rattle.probing.proofs.+determine_content_based_container_width_probe_probe_anew_widen.Given as goal

abbrev pub decreases-determine_content_based_container_width : goal.decreases-determine_content_based_container_width
decreases-determine_content_based_container_width l = 4 * l.depth + 3

abbrev pub decreases-probe : goal.decreases-probe
decreases-probe l = 4 * l.depth + 1

abbrev pub decreases-probe_anew : goal.decreases-probe_anew
decreases-probe_anew l = 4 * l.depth

abbrev pub decreases-widen : goal.decreases-widen
decreases-widen l = 4 * l.depth + 2

abbrev pub invariant-determine_content_based_container_width-loop-i : goal.invariant-determine_content_based_container_width-loop-i
invariant-determine_content_based_container_width-loop-i l = (length l.rows ≡ length l.initial.rows) × (length l.marks ≡ length l.initial.marks) × (4 * l.i ≤ length l.words)
    × ((ts : Forest Cell) → TabledF l.words l.numbers l.initial.rows l.initial.marks l.edits l.base ts → Rest l.words l.numbers l.rows l.marks l.edits l.base l.a ts l.most l.i)

abbrev pub decreases-determine_content_based_container_width-loop-i : goal.decreases-determine_content_based_container_width-loop-i
decreases-determine_content_based_container_width-loop-i l = length l.words - l.i
