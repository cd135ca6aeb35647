-- The width of a probed node that asks nothing of its children.
use Rattle.std.specs.Prelude.{cond, Option, Some, Float}
use Rattle.style.specs.Flow.{is_leaf}
use Rattle.style.specs.declared.Style.{Style}
use Rattle.steps.specs.Width.{leaf_width}
use Rattle.steps.specs.Probe.{probe_known}
use Rattle.steps.specs.declared.ProbeInput.{ProbeInput}

-- a leaf's, or one that B and D give
unfoldable pub width_at_once : Style → ProbeInput → Option Float
width_at_once s q = cond (is_leaf s.kind) (Some (leaf_width s.measure q.available)) (probe_known s q).width
