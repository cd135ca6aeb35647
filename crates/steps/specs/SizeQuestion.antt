-- Steps C and G: what a size question answers.
--   C  both known answers them; width-only with width known        width_known; whole: step_c
--   G  known height answers, floored; width-only, (width, 0)       whole: step_g
--   D, F and G                                                     size_below
-- a size question, whole: size_of.
use Rattle.std.specs.Prelude.{Float, Option, None, Some, unwrap_or}
use Rattle.geometry.specs.Geometry.{zero_f, down}
use Rattle.geometry.specs.declared.Size.{Size}
use Rattle.util.specs.Math.{larger}
use Rattle.tree.specs.Tree.{Tree, Forest, node, map_t}
use Rattle.steps.specs.Sizing.{step_a, step_b, step_d}
use Rattle.steps.specs.Page.{Site, blank}
use Rattle.steps.specs.Probe.{width_pass}
use Rattle.steps.specs.Kept.{Laid}
use Rattle.steps.specs.Layout.{fresh}
use Rattle.steps.specs.declared.Sizing.{Sizing}
use Rattle.steps.specs.declared.LayoutInput.{LayoutInput}
use Rattle.steps.specs.declared.RequestedAxis.{RequestedAxis}
use Rattle.steps.specs.declared.RequestedAxis.TheVariants.{Horizontal, Both}

unfoldable pub axes : Float → Float → Size Float
axes w h = record { width = w; height = h }

-- C, with the width known
unfoldable pub width_known : RequestedAxis → Float → Option Float → Size Float → Size Float
width_known a w (Some h) rest = axes w h
width_known Horizontal w None rest = axes w zero_f
width_known Both w None rest = rest

-- C, before D: both known answers them; width-only with width known, (width, 0)
unfoldable pub step_c : RequestedAxis → Option Float → Option Float → Size Float → Size Float
step_c a (Some w) h rest = width_known a w h rest
step_c a None h rest = rest

-- G, with the width settled: known height answers, larger with padding+border; width-only answers (width, 0)
unfoldable pub step_g : RequestedAxis → Float → Float → Option Float → Size Float → Size Float
step_g a width pb (Some h) whole = axes width (larger h pb)
step_g Horizontal width pb None whole = axes width zero_f
step_g Both width pb None whole = whole

-- D, F and G
unfoldable pub size_below : RequestedAxis → Sizing → Size (Option Float) → Float → Size Float → Size Float
size_below a z known found whole = step_g a (unwrap_or known.width found) (down z.both) known.height whole

-- the size of a page: C, D, F, G, else the whole layout's
unfoldable pub size_of : Tree Site → LayoutInput → RequestedAxis → Size Float
size_of (node l ks) q a =
    let z = step_a l.style q.parent in
    let b = step_b z q.known in
    step_c a b.width b.height (size_below a z (step_d l.style z b) (width_pass (map_t blank (node l ks)) q).found (fresh (node l ks) q).out.size)
