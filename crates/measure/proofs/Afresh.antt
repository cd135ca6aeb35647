-- What a fresh layout answers, and a page's size, from the sites alone.
use mathlib.Core.Path.{◌≡◌, ap, ◌∙◌}
use lib.Ieee.{Float}
use Rattle.tree.specs.Tree.{Tree, Forest, node, map_t, root_t}
use Rattle.steps.specs.Sizing.{step_a, step_b, step_d, known_of}
use Rattle.steps.specs.Page.{Site, blank}
use Rattle.steps.specs.Probe.{width_pass}
use Rattle.steps.specs.Layout.{relaid, fresh}
use Rattle.steps.specs.SizeQuestion.{step_c, size_below, size_of}
use Rattle.steps.specs.declared.LayoutInput.{LayoutInput}
use Rattle.steps.specs.declared.LayoutOutput.{LayoutOutput}
use Rattle.steps.specs.declared.RequestedAxis.{RequestedAxis}
use Rattle.measure.specs.Dry.{size_t, rest_t, dry_size}
use Rattle.measure.proofs.NothingKept.{nodes_size}
use Rattle.measure.proofs.NothingProbed.{pass_dry}

pub fresh_dry : (t : Tree Site) (q : LayoutInput) → size_t t q (width_pass (map_t blank t) q).found ≡ (fresh t q).out
unfolding fresh relaid
fresh_dry t q = nodes_size t (width_pass (map_t blank t) q).nodes (pass_dry t q).nodes q (width_pass (map_t blank t) q).found

below_dry : (s : Site) (ks : Forest Site) (q : LayoutInput) (a : RequestedAxis)
    → rest_t (node s ks) q a ≡ size_below a (step_a s.style q.parent) (step_d s.style (step_a s.style q.parent) (step_b (step_a s.style q.parent) q.known)) (width_pass (map_t blank (node s ks)) q).found (fresh (node s ks) q).out.size
unfolding rest_t known_of root_t
below_dry s ks q a =
    let k = step_d s.style (step_a s.style q.parent) (step_b (step_a s.style q.parent) q.known) in
    let z = step_a s.style q.parent in
    ap (λ (x : Float). size_below a z k x (size_t (node s ks) q x).size) (pass_dry (node s ks) q).found
    ∙ ap (λ (o : LayoutOutput). size_below a z k (width_pass (map_t blank (node s ks)) q).found o.size) (fresh_dry (node s ks) q)

pub size_dry : (t : Tree Site) (q : LayoutInput) (a : RequestedAxis) → dry_size t q a ≡ size_of t q a
unfolding dry_size size_of root_t
size_dry (node s ks) q a =
    let b = step_b (step_a s.style q.parent) q.known in
    ap (step_c a b.width b.height) (below_dry s ks q a)
