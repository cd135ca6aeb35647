-- A fresh layout leaves a row for every node of the page: the trees have one shape.
use Rattle.std.specs.Prelude.{◌≡◌}
use Rattle.std.proofs.Common.{sym, ap, ◌∙◌}
use Rattle.tree.specs.Tree.{Tree, map_t}
use Rattle.tree.proofs.Laws.{map_map_t}
use Rattle.steps.specs.Page.{Site, Cell, blank}
use Rattle.steps.specs.Probe.{width_pass}
use Rattle.steps.specs.Layout.{relaid, fresh}
use Rattle.steps.specs.declared.LayoutInput.{LayoutInput}
use Rattle.steps.proofs.Shape.{mute, shape_t}
use Rattle.steps.proofs.Cells.{pass_cells, cell_in}

pub pass_shape : (t : Tree Cell) (q : LayoutInput) → map_t mute (width_pass t q).nodes ≡ map_t mute t
pass_shape t q = sym (map_map_t mute cell_in (width_pass t q).nodes) ∙ ap (map_t mute) (pass_cells t q)

pub relaid_shape : (t : Tree Cell) (q : LayoutInput) → map_t mute (relaid t q).rows ≡ map_t mute t
unfolding relaid
relaid_shape t q = shape_t (width_pass t q).nodes q (width_pass t q).found ∙ pass_shape t q

pub fresh_shape : (t : Tree Site) (q : LayoutInput) → map_t mute (fresh t q).rows ≡ map_t mute t
unfolding fresh
fresh_shape t q = relaid_shape (map_t blank t) q ∙ map_map_t mute blank t
