-- A page whose every node is steady: the rows of a fresh layout are in order, at any question.
use Rattle.std.proofs.Common.{sym, subst}
use Rattle.tree.specs.Tree.{Tree, map_t}
use Rattle.steps.specs.Page.{Site, blank}
use Rattle.steps.specs.Probe.{width_pass}
use Rattle.steps.specs.Kept.{Laid}
use Rattle.steps.specs.Layout.{fresh}
use Rattle.steps.specs.declared.LayoutInput.{LayoutInput}
use Rattle.laws.specs.Trees.{AllT}
use Rattle.order.specs.Rows.{InOrderT}
use Rattle.order.proofs.InOrder.{order_t}
use Rattle.order.specs.Fresh.{nodes_of, fresh_is, SteadySite, nodes_ok}

pub fresh_in_order : (t : Tree Site) (q : LayoutInput) → AllT SteadySite t → InOrderT (fresh t q).rows
fresh_in_order t q h = subst (λ (z : Laid). InOrderT z.rows) (sym (fresh_is t q)) (order_t (nodes_of t q) (nodes_ok t q h) q (width_pass (map_t blank t) q).found)
