-- Chains of relayouts (Demand3, 2).
use Rattle.std.specs.Prelude.{◌≡◌, refl}
use Rattle.std.proofs.Common.{ap}
use Rattle.tree.specs.Tree.{Tree}
use Rattle.steps.specs.Row.{Row}
use Rattle.steps.specs.Page.{Site}
use Rattle.steps.specs.Kept.{Laid}
use Rattle.steps.specs.Layout.{fresh}
use Rattle.steps.specs.declared.LayoutInput.{LayoutInput}
use Rattle.laws.specs.Demand3.{Chain, first_laid, then_laid}
use Rattle.laws.proofs.Demand3.{relayout_is_fresh}

-- Such rows are the fresh rows of the last page and question.
pub chain_is_fresh : (t : Tree Site) (q : LayoutInput) (rows : Tree Row) → Chain t q rows → rows ≡ (fresh t q).rows
chain_is_fresh t q rows (first_laid u p) = refl
chain_is_fresh t q rows (then_laid u r p c honest leaves) = ap (λ (l : Laid). l.rows) (relayout_is_fresh u r p (chain_is_fresh _ r _ c) honest leaves)
