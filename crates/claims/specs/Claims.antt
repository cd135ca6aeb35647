-- Demand 3 of lent tables: theorems of crate laws, with what the tests prove put in for what was supposed.
use Rattle.std.specs.Prelude.{◌≡◌, List, ℕ, ◌<◌, Float, Ok}
use Rattle.steps.specs.Page.{nodes_in}
use Rattle.steps.specs.Noes.{relayout_tested}
use Rattle.steps.specs.Results.{layout_result, relayout_result}
use Rattle.steps.specs.declared.LayoutInput.{LayoutInput}
use Rattle.laws.specs.Tables.{SameShape, Named, Calls, AgreeAt, below_at}
use Rattle.laws.proofs.Demand3 as demand3
use Rattle.claims.specs.Discharged.{checks}

-- Rows that calls left, the same shape, every changed node named: a relayout that passes the tests has the whole result of a layout.
pub relayout_is_layout : (ws : List ℕ) (xs : List Float) (q : LayoutInput) (rs : List Float) (ms : List ℕ) (ws' : List ℕ) (xs' : List Float) (cw : List ℕ) (cx : List Float) (es : List ℕ) (p : LayoutInput)
    → Calls ws xs q rs ms → SameShape ws ws' → Named es ws xs ws' xs' → relayout_tested ws' xs' rs ms cw cx es p ≡ Ok tt → relayout_result ws' xs' rs ms cw cx es p ≡ layout_result ws' xs' rs ms cw cx p
relayout_is_layout = demand3.relayout_is_layout checks

-- Two pages that differ only below kept nodes: one result.
pub relayouts_agree : (ws : List ℕ) (xs : List Float) (ws' : List ℕ) (xs' : List Float) (rs : List Float) (ms cw : List ℕ) (cx : List Float) (es : List ℕ) (q : LayoutInput) → SameShape ws ws'
    → ((i : ℕ) → i < nodes_in ws → AgreeAt ws xs ws' xs' (below_at ws xs rs ms es q i) i) → relayout_tested ws xs rs ms cw cx es q ≡ Ok tt → relayout_tested ws' xs' rs ms cw cx es q ≡ Ok tt
    → relayout_result ws xs rs ms cw cx es q ≡ relayout_result ws' xs' rs ms cw cx es q
relayouts_agree = demand3.relayouts_agree checks
