-- Demand 3 of the public functions: what their contracts promise at exit, put together.
use Rattle.steps.specs.declared.Refusal.{Refusal}
use Rattle.std.specs.Prelude.{◌≡◌, List, ℕ, Float, Result, Ok}
use Rattle.steps.specs.Noes.{relayout_tested}
use Rattle.steps.specs.Results.{layout_result, relayout_result}
use Rattle.steps.specs.declared.LayoutInput.{LayoutInput}
use Rattle.laws.specs.Tables.{SameShape, Named, Calls}
use Rattle.layout.specs.Public.{Replied}
use Rattle.claims.specs.Claims.{relayout_is_layout}
use Rattle.claims.specs.AtExit.{Alike, one_reply}

-- `relayout` on rows that calls left, and `layout` on the same page: they end alike
pub relayout_ends_as_layout : (ws : List ℕ) (xs : List Float) (q : LayoutInput) (rs : List Float) (ms : List ℕ) (ws' : List ℕ) (xs' : List Float) (cw : List ℕ) (cx : List Float) (es : List ℕ) (p : LayoutInput) (a b : Result ℕ Refusal) (r1 r2 : List Float) (m1 m2 w1 w2 : List ℕ) (x1 x2 : List Float)
    → Calls ws xs q rs ms → SameShape ws ws' → Named es ws xs ws' xs' → relayout_tested ws' xs' rs ms cw cx es p ≡ Ok tt → Replied (relayout_result ws' xs' rs ms cw cx es p) a r1 m1 w1 x1 → Replied (layout_result ws' xs' rs ms cw cx p) b r2 m2 w2 x2
    → Alike a b r1 r2 m1 m2 w1 w2 x1 x2
relayout_ends_as_layout ws xs q rs ms ws' xs' cw cx es p a b r1 r2 m1 m2 w1 w2 x1 x2 calls shape named pass x y =
    one_reply _ _ a b r1 r2 m1 m2 w1 w2 x1 x2 (relayout_is_layout ws xs q rs ms ws' xs' cw cx es p calls shape named pass) x y
