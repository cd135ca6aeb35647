-- At exit of the public calls: what an exact call leaves in lent memory, and rows that any accepted calls left.
use Rattle.steps.specs.declared.Refusal.{Refusal}
use Rattle.std.specs.Prelude.{◌≡◌, List, ℕ, Float, None, Result, Ok}
use Rattle.steps.specs.Noes.{relayout_tested}
use Rattle.steps.specs.Results.{relayout_result}
use Rattle.steps.specs.declared.LayoutInput.{LayoutInput}
use Rattle.laws.specs.Tables.{SameShape, Named, Calls, laid_out, laid_again}
use Rattle.laws.specs.Answers.{layout_accepted, relayout_accepted}
use Rattle.layout.specs.Public.{Replied}
use Rattle.claims.specs.EveryCall.{Left, left_calls}
use Rattle.profile.specs.Profile.{profile_spot}
use Rattle.exact.specs.OnTables.{rows_z, ExactReply}
use Rattle.exact.proofs.OnTables.{layout_is_exact}
use Rattle.exact_claims.specs.Relayout.{relayout_is_exact}
use Rattle.exact_claims.specs.AtExit.{exit, at_exit, ExactRows, rows_in}

pub relayout_leaves_exact : (ws : List ℕ) (xs : List Float) (q : LayoutInput) (rs : List Float) (ms : List ℕ) (ws' : List ℕ) (xs' : List Float) (cw : List ℕ) (cx : List Float) (es : List ℕ) (p : LayoutInput) (a : Result ℕ Refusal) (rs' : List Float) (ms' cw' : List ℕ) (cx' : List Float)
    → Left ws xs q rs ms → SameShape ws ws' → Named es ws xs ws' xs' → Replied (relayout_result ws' xs' rs ms cw cx es p) a rs' ms' cw' cx' → relayout_tested ws' xs' rs ms cw cx es p ≡ Ok tt → profile_spot ws' xs' p ≡ None
    → ExactReply (exit a rs' ms' cw' cx') (rows_z ws' xs' p) cw cx
relayout_leaves_exact ws xs q rs ms ws' xs' cw cx es p a rs' ms' cw' cx' left shape named c e s =
    rw (at_exit _ a rs' ms' cw' cx' c) (relayout_is_exact ws xs q rs ms ws' xs' cw cx es p (left_calls ws xs q rs ms left) shape named e s)

calls_are_exact : (ws : List ℕ) (xs : List Float) (q : LayoutInput) (rs : List Float) (ms : List ℕ) → Calls ws xs q rs ms → profile_spot ws xs q ≡ None → ExactRows rs ms (rows_z ws xs q)
calls_are_exact _ _ _ _ _ (laid_out ws xs rs ms cw cx q k e) s = rows_in _ _ cw cx (layout_is_exact ws xs rs ms cw cx q (layout_accepted ws xs rs ms cw cx q k e).passed s)
calls_are_exact _ _ _ _ _ (laid_again ws xs q rs ms ws' xs' cw cx es p k before shape named e) s =
    rows_in _ _ cw cx (relayout_is_exact ws xs q rs ms ws' xs' cw cx es p before shape named (relayout_accepted ws' xs' rs ms cw cx es p k e).passed s)

pub rows_are_exact : (ws : List ℕ) (xs : List Float) (q : LayoutInput) (rs : List Float) (ms : List ℕ) → Left ws xs q rs ms → profile_spot ws xs q ≡ None → ExactRows rs ms (rows_z ws xs q)
rows_are_exact ws xs q rs ms left s = calls_are_exact ws xs q rs ms (left_calls ws xs q rs ms left) s
