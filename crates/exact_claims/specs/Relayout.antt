-- A relayout of a page of the profile is exact, from rows that calls left: with what the tests prove put in for what was supposed.
use Rattle.std.specs.Prelude.{◌≡◌, List, ℕ, Float, None, Ok}
use Rattle.steps.specs.Noes.{relayout_tested}
use Rattle.steps.specs.Results.{relayout_result}
use Rattle.steps.specs.declared.LayoutInput.{LayoutInput}
use Rattle.laws.specs.Tables.{SameShape, Named, Calls}
use Rattle.profile.specs.Profile.{profile_spot}
use Rattle.exact.specs.OnTables.{rows_z, ExactReply}
use Rattle.exact.proofs.OnTables as exact
use Rattle.claims.specs.Discharged.{checks}

-- Rows that calls left, whatever pages these were; the same shape, every changed node named; a page and a question of the profile: a relayout that passes
-- the tests is accepted, and leaves the integer engine's rows, words and candidates.
pub relayout_is_exact : (ws : List ℕ) (xs : List Float) (q : LayoutInput) (rs : List Float) (ms : List ℕ) (ws' : List ℕ) (xs' : List Float) (cw : List ℕ) (cx : List Float) (es : List ℕ) (p : LayoutInput)
    → Calls ws xs q rs ms → SameShape ws ws' → Named es ws xs ws' xs' → relayout_tested ws' xs' rs ms cw cx es p ≡ Ok tt → profile_spot ws' xs' p ≡ None
    → ExactReply (relayout_result ws' xs' rs ms cw cx es p) (rows_z ws' xs' p) cw cx
relayout_is_exact = exact.relayout_is_exact checks
