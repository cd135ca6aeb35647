use Rattle.rows.proofs.Edits.{in_run_lem, not_in_run}
use Rattle.rows.proofs.in_run.Goals as goal

pub returns-then-base-e : goal.returns-then-base-e
returns-then-base-e c = in_run_lem _ _ _ c.if-base-e.true

pub returns : goal.returns
returns c = not_in_run _ _ _ c.if-base-e.false
