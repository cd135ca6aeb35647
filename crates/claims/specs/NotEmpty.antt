-- The computed examples of demand 3 on lent tables, with nothing left to suppose.
use Rattle.std.specs.Prelude.{◌≡◌, []}
use Rattle.steps.specs.Results.{layout_result, relayout_result}
use Rattle.laws.specs.Examples.{free, probe_words}
use Rattle.chains.specs.Pages.{tall, taller, leaf_high}
use Rattle.chains.specs.Chain.{box, first, second, third}
use Rattle.chains.proofs.Chain as chain
use Rattle.chains.proofs.Agreed as agreed
use Rattle.claims.specs.Discharged.{checks}

-- the last of a layout and two relayouts gives what a layout gives
pub third_is_layout : third ≡ layout_result probe_words taller second.rows second.marks [] [] free
third_is_layout = chain.third_is_layout checks

-- two pages that differ below a kept node leave one result
pub two_pages_agree : relayout_result probe_words tall first.rows first.marks [] [] box free ≡ relayout_result probe_words leaf_high first.rows first.marks [] [] box free
two_pages_agree = agreed.agreed checks
