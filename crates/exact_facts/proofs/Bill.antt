-- A bill in whole pixels, 14 nodes: title, two lines of what and amount, a chart, a sum with a total that is moved up and a stamp out of flow, the day it is due.
-- It is of the profile, and both engines give the same boxes; all computed.
use Rattle.std.specs.Prelude.{replicate}
use Rattle.geometry.specs.Geometry.{zero_f}
use Rattle.steps.specs.Results.{layout_result}
use Rattle.exact.specs.OnTables.{rows_z, ExactReply}
use Rattle.exact.proofs.OnTables.{layout_is_exact}
use Rattle.exact_facts.specs.Bill.{bill_words, bill_numbers, bill_question, bill_in_profile, bill_tested}

pub bill_is_exact : ExactReply (layout_result bill_words bill_numbers (replicate 224 zero_f) (replicate 28 0) (replicate 2 0) (replicate 3 zero_f) bill_question) (rows_z bill_words bill_numbers bill_question) (replicate 2 0) (replicate 3 zero_f)
bill_is_exact = layout_is_exact bill_words bill_numbers (replicate 224 zero_f) (replicate 28 0) (replicate 2 0) (replicate 3 zero_f) bill_question bill_tested bill_in_profile
