-- Two pages that differ only below a node that a relayout keeps, on rows that a layout left: all that `relayouts_agree` supposes, and that the pages do differ.
use Rattle.std.specs.Prelude.{◌≡◌, refl, [], ℕ, ◌<◌}
use Rattle.std.proofs.Common.{ap, ◌∙◌}
use Rattle.steps.specs.Page.{nodes_in}
use Rattle.steps.specs.Results.{relayout_result}
use Rattle.laws.specs.Trees.{false_true}
use Rattle.laws.specs.Tables.{Checks, AgreeAt}
use Rattle.laws.proofs.Demand3.{relayouts_agree}
use Rattle.laws.specs.Examples.{free, probe_words}
use Rattle.chains.specs.Pages.{tall, leaf_high, changed, four_tall, same_shape}
use Rattle.chains.specs.Chain.{first, box}
use Rattle.chains.specs.Agreed.{below_first, below_leaf, tall_passes, high_passes}

-- the leaf lies below A; no other node is changed
pub agree : (i : ℕ) → i < nodes_in probe_words → AgreeAt probe_words tall probe_words leaf_high (below_first i) i
unfolding leaf_high
agree i h = record { same = λ e. changed probe_words tall 4 2 _ _ i four_tall refl (λ p. false_true (below_first i) e (ap below_first p ∙ below_leaf)); kind = refl; position = refl }

-- so the theorem says of these two pages that one result is left
pub agreed : Checks → relayout_result probe_words tall first.rows first.marks [] [] box free ≡ relayout_result probe_words leaf_high first.rows first.marks [] [] box free
agreed c = relayouts_agree c probe_words tall probe_words leaf_high first.rows first.marks [] [] box free (same_shape probe_words) agree tall_passes high_passes
