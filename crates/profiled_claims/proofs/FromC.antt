-- The yes exactly; and 11 from C, by the number and place in the word that a call returns.
use Rattle.std.specs.Prelude.{List, ℕ, Float}
use Rattle.steps.specs.declared.LayoutInput.{LayoutInput}
use Rattle.tables.proofs.Exactly.{Exactly}
use Rattle.profiled.specs.Profiled.{profiled_layout_result, profiled_relayout_result}
use Rattle.asked.specs.Halves.{Halves}
use Rattle.face.specs.AsProfile.{ProfileAnswered}
use Rattle.profiled_claims.specs.Eleven.{OutsideAt, EarlySound}
use Rattle.profiled_claims.proofs.Eleven.{layout-eleven, relayout-eleven}
use Rattle.profiled_claims.specs.FromC.{by_word}

module _ (ws : List ℕ) (xs rs : List Float) (ms cw : List ℕ) (cx : List Float) (q : LayoutInput) (k r : ℕ) (rs' : List Float) (ms' cw' : List ℕ) (cx' : List Float) where
  pub c-layout-eleven : ProfileAnswered (profiled_layout_result ws xs rs ms cw cx q) r rs' ms' cw' cx' → Exactly (Halves (11, k) r) (EarlySound ws xs rs ms q × OutsideAt ws xs q k)
  c-layout-eleven c = by_word _ k r c.answer_is (layout-eleven ws xs rs ms cw cx q k)

  pub c-relayout-eleven : (es : List ℕ) → ProfileAnswered (profiled_relayout_result ws xs rs ms cw cx es q) r rs' ms' cw' cx' → Exactly (Halves (11, k) r) (EarlySound ws xs rs ms q × OutsideAt ws xs q k)
  c-relayout-eleven es c = by_word _ k r c.answer_is (relayout-eleven ws xs rs ms cw cx q k es)
