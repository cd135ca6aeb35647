-- 11 is given exactly if 1 to 4 are not due and the page or the question is not of the profile, at its place; and it leaves all as lent.
use Rattle.profiled.specs.declared.ProfileRefusal.TheVariants.{Outside}
use Rattle.std.specs.Prelude.{◌≡◌, List, ℕ, Float, Some, Ok, Err}
use Rattle.std.proofs.Math.Path.{ap}
use Rattle.steps.specs.declared.LayoutInput.{LayoutInput}
use Rattle.steps.specs.Results.{layout_result, relayout_result}
use Rattle.tables.proofs.Exactly.{Exactly}
use Rattle.profile.specs.Profile.{profile_spot}
use Rattle.tables.specs.Early.{early_tested}
use Rattle.profiled.specs.Profiled.{ProfileReply, profiled_layout_result, profiled_relayout_result}
use Rattle.profiled_claims.specs.Cases.{eleven-at, at-eleven}
use Rattle.profiled_claims.specs.Eleven.{OutsideAt, place_is, EarlySound, early_exactly}

-- ---- layout and relayout
module _ (ws : List ℕ) (xs rs : List Float) (ms cw : List ℕ) (cx : List Float) (q : LayoutInput) (k : ℕ) where
  eleven : early_tested ws xs rs ms q ≡ Ok tt → profile_spot ws xs q ≡ Some k → EarlySound ws xs rs ms q × OutsideAt ws xs q k
  eleven e f = ((early_exactly ws xs rs ms q).only e, (place_is ws xs q k).only f)

  -- all as lent
  abbrev pub outside_reply : ProfileReply
  outside_reply = record { answer = Err (Outside k); rows = rs; marks = ms; words = cw; numbers = cx }

  pub layout-eleven-leaves : EarlySound ws xs rs ms q → OutsideAt ws xs q k → profiled_layout_result ws xs rs ms cw cx q ≡ outside_reply
  unfolding profiled_layout_result
  layout-eleven-leaves s o = at-eleven (layout_result ws xs rs ms cw cx q) rs ms cw cx (early_tested ws xs rs ms q) (profile_spot ws xs q) k ((early_exactly ws xs rs ms q).given s) ((place_is ws xs q k).given o)

  pub layout-eleven : Exactly ((profiled_layout_result ws xs rs ms cw cx q).answer ≡ Err (Outside k)) (EarlySound ws xs rs ms q × OutsideAt ws xs q k)
  unfolding profiled_layout_result
  layout-eleven =
      record {
        only = λ e. (let z = eleven-at (layout_result ws xs rs ms cw cx q) rs ms cw cx (early_tested ws xs rs ms q) (profile_spot ws xs q) k e in eleven z.0 z.1);
        given = λ g. ap (λ (r : ProfileReply). r.answer) (layout-eleven-leaves g.0 g.1);
      }

  pub relayout-eleven-leaves : (es : List ℕ) → EarlySound ws xs rs ms q → OutsideAt ws xs q k → profiled_relayout_result ws xs rs ms cw cx es q ≡ outside_reply
  unfolding profiled_relayout_result
  relayout-eleven-leaves es s o = at-eleven (relayout_result ws xs rs ms cw cx es q) rs ms cw cx (early_tested ws xs rs ms q) (profile_spot ws xs q) k ((early_exactly ws xs rs ms q).given s) ((place_is ws xs q k).given o)

  pub relayout-eleven : (es : List ℕ) → Exactly ((profiled_relayout_result ws xs rs ms cw cx es q).answer ≡ Err (Outside k)) (EarlySound ws xs rs ms q × OutsideAt ws xs q k)
  unfolding profiled_relayout_result
  relayout-eleven es =
      record {
        only = λ e. (let z = eleven-at (relayout_result ws xs rs ms cw cx es q) rs ms cw cx (early_tested ws xs rs ms q) (profile_spot ws xs q) k e in eleven z.0 z.1);
        given = λ g. ap (λ (r : ProfileReply). r.answer) (relayout-eleven-leaves es g.0 g.1);
      }
