-- The calls from C: what holds of the plain calls, by the number and place in the word that they return.
use Rattle.steps.specs.declared.Refusal.{Refusal}
use Rattle.std.specs.Prelude.{◌≡◌, false, List, [], Float, Result, Ok, Err}
use Rattle.std.proofs.Math.Path.{refl, ap}
use Rattle.std.proofs.Common.{◌∙◌, subst, arith, sym}
use Prim.Native.Nat.{ℕ, ◌/◌, ◌^◌, ◌≤◌}
use Rattle.geometry.specs.declared.Size.{Size}
use Rattle.steps.specs.Page.{page_of}
use Rattle.steps.specs.Noes.{paper, refusal_paper}
use Rattle.steps.specs.SizeQuestion.{size_of}
use Rattle.steps.specs.Results.{layout_result, relayout_result, size_result, size_paper}
use Rattle.steps.specs.declared.LayoutInput.{LayoutInput}
use Rattle.steps.specs.declared.RequestedAxis.{RequestedAxis}
use Rattle.tables.specs.Refusals.{SizeDue}
use Rattle.tables.proofs.Exactly.{Exactly}
use Rattle.asked.specs.Halves.{Halves}
use Rattle.face.specs.Answered.{Answered}
use Rattle.face.specs.Answered as face
use Rattle.answers.specs.Settled.{refusal_settles, no_zero}
use Rattle.outcomes.specs.Left.{LeftBy}
use Rattle.outcomes.specs.Layout.{LayoutGiven}
use Rattle.outcomes.proofs.LayoutLaws.{layout-answers, layout-leaves}
use Rattle.outcomes.specs.Relayout.{RelayoutGiven}
use Rattle.outcomes.proofs.Relayout.{relayout-answers, relayout-leaves}
use Rattle.outcomes.specs.Sizes.{SizeGiven, large_size}
use Rattle.outcomes.proofs.Sizes.{size-gives}
use Rattle.outcomes.specs.C.{one_pair, plain_reply, by_word}

module _ (ws : List ℕ) (xs rs : List Float) (ms cw : List ℕ) (cx : List Float) (q : LayoutInput) (r : ℕ) (rs' : List Float) (ms' cw' : List ℕ) (cx' : List Float) (call : Answered (layout_result ws xs rs ms cw cx q) r rs' ms' cw' cx') where
  pub c-layout-gives : (b : Result ℕ Refusal) → Exactly (Halves (paper b) r) (LayoutGiven ws xs rs ms cw cx q b)
  c-layout-gives b = by_word _ b r _ call.answer_is (layout-answers ws xs rs ms cw cx q _ refl b)

  pub c-layout-leaves : LeftBy (r / 2 ^ 32) rs rs' ms ms' cw cw' cx cx'
  c-layout-leaves = rw call.answer_is.number_is (layout-leaves ws xs rs ms cw cx q _ rs' ms' cw' cx' (plain_reply _ r rs' ms' cw' cx' call))

module _ (ws : List ℕ) (xs rs : List Float) (ms cw : List ℕ) (cx : List Float) (es : List ℕ) (q : LayoutInput) (r : ℕ) (rs' : List Float) (ms' cw' : List ℕ) (cx' : List Float)
    (call : Answered (relayout_result ws xs rs ms cw cx es q) r rs' ms' cw' cx') where
  pub c-relayout-gives : (b : Result ℕ Refusal) → Exactly (Halves (paper b) r) (RelayoutGiven ws xs rs ms cw cx es q b)
  c-relayout-gives b = by_word _ b r _ call.answer_is (relayout-answers ws xs rs ms cw cx es q _ refl b)

  pub c-relayout-leaves : LeftBy (r / 2 ^ 32) rs rs' ms ms' cw cw' cx cx'
  c-relayout-leaves = rw call.answer_is.number_is (relayout-leaves ws xs rs ms cw cx es q _ rs' ms' cw' cx' (plain_reply _ r rs' ms' cw' cx' call))

-- a size question: a refusal by its number and place, and 0 with the size
module _ (ws : List ℕ) (xs : List Float) (q : LayoutInput) (axis : RequestedAxis) (r : ℕ) (size : List Float) where
  refusal_is : (want : Result (Size Float) Refusal) (a : Refusal) → Halves (size_paper want).0 r → Halves (refusal_paper a) r → want ≡ Err a
  unfolding size_paper
  refusal_is (Ok s) a h k = absurd (no_zero a 0 (sym (one_pair (0, 0) (refusal_paper a) r h k)))
  refusal_is (Err b) a h k = ap Err (refusal_settles b a (one_pair (refusal_paper b) (refusal_paper a) r h k))

  refused-word : (want : Result (Size Float) Refusal) (a : Refusal) → want ≡ Err a → Halves (size_paper want).0 r → Halves (refusal_paper a) r
  unfolding size_paper
  refused-word want a e h = rw e at h

  sized_word : (want : Result (Size Float) Refusal) (s : Size Float) → want ≡ Ok s → Halves (size_paper want).0 r → Halves (0, 0) r
  unfolding size_paper
  sized_word want s e h = rw e at h

  module _ (call : face.Sized (size_result ws xs q axis) r size) where
    pub c-size-refuses : (a : Refusal) → Exactly (Halves (refusal_paper a) r) (SizeGiven ws xs q axis (Err a))
    c-size-refuses a =
        let x = size-gives ws xs q axis (Err a) (size_result ws xs q axis) refl in
        record { only = λ k. x.only (refusal_is (size_result ws xs q axis) a call.answer_is k); given = λ g. refused-word (size_result ws xs q axis) a (x.given g) call.answer_is }

    accepted-by : (want : Result (Size Float) Refusal) → size_result ws xs q axis ≡ want → Halves (size_paper want).0 r → Halves (0, 0) r → SizeGiven ws xs q axis want → SizeDue ws xs q (Ok tt) × (large_size (size_of (page_of ws xs []) q axis) ≡ false)
    unfolding size_paper
    accepted-by (Ok s) e h k (d, l, p) = (d, l)
    accepted-by (Err b) e h k g =
        absurd (no_zero b 0 (one_pair (refusal_paper b) (0, 0) r h k))

    -- 0 exactly if the tests pass and the size is not too large
    pub c-size-gives : Exactly (Halves (0, 0) r) (SizeDue ws xs q (Ok tt) × (large_size (size_of (page_of ws xs []) q axis) ≡ false))
    c-size-gives =
        let w = size_result ws xs q axis in
        record {
          only = λ k. accepted-by w refl call.answer_is k ((size-gives ws xs q axis w w refl).only refl);
          given = λ g. sized_word w _ ((size-gives ws xs q axis (Ok (size_of (page_of ws xs []) q axis)) w refl).given (g.0, g.1, refl)) call.answer_is;
        }
