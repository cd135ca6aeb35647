-- Ask once, trust it: of one page and one question the both-axes size question gives numbers 2 and 3 of the root's row that a layout leaves.
use Rattle.std.specs.Prelude.{◌≡◌, ℕ, ◌-◌, ◌/◌, ◌^◌, Float, Ok}
use Rattle.std.proofs.Math.Path.{sym}
use Rattle.std.proofs.Common.{ap, ◌∙◌}
use Rattle.std.proofs.Math.Bool.{false}
use mathlib.Core.List.{List}
use Rattle.style.specs.Codes.{flag_at}
use Rattle.steps.specs.Question.{root_input}
use Rattle.steps.specs.Noes.{paper}
use Rattle.steps.specs.Results.{layout_result, size_result}
use Rattle.steps.specs.declared.Question.{Question}
use Rattle.steps.specs.declared.RequestedAxis.TheVariants.{Both}
use Rattle.asked.specs.Question.{plain_question, axis_of}
use Rattle.face.specs.Answered as face
use Rattle.face.specs.Answered.{Answered}
use Rattle.outcomes.specs.AskOnce.{root_size, itself, itself_sized, done_number, AskedAlike, sized_word}
use Rattle.outcomes.proofs.AskOnce.{asked-is-laid}

module _ (ws : List ℕ) (xs rs : List Float) (ms cw : List ℕ) (cx : List Float) (width height parent available : Float) (how : ℕ) (both : flag_at how 6 ≡ false) where
  abbrev question : Question
  question = plain_question width height parent available how

  both_axes : axis_of how ≡ Both
  unfolding axis_of
  both_axes = rw both

  -- mearrasot_layout and mearrasot_size with the same words, where the first is accepted
  pub c-asked-is-laid : (word : ℕ) (rs' : List Float) (ms' cw' : List ℕ) (cx' : List Float) → Answered (layout_result ws xs rs ms cw cx (root_input question)) word rs' ms' cw' cx'
      → (word2 : ℕ) (size : List Float) → face.Sized (size_result ws xs (root_input question) (axis_of how)) word2 size → word / 2 ^ 32 ≡ 0 → AskedAlike word2 size rs'
  c-asked-is-laid word rs' ms' cw' cx' call word2 size asked e =
      let want = layout_result ws xs rs ms cw cx (root_input question) in
      let k : want.answer ≡ Ok (paper want.answer).1 = done_number want.answer (sym call.answer_is.number_is ∙ e) in
      let s = asked-is-laid ws xs question rs ms cw cx want.answer _ _ _ _ (itself want) (size_result ws xs (root_input question) Both) (itself_sized _) (paper want.answer).1 k in
      let t : face.Sized (size_result ws xs (root_input question) Both) word2 size = rw both_axes at asked in
      sized_word (size_result ws xs (root_input question) Both) rs' word2 size (s ∙ ap (λ (l : List Float). Ok (root_size l)) (sym call.rows_are)) t
