-- What the calls answer to C where bit 8 asks them as profile.
use Rattle.steps.specs.declared.Refusal.{Refusal}
use Rattle.profiled.specs.declared.ProfileRefusal.{ProfileRefusal}
use Rattle.geometry.specs.declared.Size.{Size}
use Rattle.std.specs.Prelude.{◌≡◌, Bool, true, false, List, [], ◌∷◌, ℕ, Float, Result}
use Rattle.steps.specs.Results.{Reply}
use Rattle.profiled.specs.Profiled.{ProfileReply, profile_paper, profile_size_paper}
use Rattle.asked.specs.Halves.{Halves}
use Rattle.face.specs.Answered.{Answered, Sized}

-- a layout or a relayout asked as profile: the answer and every lent word
pub record ProfileAnswered (want : ProfileReply) (r : ℕ) (rows : List Float) (marks : List ℕ) (pairs : List ℕ) (triples : List Float) : Type 0 where
  pub answer_is : Halves (profile_paper want.answer) r
  pub rows_are : rows ≡ want.rows
  pub marks_are : marks ≡ want.marks
  pub pairs_are : pairs ≡ want.words
  pub triples_are : triples ≡ want.numbers

-- a size question: the answer, and width and height
pub record SizedProfile (want : Result (Size Float) ProfileRefusal) (r : ℕ) (size : List Float) : Type 0 where
  pub answer_is : Halves (profile_size_paper want).0 r
  pub size_is : size ≡ (profile_size_paper want).1.width ∷ (profile_size_paper want).1.height ∷ []

-- by bit 8: the plain call, or the call asked as profile
abbrev pub AnsweredAs : Bool → Reply → ProfileReply → ℕ → List Float → List ℕ → List ℕ → List Float → Type 0
AnsweredAs false plain want r rows marks pairs triples = Answered plain r rows marks pairs triples
AnsweredAs true plain want r rows marks pairs triples = ProfileAnswered want r rows marks pairs triples

abbrev pub SizedAs : Bool → Result (Size Float) Refusal → Result (Size Float) ProfileRefusal → ℕ → List Float → Type 0
SizedAs false plain want r size = Sized plain r size
SizedAs true plain want r size = SizedProfile want r size
