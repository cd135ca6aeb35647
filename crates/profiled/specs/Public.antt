-- What the calls asked as profile promise: the answer, by its number and place too, and every word of lent memory are the definition's.
use Rattle.steps.specs.declared.Refusal.{Refusal}
use Rattle.profiled.specs.declared.ProfileRefusal.{ProfileRefusal}
use Rattle.geometry.specs.declared.Size.{Size}
use Rattle.std.specs.Prelude.{◌≡◌, List, ℕ, Float, Result, Ok, ⊤}
use Rattle.profiles.specs.Numbers.{Placed}
use Rattle.profiled.specs.Profiled.{ProfileReply, profile_paper, profile_size_paper}

-- tests that pass have counted the nodes, and their numbers
abbrev pub Few : Result ⊤ Refusal → List ℕ → List Float → Type 0
Few t ws xs = t ≡ Ok tt → Placed ws xs

pub record ProfileReplied (want : ProfileReply) (answer : Result ℕ ProfileRefusal) (rows : List Float) (marks : List ℕ) (pairs : List ℕ) (triples : List Float) : Type 0 where
  pub answer_is : answer ≡ want.answer
  pub paper_is : profile_paper answer ≡ profile_paper want.answer
  pub rows_are : rows ≡ want.rows
  pub marks_are : marks ≡ want.marks
  pub words_are : pairs ≡ want.words
  pub numbers_are : triples ≡ want.numbers

-- the yes or no: the answer, by its number and place too
pub record ProfileSaid (want answer : Result ℕ ProfileRefusal) : Type 0 where
  pub answer_is : answer ≡ want
  pub paper_is : profile_paper answer ≡ profile_paper want

pub record ProfileSized (want answer : Result (Size Float) ProfileRefusal) : Type 0 where
  pub answer_is : answer ≡ want
  pub paper_is : profile_size_paper answer ≡ profile_size_paper want
