-- What the size question promises: its answer, by its number, place and size too, is the definition's.
use Rattle.steps.specs.declared.Refusal.{Refusal}
use Rattle.geometry.specs.declared.Size.{Size}
use Rattle.std.specs.Prelude.{◌≡◌, Result, Float}
use Rattle.steps.specs.Results.{size_paper}

pub record SizeReplied (want answer : Result (Size Float) Refusal) : Type 0 where
  pub answer_is : answer ≡ want
  pub paper_is : size_paper answer ≡ size_paper want
