-- An answer's number and place on paper settle it: no two answers share both.
use Rattle.steps.specs.declared.Refusal.{Refusal}
use Rattle.std.specs.Prelude.{◌≡◌, Result, Ok, ℕ}
use Rattle.steps.specs.Noes.{paper, refusal_paper}
use Rattle.answers.specs.Settled.{paper_settles}

-- 0 with the place 0 is that answer
pub zero_is_done : (a : Result ℕ Refusal) → paper a ≡ (0, 0) → a ≡ Ok 0
unfolding paper refusal_paper
zero_is_done a e = paper_settles a (Ok 0) e
