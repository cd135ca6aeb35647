-- An answer's number on paper is one of nine.
use Rattle.std.specs.Prelude.{Result, Ok, ℕ, Err}
use Rattle.steps.specs.declared.Refusal.TheVariants.{Lengths, Tree, Codes, Numbers, Room, Edits, NotLaid, TooLarge}
use Rattle.steps.specs.declared.Refusal.{Refusal}
use Prim.Native.Nat.{◌≤◌}
use native.Mathlib.Omega.{arith}
use Rattle.steps.specs.Noes.{paper, refusal_paper}

pub paper-nine : (a : Result ℕ Refusal) → (paper a).0 ≤ 8
unfolding paper refusal_paper
paper-nine (Ok n) = omega arith
paper-nine (Err Lengths) = omega arith
paper-nine (Err (Tree i)) = omega arith
paper-nine (Err (Codes i)) = omega arith
paper-nine (Err (Numbers k)) = omega arith
paper-nine (Err Room) = omega arith
paper-nine (Err (Edits k)) = omega arith
paper-nine (Err NotLaid) = omega arith
paper-nine (Err (TooLarge i)) = omega arith
