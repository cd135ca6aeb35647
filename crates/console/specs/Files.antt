-- What is written of a text of several files: for each file its answer, and a mark behind it.
use Rattle.std.specs.Prelude.{◌≡◌, ◌<◌, ℕ, zero, suc, List, [], ◌++◌, length, take}
use Rattle.std.proofs.Common.{Bor, MutBor}
use Rattle.console.specs.Marks.{mark, SplitsAtMark}

-- what a call may say of a file in this room, at the room's start, and how it leaves the room
abbrev pub Said : (Bor (List ℕ) → MutBor (List ℕ) → ℕ → MutBor (List ℕ) → Type 0) → List ℕ → List ℕ → List ℕ → List ℕ → Type 0
Said post file room said left = (f : Bor (List ℕ)) × (r : MutBor (List ℕ)) × (n : ℕ) × (r' : MutBor (List ℕ)) × post f r n r' × (f.now ≡ file) × (r.now ≡ room) × (r'.now ≡ left) × (said ≡ take n left)

-- a first file with its answer in this room, and what is written of the files behind it, in the room as it is left
pub record First (says : List ℕ → List ℕ → List ℕ → List ℕ → Type 0) (behind : List ℕ → List ℕ → List ℕ → Type 0) (room text out : List ℕ) : Type 0 where
  pub file : List ℕ
  pub rest : List ℕ
  pub said : List ℕ
  pub left : List ℕ
  pub more : List ℕ
  pub there : 0 < length text
  pub cut : SplitsAtMark text file rest
  pub is_said : says file room said left
  pub written : out ≡ said ++ (mark ++ more)
  pub then_on : behind left rest more

-- of n files, each with an answer that it may have in the room that the one before left
abbrev pub Answered : (List ℕ → List ℕ → List ℕ → List ℕ → Type 0) → ℕ → List ℕ → List ℕ → List ℕ → Type 0
Answered says zero room text out = (text ≡ []) × (out ≡ [])
Answered says (suc n) room text out = First says (Answered says n) room text out
