-- From what the calls asked as profile answer to what is answered to C.
use Rattle.std.specs.Prelude.{Result, Ok, Err}
use Rattle.profiled.specs.declared.ProfileRefusal.{ProfileRefusal}
use Rattle.geometry.specs.declared.Size.{Size}
use mathlib.Core.Path.{◌≡◌, refl, sym, ap, subst, ◌∙◌}
use mathlib.Core.List.{List, [], ◌∷◌}
use Prim.Native.Nat.{ℕ}
use lib.Ieee.{Float}
use Rattle.geometry.specs.Geometry.{zero_f}
use Rattle.geometry.specs.declared.Size as geometry
use Rattle.steps.specs.SizeQuestion.{axes}
use Rattle.steps.specs.Question.{root_input}
use Rattle.steps.specs.declared.Question.{Question}
use Rattle.steps.specs.declared.RequestedAxis.{RequestedAxis}
use Rattle.profiled.specs.Profiled.{ProfileReply, profile_paper, profile_size_paper, profiled_size_result}
use Rattle.profiled.specs.Public.{ProfileReplied}
use Rattle.asked.specs.Halves.{Halves}
use Rattle.face.specs.AsProfile.{ProfileAnswered, SizedProfile}

-- the answer packed, the memory as it was left
pub profiled : {w v : ProfileReply} {a : Result ℕ ProfileRefusal} {r : ℕ} {rows : List Float} {marks : List ℕ} {pairs : List ℕ} {triples : List Float} → w ≡ v → ProfileReplied w a rows marks pairs triples → Halves (profile_paper a) r → ProfileAnswered v r rows marks pairs triples
profiled {w} {v} {a} {r} {rows} {marks} {pairs} {triples} f s h =
    subst (λ (x : ProfileReply). ProfileAnswered x r rows marks pairs triples) f
    record {
      answer_is = subst (λ (x : Result ℕ ProfileRefusal). Halves (profile_paper x) r) s.answer_is h;
      rows_are = s.rows_are;
      marks_are = s.marks_are;
      pairs_are = s.words_are;
      triples_are = s.numbers_are;
    }

-- the same question, put as numbers
pub asked_so : (ws : List ℕ) (xs : List Float) {q k : Question} {a b : RequestedAxis} → q ≡ k → a ≡ b → profiled_size_result ws xs (root_input q) a ≡ profiled_size_result ws xs (root_input k) b
asked_so ws xs {q} {k} {a} {b} e f = ap (λ (p : Question). profiled_size_result ws xs (root_input p) a) e ∙ ap (profiled_size_result ws xs (root_input k)) f

pub sized_profiled : {w v : Result (Size Float) ProfileRefusal} {r : ℕ} {size : List Float} → w ≡ v → SizedProfile w r size → SizedProfile v r size
sized_profiled {w} {v} {r} {size} f h = subst (λ (x : Result (Size Float) ProfileRefusal). SizedProfile x r size) f h

-- a size that is given, and one that is refused
pub profile_sized : {v : Result (Size Float) ProfileRefusal} {s : (geometry.Size Float)} {r : ℕ} → v ≡ Ok s → Halves (0, 0) r → SizedProfile v r (s.width ∷ s.height ∷ [])
unfolding profile_size_paper
profile_sized {v} {s} {r} e h = subst (λ (u : Result (Size Float) ProfileRefusal). SizedProfile u r (s.width ∷ s.height ∷ [])) (sym e) record { answer_is = h; size_is = refl }

pub profile_refused : {v : Result (Size Float) ProfileRefusal} {a : ProfileRefusal} {r : ℕ} → v ≡ Err a → Halves (profile_paper (Err a)) r → SizedProfile v r (zero_f ∷ zero_f ∷ [])
unfolding profile_size_paper profile_paper axes
profile_refused {v} {a} {r} e h = subst (λ (u : Result (Size Float) ProfileRefusal). SizedProfile u r (zero_f ∷ zero_f ∷ [])) (sym e) record { answer_is = h; size_is = refl }

-- the yes or no packed
pub said : {a b : Result ℕ ProfileRefusal} {r : ℕ} → a ≡ b → Halves (profile_paper a) r → Halves (profile_paper b) r
said {a} {b} {r} e h = subst (λ (x : Result ℕ ProfileRefusal). Halves (profile_paper x) r) e h
