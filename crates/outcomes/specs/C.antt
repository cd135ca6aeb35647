-- The calls from C: what holds of the plain calls, by the number and place in the word that they return.
use Rattle.steps.specs.declared.Refusal.{Refusal}
use Rattle.std.specs.Prelude.{◌≡◌, List, Float, Result}
use Rattle.std.proofs.Math.Path.{refl}
use Rattle.std.proofs.Common.{sym, ◌∙◌, subst}
use Prim.Native.Nat.{ℕ}
use Rattle.steps.specs.Noes.{paper}
use Rattle.steps.specs.Results.{Reply}
use Rattle.tables.proofs.Exactly.{Exactly}
use Rattle.layout.specs.Public.{Replied}
use Rattle.asked.specs.Halves.{Halves}
use Rattle.face.specs.Answered.{Answered}
use Rattle.answers.specs.Settled.{paper_settles}

-- one word has one number and one place
pub one_pair : (p s : ℕ × ℕ) (r : ℕ) → Halves p r → Halves s r → p ≡ s
one_pair p s r h k =
    let n : p.0 ≡ s.0 = sym h.number_is ∙ k.number_is in
    let m : p.1 ≡ s.1 = sym h.place_is ∙ k.place_is in
    λ i. (n i, m i)

-- what a caller from C sees is a plain reply
pub plain_reply : (want : Reply) (r : ℕ) (rs : List Float) (ms cw : List ℕ) (cx : List Float) → Answered want r rs ms cw cx → Replied want want.answer rs ms cw cx
plain_reply want r rs ms cw cx c = record { answer_is = refl; paper_is = refl; rows_are = c.rows_are; marks_are = c.marks_are; words_are = c.pairs_are; numbers_are = c.triples_are }

pub by_word : (a b : Result ℕ Refusal) (r : ℕ) (G : Type 0) → Halves (paper a) r → Exactly (a ≡ b) G → Exactly (Halves (paper b) r) G
by_word a b r G h e =
    record { only = λ k. e.only (paper_settles a b (one_pair (paper a) (paper b) r h k)); given = λ g. subst (λ (x : Result ℕ Refusal). Halves (paper x) r) (e.given g) h }
