-- From what the calls below answer to what is answered to C.
use Rattle.scroll.specs.declared.ScrollRefusal.TheVariants.{NotFinite}
use Rattle.std.specs.Prelude.{Option, Result, Ok, Err, ⊤}
use Rattle.steps.specs.declared.Refusal.{Refusal}
use Rattle.scroll.specs.declared.ScrollRefusal.{ScrollRefusal}
use Rattle.index.specs.declared.IndexRefusal.{IndexRefusal}
use Rattle.geometry.specs.declared.Size.{Size}
use Rattle.coarse.specs.declared.CoarseRefusal.{CoarseRefusal}
use mathlib.Core.Path.{◌≡◌, refl, sym, ap, subst, ◌∙◌}
use mathlib.Core.List.{List, [], ◌∷◌}
use Prim.Native.Nat.{ℕ}
use lib.IntN.{ℤ}
use lib.Ieee.{Float}
use Rattle.geometry.specs.Geometry.{zero_f}
use Rattle.geometry.specs.declared.Size as geometry
use Rattle.steps.specs.Noes.{paper, refusal_paper}
use Rattle.steps.specs.SizeQuestion.{axes}
use Rattle.steps.specs.Results.{Reply, size_result, size_paper}
use Rattle.steps.specs.Question.{root_input}
use Rattle.steps.specs.declared.Question.{Question}
use Rattle.steps.specs.declared.RequestedAxis.{RequestedAxis}
use Rattle.layout.specs.Public.{Replied}
use Rattle.index.specs.Index.{Index, Indexed, index_paper}
use Rattle.scroll.specs.Scroll.{scroll_paper}
use Rattle.coarse.specs.Coarse.{Panel, Coarsened, coarse_paper}
use Rattle.asked.specs.Halves.{Halves}
use Rattle.face.specs.Answered.{Answered, Sized, IndexAnswered, Scrolled, found_in, CoarseAnswered}

-- the answer packed, the memory as it was left
pub answered : {w v : Reply} {a : Result ℕ Refusal} {r : ℕ} {rows : List Float} {marks : List ℕ} {pairs : List ℕ} {triples : List Float} → w ≡ v → Replied w a rows marks pairs triples → Halves (paper a) r → Answered v r rows marks pairs triples
answered {w} {v} {a} {r} {rows} {marks} {pairs} {triples} e s h =
    subst (λ (u : Reply). Answered u r rows marks pairs triples) e
    record {
      answer_is = subst (λ (x : Result ℕ Refusal). Halves (paper x) r) s.answer_is h;
      rows_are = s.rows_are;
      marks_are = s.marks_are;
      pairs_are = s.words_are;
      triples_are = s.numbers_are;
    }

-- the same question, put as numbers
pub asked : (ws : List ℕ) (xs : List Float) {q k : Question} {a b : RequestedAxis} → q ≡ k → a ≡ b → size_result ws xs (root_input q) a ≡ size_result ws xs (root_input k) b
asked ws xs {q} {k} {a} {b} e f = ap (λ (p : Question). size_result ws xs (root_input p) a) e ∙ ap (size_result ws xs (root_input k)) f

-- a size that is given
pub sized : {v : Result (Size Float) Refusal} {s : (geometry.Size Float)} {r : ℕ} → v ≡ Ok s → Halves (paper (Ok 0)) r → Sized v r (s.width ∷ s.height ∷ [])
unfolding size_paper paper
sized {v} {s} {r} e h = subst (λ (u : Result (Size Float) Refusal). Sized u r (s.width ∷ s.height ∷ [])) (sym e) record { answer_is = h; size_is = refl }

-- a size that is refused
pub refused : {v : Result (Size Float) Refusal} {a : Refusal} {r : ℕ} → v ≡ Err a → Halves (paper (Err a)) r → Sized v r (zero_f ∷ zero_f ∷ [])
unfolding size_paper paper axes
refused {v} {a} {r} e h = subst (λ (u : Result (Size Float) Refusal). Sized u r (zero_f ∷ zero_f ∷ [])) (sym e) record { answer_is = h; size_is = refl }

-- the index answer packed, the slices as they were left
pub indexed : {w : Index} {a : Result ⊤ IndexRefusal} {r : ℕ} {ts bs ls : List Float} → Indexed w a ts bs ls → Halves (index_paper a) r → IndexAnswered w r ts bs ls
indexed {w} {a} {r} {ts} {bs} {ls} s h =
    record { answer_is = subst (λ (x : Result ⊤ IndexRefusal). Halves (index_paper x) r) s.answer_is h; tops_are = s.tops_are; bottoms_are = s.bottoms_are; running_is = s.running_is }

-- what the scroll key found, or that it was refused
pub scrolled : {a b : Result (Option ℕ) ScrollRefusal} {p : ℕ × ℕ} {r : ℕ} {lent found : List ℕ} → a ≡ b → (scroll_paper b).0 ≡ p → found ≡ found_in b lent → Halves p r → Scrolled a lent r found
scrolled {a} {b} {p} {r} {lent} {found} e f g h =
    subst (λ (x : Result (Option ℕ) ScrollRefusal). Scrolled x lent r found) (sym e) record { answer_is = subst (λ (q : ℕ × ℕ). Halves q r) (sym f) h; found_is = g }

pub not_finite : (e : ScrollRefusal) → (scroll_paper (Err e)).0 ≡ (10, 0)
unfolding scroll_paper
not_finite NotFinite = refl

pub stays : (e : ScrollRefusal) (lent : List ℕ) → lent ≡ found_in (Err e) lent
unfolding found_in
stays NotFinite lent = refl

pub at_zero : (place : Option ℕ) → (scroll_paper (Ok place)).0 ≡ (0, 0)
unfolding scroll_paper
at_zero place = refl

-- the coarse answer packed, the output as it was left
pub coarsened : {w : Panel} {a : Result ⊤ CoarseRefusal} {r : ℕ} {out : List ℤ} → Coarsened w a out → Halves (coarse_paper a) r → CoarseAnswered w r out
coarsened {w} {a} {r} {out} s h = record { answer_is = subst (λ (x : Result ⊤ CoarseRefusal). Halves (coarse_paper x) r) s.answer_is h; out_is = s.out_is }
