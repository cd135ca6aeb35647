-- One file more of a text of several.
use Rattle.std.proofs.Common.{◌≡◌, refl, ℕ, zero, suc, List, [], ◌∷◌, ◌+◌, ◌<◌, ◌++◌, length, take, Bor, MutBor, subst, sym, ap, ◌∙◌, arith}
use Rattle.std.specs.Prelude.{Option, Some, None}
use Rattle.std.specs.Io.KnownBytes.{Appends}
use Rattle.std.proofs.lemmas.List.{append_assoc, append-nil}
use Rattle.console.specs.Files.{Said, First, Answered}
use Rattle.console.specs.Marks.{mark, SplitsAtMark}

-- k files are written as w, and the rest may follow in the room as it is now
abbrev pub SoFar : (List ℕ → List ℕ → List ℕ → List ℕ → Type 0) → List ℕ → List ℕ → List ℕ → List ℕ → ℕ → List ℕ → Type 0
SoFar says room text now rest k w = (n : ℕ) (o : List ℕ) → Answered says n now rest o → Answered says (k + n) room text (w ++ o)

module _ (says : List ℕ → List ℕ → List ℕ → List ℕ → Type 0) (room text : List ℕ) where
  pub none_yet : SoFar says room text room text 0 []
  none_yet n o a = subst (λ m. Answered says m room text o) (omega arith) a

  pub one_more : (now rest file behind said left w : List ℕ) (k : ℕ) → SoFar says room text now rest k w → 0 < length rest → SplitsAtMark rest file behind → says file now said left → SoFar says room text left behind (k + 1) (w ++ (said ++ mark))
  one_more now rest file behind said left w k so there cut is n o a =
      let step : Answered says (k + suc n) room text (w ++ (said ++ (mark ++ o))) = so (suc n) (said ++ (mark ++ o)) (record { file = file; rest = behind; said = said; left = left; more = o; there = there; cut = cut; is_said = is; written = refl; then_on = a }) in
      let put : w ++ (said ++ (mark ++ o)) ≡ (w ++ (said ++ mark)) ++ o = ap (λ l. w ++ l) (sym (append_assoc said mark o)) ∙ sym (append_assoc w (said ++ mark) o) in
      subst (λ m. Answered says m room text ((w ++ (said ++ mark)) ++ o)) (omega arith) (subst (λ l. Answered says (k + suc n) room text l) put step)

  pub all_done : (now rest w : List ℕ) (k : ℕ) → rest ≡ [] → SoFar says room text now rest k w → Answered says k room text w
  all_done now rest w k e so = subst (λ m. Answered says m room text w) (omega arith) (subst (λ l. Answered says (k + 0) room text l) (append-nil w) (so 0 [] (e, refl)))

-- what a call left of a file
pub said_by : (post : Bor (List ℕ) → MutBor (List ℕ) → ℕ → MutBor (List ℕ) → Type 0) (f : Bor (List ℕ)) (r : MutBor (List ℕ)) (n : ℕ) (r' : MutBor (List ℕ)) (file room left : List ℕ) → post f r n r' → f.now ≡ file → r.now ≡ room → r'.now ≡ left → Said post file room (take n left) left
said_by post f r n r' file room left p a b c = (f, r, n, r', p, a, b, c, refl)

-- what is written, in turns
pub nothing : (a : Option (List ℕ)) → Appends a a []
nothing None = tt
nothing (Some xs) = sym (append-nil xs)

pub in_turn : (a b c : Option (List ℕ)) (x y : List ℕ) → Appends a b x → Appends b c y → Appends a c (x ++ y)
in_turn None b c x y p q = tt
in_turn (Some s) None c x y p q = absurd p
in_turn (Some s) (Some t) None x y p q = absurd q
in_turn (Some s) (Some t) (Some u) x y p q = q ∙ ap (λ l. l ++ y) p ∙ append_assoc s x y
