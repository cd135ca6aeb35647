-- One number more of a line.
use Rattle.std.proofs.Common.{◌≡◌, refl, ℕ, suc, List, [], ◌∷◌, ◌++◌, ◌+◌, ◌<◌, take, length, subst, sym, ap, ◌∙◌, arith}
use Rattle.std.specs.Prelude.{get_or}
use Rattle.std.proofs.Math.Seq.{take-suc}
use Rattle.std.proofs.lemmas.List.{append_assoc, append-nil}
use Rattle.console.specs.Digits.{eight_hex}
use Rattle.console.specs.Lines.{blanks_and_words, Worded}

pub one_word : {T : Type 0} (says : T → ℕ → Type 0) (xs : List T) (ws : List ℕ) (x : T) (w : ℕ) → Worded says xs ws → says x w → Worded says (xs ++ (x ∷ [])) (ws ++ (w ∷ []))
one_word says [] [] x w h s = (s, tt)
one_word says [] (v ∷ vs) x w h s = absurd h
one_word says (y ∷ ys) [] x w h s = absurd h
one_word says (y ∷ ys) (v ∷ vs) x w h s = (h.0, one_word says ys vs x w h.1 s)

pub word_behind : (ws : List ℕ) (w : ℕ) → blanks_and_words (ws ++ (w ∷ [])) ≡ blanks_and_words ws ++ (32 ∷ eight_hex w)
word_behind [] w = ap (λ l. 32 ∷ l) (append-nil (eight_hex w))
word_behind (v ∷ vs) w = ap (λ l. 32 ∷ l) (ap (λ l. eight_hex v ++ l) (word_behind vs w) ∙ sym (append_assoc (eight_hex v) (blanks_and_words vs) (32 ∷ eight_hex w)))

-- the numbers up to the next, and with it
pub next_of : {T : Type 0} (xs : List T) (j : ℕ) (x : T) → j < length xs → x ≡ get_or xs j x → take j xs ++ (x ∷ []) ≡ take (j + 1) xs
next_of xs j x b e =
    let one : suc j ≡ j + 1 = omega arith in
    let up : take (j + 1) xs ≡ take j xs ++ (get_or xs j x ∷ []) = subst (λ k. take k xs ≡ take j xs ++ (get_or xs j x ∷ [])) one (take-suc xs j x b) in
    sym (up ∙ ap (λ y. take j xs ++ (y ∷ [])) (sym e))
