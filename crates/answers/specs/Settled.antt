-- An answer's number and place on paper settle it: no two answers share both.
use Rattle.steps.specs.declared.Refusal.TheVariants.{Lengths, Tree, Codes, Numbers, Room, Edits, NotLaid, TooLarge}
use Rattle.steps.specs.declared.Refusal.{Refusal}
use Rattle.std.specs.Prelude.{◌≡◌, refl, ℕ, zero, suc, ◌<◌, Result, Ok, Err}
use Rattle.std.proofs.Common.{sym, ap, ◌∙◌, arith}
use Rattle.steps.specs.Noes.{paper, refusal_paper}
use Rattle.steps.proofs.Answers.{paper-nine}

-- the answer with this number and place; there is none from 9 on
abbrev by_number : ℕ → ℕ → Result ℕ Refusal
by_number zero k = Ok k
by_number (suc zero) k = Err Lengths
by_number (suc (suc zero)) k = Err (Tree (record { 0 = k }))
by_number (suc (suc (suc zero))) k = Err (Codes (record { 0 = k }))
by_number (suc (suc (suc (suc zero)))) k = Err (Numbers k)
by_number (suc (suc (suc (suc (suc zero))))) k = Err Room
by_number (suc (suc (suc (suc (suc (suc zero)))))) k = Err (Edits k)
by_number (suc (suc (suc (suc (suc (suc (suc zero))))))) k = Err NotLaid
by_number (suc (suc (suc (suc (suc (suc (suc (suc n)))))))) k = Err (TooLarge (record { 0 = k }))

abbrev answer_at : ℕ × ℕ → Result ℕ Refusal
answer_at p = by_number p.0 p.1

read_back_lem : (a : Result ℕ Refusal) → answer_at (paper a) ≡ a
unfolding paper refusal_paper
read_back_lem (Ok n) = refl
read_back_lem (Err Lengths) = refl
read_back_lem (Err (Tree i)) = refl
read_back_lem (Err (Codes i)) = refl
read_back_lem (Err (Numbers k)) = refl
read_back_lem (Err Room) = refl
read_back_lem (Err (Edits k)) = refl
read_back_lem (Err NotLaid) = refl
read_back_lem (Err (TooLarge i)) = refl

-- two answers with one number and one place are one answer
pub paper_settles : (a b : Result ℕ Refusal) → paper a ≡ paper b → a ≡ b
paper_settles a b e = sym (read_back_lem a) ∙ ap answer_at e ∙ read_back_lem b

-- the same of refusals
abbrev err_back : Refusal → Result ℕ Refusal → Refusal
err_back d (Ok n) = d
err_back d (Err a) = a

pub refusal_settles : (a b : Refusal) → refusal_paper a ≡ refusal_paper b → a ≡ b
unfolding paper
refusal_settles a b e = ap (err_back a) (sym (read_back_lem (Err a)) ∙ ap answer_at e ∙ read_back_lem (Err b))

-- no refusal has the number 0
pub no_zero : (a : Refusal) (k : ℕ) → refusal_paper a ≡ (0, k) → ⊥
unfolding refusal_paper
no_zero Lengths k e = let n = ap (λ (p : ℕ × ℕ). p.0) e in omega arith
no_zero (Tree i) k e = let n = ap (λ (p : ℕ × ℕ). p.0) e in omega arith
no_zero (Codes i) k e = let n = ap (λ (p : ℕ × ℕ). p.0) e in omega arith
no_zero (Numbers i) k e = let n = ap (λ (p : ℕ × ℕ). p.0) e in omega arith
no_zero Room k e = let n = ap (λ (p : ℕ × ℕ). p.0) e in omega arith
no_zero (Edits i) k e = let n = ap (λ (p : ℕ × ℕ). p.0) e in omega arith
no_zero NotLaid k e = let n = ap (λ (p : ℕ × ℕ). p.0) e in omega arith
no_zero (TooLarge i) k e = let n = ap (λ (p : ℕ × ℕ). p.0) e in omega arith

-- a number from 9 on, as the requests have them, is none of these answers'
pub from_nine : (a : Result ℕ Refusal) (n k : ℕ) → 8 < n → paper a ≡ (n, k) → ⊥
from_nine a n k h e = let p = ap (λ (p : ℕ × ℕ). p.0) e in omega (arith, paper-nine a)

pub refusal_from_nine : (a : Refusal) (n k : ℕ) → 8 < n → refusal_paper a ≡ (n, k) → ⊥
unfolding paper
refusal_from_nine a n k h e = from_nine (Err a) n k h e
