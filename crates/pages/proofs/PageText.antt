-- What the calls of one page promise, as text. Assumes nothing.
use Rattle.page.specs.declared.PageError.TheVariants.{BadLine}
use Rattle.page.specs.declared.PageError.{PageError}
use Rattle.std.specs.Prelude.{Result, Err, Ok}
use Rattle.steps.specs.declared.Refusal.{Refusal}
use mathlib.Core.Path.{◌≡◌, refl, sym, ◌∙◌, ap}
use mathlib.Core.List.{List, ◌∷◌}
use Prim.Native.Nat.{ℕ, zero, suc, ◌*◌, ◌≤◌}
use native.Mathlib.Omega.{arith}
use lib.ListN.{length, take, replicate, length-take, length-replicate}
use lib.Ieee.{Float}
use Rattle.geometry.specs.Geometry.{zero_f}
use Rattle.steps.specs.Question.{root_input}
use Rattle.steps.specs.Results.{Reply, layout_result}
use Rattle.layout.specs.Public.{Replied}
use Rattle.print.specs.Text.{page_text, bad_text}
use Rattle.print.specs.Pen.{pen, put_all}
use Rattle.print.proofs.PenLaws.{stays_within}
use Rattle.page.specs.Body.{line_number}
use Rattle.page.specs.File.{node_limit, page_file, ReadAs}
use Rattle.page.proofs.HeadFits.{page_fits}
use Rattle.page.specs.declared.Head.{Head}
use Rattle.pages.specs.Output.{reply_text, laid_page_text, file_text, output_text, Fits, Lent, Shown}

-- the text of what a layout left is that of its reply
pub reply_text_lem : (n : ℕ) (want : Reply) (a : Result ℕ Refusal) (rs : List Float) (ms ps : List ℕ) (ts : List Float) → Replied want a rs ms ps ts → page_text a n rs ms ps ts ≡ reply_text n want
unfolding reply_text
reply_text_lem n want a rs ms ps ts r = rw (r.answer_is, r.rows_are, r.marks_are, r.words_are, r.numbers_are)

take_zeros : {A : Type 0} (k m : ℕ) (z : A) → k ≤ m → take k (replicate m z) ≡ replicate k z
take_zeros zero m z h = refl
take_zeros (suc k) zero z h = absurd (omega arith)
take_zeros (suc k) (suc m) z h = ap (λ l. z ∷ l) (take_zeros k m z (omega arith))

-- the front of zeroed memory is zeroed
pub cut : {A : Type 0} (k m : ℕ) (z : A) (l : List A) → l ≡ replicate m z → k ≤ m → take k l ≡ replicate k z
cut k m z l e h = ap (take k) e ∙ take_zeros k m z h

pub cut_long : {A : Type 0} (k : ℕ) (l : List A) → k ≤ length l → k ≡ length (take k l)
cut_long k l h = simp length-take (omega arith)

pub long : {A : Type 0} (m : ℕ) (z : A) (l : List A) → l ≡ replicate m z → length l ≡ m
long m z l e = ap length e ∙ length-replicate m z

module _ (h : Head) (ws : List ℕ) (xs : List Float) (rs : List Float) (ms ps : List ℕ) (ts : List Float) (few : h.count ≤ 512) (lent : Lent rs ms ps ts) where
  pub laid-text : reply_text h.count (layout_result (take (4 * h.count) ws) (take (28 * h.count) xs) (take (16 * h.count) rs) (take (2 * h.count) ms) (take (2 * h.count) ps) (take (3 * h.count) ts) (root_input h.question)) ≡ laid_page_text h ws xs
  unfolding laid_page_text
  laid-text =
      let n = h.count in
      rw (cut (16 * n) 8192 zero_f rs lent.rows_zero (omega arith), cut (2 * n) 1024 0 ms lent.marks_zero (omega arith), cut (2 * n) 1024 0 ps lent.pairs_zero (omega arith), cut (3 * n) 1536 zero_f ts lent.triples_zero (omega arith))

-- a file that is read as a page fits its tables
pub fits_in : (s : List ℕ) (h : Head) (ws : List ℕ) (xs : List Float) → (page_file 2048 14336 s).file ≡ Ok h → length ws ≡ 2048 → length xs ≡ 14336 → Fits h.count ws xs
unfolding node_limit
fits_in s h ws xs e a b =
    let f = page_fits 2048 14336 s h e in
    record { few = omega (arith, f); words_long = omega (arith, f); numbers_long = omega (arith, f) }

-- the output of a bad file, and of a page
module _ (s : List ℕ) (r : Result Head PageError) (ws : List ℕ) (xs : List Float) (read : ReadAs (page_file 2048 14336 s) r ws xs) where
  pub bad-output : (e : PageError) → r ≡ Err e → bad_text (line_number e) ≡ output_text s
  unfolding output_text file_text
  bad-output (BadLine k) e = rw (sym read.file_is ∙ e)

  pub page-output : (h : Head) → r ≡ Ok h → laid_page_text h ws xs ≡ output_text s
  unfolding output_text file_text
  page-output h e = rw (sym read.file_is ∙ e, read.words_are, read.numbers_are)

pub shown : (text out out' : List ℕ) (r : ℕ) → pen out' r ≡ put_all text (pen out 0) → Shown text out out' r
shown text out out' r e =
    let w : (put_all text (pen out 0)).at ≤ length (put_all text (pen out 0)).bytes = stays_within text (pen out 0) (omega arith) in
    record { within = rw (← e) at w; written = e }
