-- From the lines to the whole file: room for the nodes, and what is left of tables and answer. Assumes nothing.
use Rattle.std.specs.Prelude.{Err, Ok, Result}
use Rattle.page.specs.declared.PageError.TheVariants.{BadLine}
use Rattle.page.specs.declared.PageError.{PageError}
use mathlib.Core.Path.{◌≡◌, refl, sym, ◌∙◌, ap}
use mathlib.Core.Bool.{Bool, true, false}
use mathlib.Core.List.{List}
use Prim.Native.Nat.{ℕ, ◌≤◌, ◌<◌, min}
use native.Mathlib.Omega.{arith}
use lib.ListN.{length, take, drop, replicate, length-replicate}
use lib.Seq.{take_all, take-length}
use lib.Dec.{leb}
use borrow.Author.Tests.{leb-true, leb-false}
use lib.Ieee.{Float}
use Rattle.geometry.specs.Geometry.{zero_f}
use Rattle.text.specs.Pieces.{lines_of, past}
use Rattle.text.specs.Laws.{lines_past}
use Rattle.page.specs.Head.{head_of}
use Rattle.page.specs.Body.{tables, Body, Wrong, Right, rest, line_number, TablesFit, Ended}
use Rattle.page.specs.File.{node_limit, bad_file, body_file, file_from, file_of, page_file, ReadAs, Blank}
use Rattle.page.specs.declared.Head.{Head}

-- nodes within the limit have room
pub room_of : (n : ℕ) (ws : List ℕ) (xs : List Float) → n ≤ node_limit (length ws) (length xs) → TablesFit n 0 ws xs
unfolding node_limit
room_of n ws xs h = record { few = omega arith; so_far = omega arith; words_room = omega arith; numbers_room = omega arith }

-- the same nodes, read from the sixth line on
pub sixth : (whole : Bool) (n : ℕ) (ws : List ℕ) (xs : List Float) (s : List ℕ) (at : ℕ) → Blank ws xs → drop at s ≡ past 10 5 s → rest whole n 6 (tables 0 ws xs) (lines_of (drop at s)) ≡ rest whole n 6 (tables 0 (replicate (length ws) 0) (replicate (length xs) zero_f)) (drop 5 (lines_of s))
sixth whole n ws xs s at b e =
    ap (λ (l : List ℕ). rest whole n 6 (tables 0 ws xs) (lines_of l)) e
    ∙ ap (rest whole n 6 (tables 0 ws xs)) (sym (lines_past 5 s))
    ∙ ap (λ (l : List ℕ). rest whole n 6 (tables 0 l xs) (drop 5 (lines_of s))) b.words_zero
    ∙ ap (λ (l : List Float). rest whole n 6 (tables 0 (replicate (length ws) 0) l) (drop 5 (lines_of s))) b.numbers_zero

module _ (h : Head) (ws₀ : List ℕ) (xs₀ : List Float) (ws : List ℕ) (xs : List Float) where
  good-body : (b : Body) → Ended b ws₀ xs₀ 0 ws xs → ReadAs (body_file (length ws₀) (length xs₀) h b) (Ok h) ws xs
  unfolding body_file
  good-body (Wrong k) e = absurd (omega (arith, e.0))
  good-body (Right t) e = record { file_is = refl; words_are = sym e.1; numbers_are = sym e.2 }

  bad-body : (b : Body) (r : ℕ) → 0 < r → Ended b ws₀ xs₀ r ws xs → (ws' : List ℕ) (xs' : List Float) → ws' ≡ replicate (length ws) 0 → xs' ≡ replicate (length xs) zero_f → ReadAs (body_file (length ws₀) (length xs₀) h b) (Err (BadLine r)) ws' xs'
  unfolding body_file bad_file
  bad-body (Wrong k) r z e ws' xs' p q =
      record {
        file_is = ap (λ (k : ℕ). Err (BadLine k)) e.1;
        words_are = p ∙ ap (λ (n : ℕ). replicate n 0) e.2;
        numbers_are = q ∙ ap (λ (n : ℕ). replicate n zero_f) e.3;
      }
  bad-body (Right t) r z e ws' xs' p q = absurd (omega (arith, e.0))

-- the nodes' part of the file
module _ (whole : Bool) (s : List ℕ) (h : Head) (ws₀ : List ℕ) (xs₀ : List Float) (at : ℕ) (ws : List ℕ) (xs : List Float) (blank : Blank ws₀ xs₀) (starts : drop at s ≡ past 10 5 s) where
  abbrev body : Body
  body = rest whole h.count 6 (tables 0 ws₀ xs₀) (lines_of (drop at s))

  abbrev told : Body
  told = rest whole h.count 6 (tables 0 (replicate (length ws₀) 0) (replicate (length xs₀) zero_f)) (drop 5 (lines_of s))

  pub nodes-good : Ended body ws₀ xs₀ 0 ws xs → ReadAs (file_from whole (length ws₀) (length xs₀) s (Ok h)) (Ok h) ws xs
  unfolding file_from
  nodes-good ended = good-body h ws₀ xs₀ ws xs told (rw (sixth whole h.count ws₀ xs₀ s at blank starts) at ended)

  pub nodes-bad : (e : PageError) → (0 < line_number e) × Ended body ws₀ xs₀ (line_number e) ws xs → (ws' : List ℕ) (xs' : List Float) → ws' ≡ replicate (length ws) 0 → xs' ≡ replicate (length xs) zero_f → ReadAs (file_from whole (length ws₀) (length xs₀) s (Ok h)) (Err e) ws' xs'
  unfolding file_from
  nodes-bad (BadLine r) e ws' xs' p q = bad-body h ws₀ xs₀ ws xs told r e.0 (rw (sixth whole h.count ws₀ xs₀ s at blank starts) at e.1) ws' xs' p q

-- cleared tables are blank, and as long as before
pub cleared_blank : (lw lx : ℕ) (ws : List ℕ) (xs : List Float) → ws ≡ replicate lw 0 → xs ≡ replicate lx zero_f → Blank ws xs
cleared_blank lw lx ws xs p q =
    let a : length ws ≡ lw = ap length p ∙ length-replicate lw 0 in
    let b : length xs ≡ lx = ap length q ∙ length-replicate lx zero_f in
    record { words_zero = p ∙ ap (λ (n : ℕ). replicate n 0) (sym a); numbers_zero = q ∙ ap (λ (n : ℕ). replicate n zero_f) (sym b) }

module _ (whole : Bool) (s : List ℕ) (lw lx : ℕ) (ws₀ : List ℕ) (xs₀ : List Float) (p : ws₀ ≡ replicate lw 0) (q : xs₀ ≡ replicate lx zero_f) where
  words_long : length ws₀ ≡ lw
  words_long = ap length p ∙ length-replicate lw 0

  numbers_long : length xs₀ ≡ lx
  numbers_long = ap length q ∙ length-replicate lx zero_f

  -- the head is read with the limit of the cleared tables
  pub head-is : (x : Result Head PageError) → head_of (node_limit (length ws₀) (length xs₀)) (lines_of s) ≡ x → head_of (node_limit lw lx) (lines_of s) ≡ x
  head-is x e = rw (← words_long, ← numbers_long) e

  pub text-bad : (e : PageError) → head_of (node_limit (length ws₀) (length xs₀)) (lines_of s) ≡ Err e → ReadAs (file_of whole lw lx s) (Err e) ws₀ xs₀
  unfolding file_of file_from bad_file
  text-bad (BadLine k) e = rw (head-is (Err (BadLine k)) e) (record { file_is = refl; words_are = p; numbers_are = q })

  pub text-good : (h : Head) (r : Result Head PageError) (ws : List ℕ) (xs : List Float) → head_of (node_limit (length ws₀) (length xs₀)) (lines_of s) ≡ Ok h → ReadAs (file_from whole (length ws₀) (length xs₀) s (Ok h)) r ws xs → ReadAs (file_of whole lw lx s) r ws xs
  unfolding file_of
  text-good h r ws xs e g = rw (head-is (Ok h) e, ← words_long, ← numbers_long) g

-- what is read of a text that may be too long
cut_by : (m : ℕ) (s : List ℕ) (b : Bool) → leb (length s) m ≡ b → take (min (length s) m) s ≡ take m s
cut_by m s true e =
    let l : length s ≤ m = leb-true (length s) m e in
    let z : min (length s) m ≡ length s = omega arith in
    rw (z, take_all m s l) (take-length s)
cut_by m s false e =
    let l : m < length s = leb-false (length s) m e in
    let z : min (length s) m ≡ m = omega arith in
    rw z

pub cut : (m : ℕ) (s : List ℕ) → take (min (length s) m) s ≡ take m s
cut m s = cut_by m s (leb (length s) m) refl

pub whole_page : (lw lx : ℕ) (s : List ℕ) (r : Result Head PageError) (ws : List ℕ) (xs : List Float) (end : ℕ) → end ≡ min (length s) 262143 → ReadAs (file_of (leb (length s) 262143) lw lx (take end s)) r ws xs → ReadAs (page_file lw lx s) r ws xs
unfolding page_file
whole_page lw lx s r ws xs end e g = rw (← cut 262143 s, ← e) g
