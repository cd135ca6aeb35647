-- A trace that is read: its page, then its events. Assumes nothing.
use Rattle.std.specs.Prelude.{Err, Ok, Result}
use Rattle.page.specs.declared.PageError.TheVariants.{BadLine}
use Rattle.page.specs.declared.PageError.{PageError}
use mathlib.Core.Path.{◌≡◌, refl, sym, ◌∙◌, ap}
use mathlib.Core.Bool.{Bool}
use mathlib.Core.List.{List}
use Prim.Native.Nat.{ℕ, min}
use lib.ListN.{length, take, drop}
use lib.Dec.{leb}
use lib.Ieee.{Float}
use borrow.Author.Tests.{ne_eqb}
use Rattle.text.specs.Pieces.{lines_of}
use Rattle.page.specs.File.{page_file, ReadAs}
use Rattle.page.proofs.WholeFile.{cut}
use Rattle.page.specs.declared.Head.{Head}
use Rattle.trace.specs.File.{Begins, page_part, bad_in, with_bad, with_events, trace_of, trace_file}
use Rattle.trace.specs.declared.Start.{Start}

module _ (whole : Bool) (lw lx : ℕ) (s : List ℕ) (b : Start) (r : Result Head PageError) (ws : List ℕ) (xs : List Float) (begins : Begins s b) (read : ReadAs (page_file lw lx (take b.at s)) r ws xs) where
  page : ReadAs (page_file lw lx (page_part s)) r ws xs
  page = rw (← begins.place) read

  bad-told : (k : ℕ) → (page_file lw lx (page_part s)).file ≡ Err (BadLine k) → trace_of whole lw lx s ≡ page_file lw lx (page_part s)
  unfolding trace_of with_events
  bad-told k z = ap (with_events whole s (page_file lw lx (page_part s))) z

  pub page-bad : (d : PageError) → r ≡ Err d → ReadAs (trace_of whole lw lx s) (Err d) ws xs
  page-bad (BadLine k) e =
      rw (bad-told k (sym page.file_is ∙ e)) (record { file_is = sym e ∙ page.file_is; words_are = page.words_are; numbers_are = page.numbers_are })

  module _ (h : Head) (e : r ≡ Ok h) (bad : ℕ) (found : bad ≡ bad_in whole h.count b.line (lines_of (drop b.at s))) where
    told : trace_of whole lw lx s ≡ with_bad (page_file lw lx (page_part s)) bad
    unfolding trace_of with_events
    told =
        let z : (page_file lw lx (page_part s)).file ≡ Ok h = sym page.file_is ∙ e in
        rw (z, ← begins.place, ← begins.number, ← found)

    pub events-good : bad ≡ 0 → ReadAs (trace_of whole lw lx s) (Ok h) ws xs
    unfolding with_bad
    events-good z = rw (told, z) (record { file_is = sym e ∙ page.file_is; words_are = page.words_are; numbers_are = page.numbers_are })

    pub events-bad : (bad ≡ 0 → ⊥) → ReadAs (trace_of whole lw lx s) (Err (BadLine bad)) ws xs
    unfolding with_bad
    events-bad z = rw (told, ne_eqb bad 0 z) (record { file_is = refl; words_are = page.words_are; numbers_are = page.numbers_are })

-- the part that is read
pub whole_trace : (lw lx : ℕ) (s : List ℕ) (r : Result Head PageError) (ws : List ℕ) (xs : List Float) (end : ℕ) → end ≡ min (length s) 524287 → ReadAs (trace_of (leb (length s) 524287) lw lx (take end s)) r ws xs → ReadAs (trace_file lw lx s) r ws xs
unfolding trace_file
whole_trace lw lx s r ws xs end e h = rw (e, cut 524287 s) at h
