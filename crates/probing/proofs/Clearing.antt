-- The first row of a run cleared, or all the others.
use mathlib.Core.Path.{◌≡◌, ap, ◌∙◌}
use mathlib.Core.List.{List, [], ◌∷◌, ◌++◌}
use Prim.Native.Nat.{ℕ, ◌-◌}
use native.Mathlib.Omega.{arith}
use lib.ListN.{length, take, drop, length-take, length-drop}
use lib.Ieee.{Float}
use borrow.Rule.Slice.PartMut.{put_mid}
use Rattle.tree.proofs.Lists.{tail-part, tail-put}
use Rattle.steps.specs.Row.{row_numbers, row_words}
use Rattle.steps.specs.Results.{listed}
use Rattle.rows.specs.Store.{Becomes, AllBecome, OneRow, Whole, cleared_row}
use Rattle.probing.specs.Contract.{Rows, RestCleared}

pub first_whole : (rs : List Float) (ms : List ℕ) → OneRow rs ms → Whole (take 16 (drop 0 rs)) (take 2 (drop 0 ms))
first_whole rs ms h =
    let a = h.rows_some in
    let b = h.marks_some in
    record { n = 1; rows_long = simp (length-take, length-drop) (omega arith); marks_long = simp (length-take, length-drop) (omega arith) }

pub first_cleared : (rs : List Float) (ms : List ℕ) (nr : List Float) (nm : List ℕ) → AllBecome (take 16 (drop 0 rs)) (take 2 (drop 0 ms)) nr nm cleared_row → Becomes rs ms (put_mid 0 16 rs nr) (put_mid 0 2 ms nm) cleared_row
unfolding listed
first_cleared rs ms nr nm h r z y er em =
    let p = h (r ∷ []) (ap (λ (x : List Float). take 16 (drop 0 x)) er) (ap (λ (x : List ℕ). take 2 (drop 0 x)) em) in (
      ap (λ (x : List Float). put_mid 0 16 x nr) er ∙ ap (λ (x : List Float). x ++ z) p.0,
      ap (λ (x : List ℕ). put_mid 0 2 x nm) em ∙ ap (λ (x : List ℕ). x ++ y) p.1,
    )

pub rest_whole : (rs : List Float) (ms : List ℕ) → Rows rs ms → Whole (take (length rs - 16) (drop 16 rs)) (take (length ms - 2) (drop 2 ms))
rest_whole rs ms h =
    let a = h.rows_long in
    let b = h.marks_long in
    record { n = h.n; rows_long = simp (length-take, length-drop) (omega arith); marks_long = simp (length-take, length-drop) (omega arith) }

pub rest_becomes : (rs : List Float) (ms : List ℕ) (nr : List Float) (nm : List ℕ) → AllBecome (take (length rs - 16) (drop 16 rs)) (take (length ms - 2) (drop 2 ms)) nr nm cleared_row
    → RestCleared rs ms (put_mid 16 (length rs - 16) rs nr) (put_mid 2 (length ms - 2) ms nm)
rest_becomes rs ms nr nm h r l er em =
    let p = h l (tail-part 16 rs ∙ ap (drop 16) er) (tail-part 2 ms ∙ ap (drop 2) em) in
    let t16 : take 16 rs ≡ row_numbers r = ap (take 16) er in
    let t2 : take 2 ms ≡ row_words r = ap (take 2) em in
    (tail-put 16 rs nr ∙ rw (t16, p.0), tail-put 2 ms nm ∙ rw (t2, p.1))
