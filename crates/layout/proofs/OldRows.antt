-- Old rows as lent, and rows of zeros, are the rows of the page's cells.
use mathlib.Core.Path.{◌≡◌, refl, sym, ap, ◌∙◌}
use mathlib.Core.List.{List, [], ◌∷◌}
use Prim.Native.Nat.{ℕ, zero, suc, ◌+◌, ◌*◌, ◌≤◌}
use native.Mathlib.Omega.{arith}
use native.Mathlib.Nat.{add-zero, mul-suc, mul-add}
use lib.ListN.{length, get_or, take, drop, replicate, take-append-drop, length-drop, drop_of_length-le}
use lib.Seq.{get_or-drop, drop-drop}
use lib.Ieee.{Float}
use Rattle.geometry.specs.Geometry.{zero_f}
use Rattle.tree.specs.Tree.{Tree, count_t, flat_t, map_t}
use Rattle.tree.specs.Table.{Entry, entry_of, from}
use Rattle.tree.proofs.Laws.{flat_map_t, flat-constT}
use Rattle.tree.proofs.Lists.{from_next}
use Rattle.steps.specs.Row.{row_numbers, row_words, row_at, no_row}
use Rattle.steps.specs.Page.{Site, Cell, cell_at, blank}
use Rattle.steps.specs.Results.{listed}
use Rattle.walks.specs.Tables.{old_numbers, old_words}
use Rattle.walks.proofs.Zeros.{zero_numbers, zero_words}
use Rattle.laws.specs.Entries.{flat-entries-T}

-- the first k of a list, read one by one
heads : {A : Type 0} (z : A) (k : ℕ) (l : List A) → k ≤ length l → take k l ≡ from (λ (j : ℕ). get_or l j z) 0 k
unfolding from
heads z zero l h = refl
heads z (suc k) [] h = absurd (omega (arith, h))
heads {A} z (suc k) (x ∷ l) h = ap (λ (m : List A). x ∷ m) (heads z k l (omega (arith, h)) ∙ sym (from_next (λ (j : ℕ). get_or (x ∷ l) j z) 0 k))

numbers_read : (rs : List Float) (ms : List ℕ) (i : ℕ) → from (λ (j : ℕ). get_or (drop (16 * i) rs) j zero_f) 0 16 ≡ row_numbers (row_at rs ms i)
unfolding from
numbers_read rs ms i =
    let z : 16 * i + 0 ≡ 16 * i = omega arith in
    rw (get_or-drop (16 * i) rs 0 zero_f, get_or-drop (16 * i) rs 1 zero_f, get_or-drop (16 * i) rs 2 zero_f, get_or-drop (16 * i) rs 3 zero_f, get_or-drop (16 * i) rs 4 zero_f, get_or-drop (16 * i) rs 5 zero_f, get_or-drop (16 * i) rs 6 zero_f, get_or-drop (16 * i) rs 7 zero_f, get_or-drop (16 * i) rs 8 zero_f, get_or-drop (16 * i) rs 9 zero_f, get_or-drop (16 * i) rs 10 zero_f, get_or-drop (16 * i) rs 11 zero_f, get_or-drop (16 * i) rs 12 zero_f, get_or-drop (16 * i) rs 13 zero_f, get_or-drop (16 * i) rs 14 zero_f, get_or-drop (16 * i) rs 15 zero_f, z)

words_read : (rs : List Float) (ms : List ℕ) (i : ℕ) → from (λ (j : ℕ). get_or (drop (2 * i) ms) j 0) 0 2 ≡ row_words (row_at rs ms i)
unfolding from
words_read rs ms i =
    let z : 2 * i + 0 ≡ 2 * i = omega arith in
    rw (get_or-drop (2 * i) ms 0 0, get_or-drop (2 * i) ms 1 0, z)

long : {A : Type 0} (k i : ℕ) (l : List A) → k * i + k ≤ length l → k ≤ length (drop (k * i) l)
long k i l h = rw (length-drop (k * i) l) (omega (arith, h))

-- a list cut into pieces of k
module _ {A B : Type 0} (k : ℕ) (f : A → List B) (l : List B) (read : ℕ → A) (each : (i : ℕ) → k * i + k ≤ length l → f (read i) ≡ take k (drop (k * i) l)) where
  pieces : (n i : ℕ) → length l ≡ k * (i + n) → drop (k * i) l ≡ listed f (from read i n)
  unfolding listed from
  pieces zero i h = let g : length l ≡ k * i = h ∙ ap (λ (m : ℕ). k * m) (add-zero i) in drop_of_length-le l {i = k * i} (omega (arith, g))
  pieces (suc n) i h =
      let a : i + suc n ≡ suc i + n = omega arith in
      let p : k * suc i ≡ k * i + k = mul-suc k i in
      let s : k * (suc i + n) ≡ k * suc i + k * n = mul-add k (suc i) n in
      let hh : length l ≡ k * (suc i + n) = h ∙ ap (λ (m : ℕ). k * m) a in
      sym (take-append-drop k (drop (k * i) l)) ∙ rw (drop-drop k (k * i) l, ← p, pieces n (suc i) hh, each i (omega (arith, p, s, hh)))

-- the page's cells have the rows as lent
module _ (ws : List ℕ) (xs rs : List Float) (ms es : List ℕ) (n : ℕ) (t : Tree Cell) (entries : from (cell_at ws xs rs ms es) 0 n ≡ flat_t entry_of t) where
  pub rows-lent : length rs ≡ 16 * n → rs ≡ flat_t old_numbers t
  unfolding cell_at
  rows-lent h =
      let f : Entry Cell → List Float = λ (e : Entry Cell). row_numbers e.label.old in
      let z : 0 + n ≡ n = omega arith in
      pieces 16 f rs (cell_at ws xs rs ms es) (λ i g. sym (heads zero_f 16 (drop (16 * i) rs) (long 16 i rs g) ∙ numbers_read rs ms i)) n 0 (h ∙ ap (λ (m : ℕ). 16 * m) (sym z))
      ∙ ap (listed f) entries ∙ sym (flat-entries-T old_numbers t)

  pub marks-lent : length ms ≡ 2 * n → ms ≡ flat_t old_words t
  unfolding cell_at
  marks-lent h =
      let f : Entry Cell → List ℕ = λ (e : Entry Cell). row_words e.label.old in
      let z : 0 + n ≡ n = omega arith in
      pieces 2 f ms (cell_at ws xs rs ms es) (λ i g. sym (heads 0 2 (drop (2 * i) ms) (long 2 i ms g) ∙ words_read rs ms i)) n 0 (h ∙ ap (λ (m : ℕ). 2 * m) (sym z))
      ∙ ap (listed f) entries ∙ sym (flat-entries-T old_words t)

-- rows of zeros are those of a page with nothing kept
pub rows_blank : (t : Tree Site) → flat_t old_numbers (map_t blank t) ≡ replicate (16 * count_t t) zero_f
unfolding blank
rows_blank t = flat_map_t old_numbers blank t ∙ flat-constT (row_numbers no_row) zero_f 16 zero_numbers t

pub marks_blank : (t : Tree Site) → flat_t old_words (map_t blank t) ≡ replicate (2 * count_t t) 0
unfolding blank
marks_blank t = flat_map_t old_words blank t ∙ flat-constT (row_words no_row) 0 2 zero_words t
