-- Rows that a tree was written to are read back, node by node: the parser gives that tree again.
use Rattle.std.specs.Prelude.{◌≡◌, refl, List, [], ◌∷◌, ◌++◌, ℕ, zero, suc, ◌+◌, ◌*◌, length, get_or, Float}
use Rattle.std.proofs.Common.{sym, ap, ◌∙◌, arith, get_or-append-add}
use Rattle.geometry.specs.Geometry.{zero_f}
use Rattle.tree.specs.Tree.{Tree, Forest, node, none, more, map_t, flat_t, flat_f, count_t, count_f}
use Rattle.tree.specs.Table.{Entry, entry_of, from, parse_t}
use Rattle.tree.proofs.Laws.{flat_map_t, count_map_t}
use Rattle.tree.proofs.Lists.{from_zero, from_suc, length_from, cons-first, cons-rest, from_next}
use Rattle.tree.proofs.Parse.{entries_t, parse_is}
use Rattle.steps.specs.Row.{Row, row_numbers, row_words, row_at}
use Rattle.steps.specs.Results.{listed, rows_out, marks_out}
use Rattle.steps.proofs.Shape.{mute}
use Rattle.steps.proofs.Listed.{listed_nil, listed_cons, listed_append}
use Rattle.laws.specs.Parsed.{from-same}

-- a table of a tree, by its entries
module _ {A B : Type 0} (g : ℕ → A → List B) where
  abbrev by_entry : Entry A → List B
  by_entry e = g e.size e.label

  mutual
    unfolding flat_t

    pub flat-entries-T : (t : Tree A) → flat_t g t ≡ listed by_entry (flat_t entry_of t)
    flat-entries-T (node a ks) = ap (λ (l : List B). g (suc (count_f ks)) a ++ l) (flat-entries-F ks) ∙ sym (listed_cons by_entry _ (flat_f entry_of ks))

    pub flat-entries-F : (ts : Forest A) → flat_f g ts ≡ listed by_entry (flat_f entry_of ts)
    flat-entries-F none = sym (listed_nil by_entry)
    flat-entries-F (more t ts) = rw (flat-entries-T t, flat-entries-F ts) (sym (listed_append by_entry (flat_t entry_of t) (flat_f entry_of ts)))

-- sizes go with the shape
abbrev size_only : {A : Type 0} → ℕ → A → List ℕ
size_only n a = n ∷ []

sizes_shape : {A B : Type 0} (t : Tree A) (u : Tree B) → map_t mute t ≡ map_t mute u → flat_t size_only t ≡ flat_t size_only u
sizes_shape t u e = sym (flat_map_t size_only mute t) ∙ ap (flat_t size_only) e ∙ flat_map_t size_only mute u

abbrev size_in : {A : Type 0} → Entry A → List ℕ
size_in e = e.size ∷ []

sizes_from : {A : Type 0} (f : ℕ → Entry A) (i n : ℕ) → from (λ (k : ℕ). (f k).size) i n ≡ listed size_in (from f i n)
unfolding from listed
sizes_from f i zero = refl
sizes_from f i (suc n) = ap (λ (l : List ℕ). (f i).size ∷ l) (sizes_from f (suc i) n)

-- a row among rows
first_of : (xs : List Float) (r : Row) (i : ℕ) → get_or (row_numbers r ++ xs) (16 * suc i) zero_f ≡ get_or xs (16 * i) zero_f
first_of xs r i =
    let p : 16 * suc i ≡ 16 + 16 * i = omega arith in
    ap (λ (k : ℕ). get_or (row_numbers r ++ xs) k zero_f) p ∙ get_or-append-add (row_numbers r) xs (16 * i) zero_f

number_of : (xs : List Float) (r : Row) (i k : ℕ) → get_or (row_numbers r ++ xs) (16 * suc i + k) zero_f ≡ get_or xs (16 * i + k) zero_f
number_of xs r i k =
    let p : 16 * suc i + k ≡ 16 + (16 * i + k) = omega arith in
    ap (λ (n : ℕ). get_or (row_numbers r ++ xs) n zero_f) p ∙ get_or-append-add (row_numbers r) xs (16 * i + k) zero_f

mark_of : (ys : List ℕ) (r : Row) (i : ℕ) → get_or (row_words r ++ ys) (2 * suc i) 0 ≡ get_or ys (2 * i) 0
mark_of ys r i =
    let p : 2 * suc i ≡ 2 + 2 * i = omega arith in
    ap (λ (k : ℕ). get_or (row_words r ++ ys) k 0) p ∙ get_or-append-add (row_words r) ys (2 * i) 0

word_of : (ys : List ℕ) (r : Row) (i k : ℕ) → get_or (row_words r ++ ys) (2 * suc i + k) 0 ≡ get_or ys (2 * i + k) 0
word_of ys r i k =
    let p : 2 * suc i + k ≡ 2 + (2 * i + k) = omega arith in
    ap (λ (n : ℕ). get_or (row_words r ++ ys) n 0) p ∙ get_or-append-add (row_words r) ys (2 * i + k) 0

row_here : (xs : List Float) (ys : List ℕ) (r : Row) → row_at (row_numbers r ++ xs) (row_words r ++ ys) 0 ≡ r
row_here xs ys r = refl

row_next : (xs : List Float) (ys : List ℕ) (r : Row) (i : ℕ) → row_at (row_numbers r ++ xs) (row_words r ++ ys) (suc i) ≡ row_at xs ys i
row_next xs ys r i = rw (first_of xs r i, number_of xs r i 1, number_of xs r i 2, number_of xs r i 3, number_of xs r i 4, number_of xs r i 5, number_of xs r i 6, number_of xs r i 7, number_of xs r i 8, number_of xs r i 9, number_of xs r i 10, number_of xs r i 11, number_of xs r i 12, number_of xs r i 13, number_of xs r i 14, number_of xs r i 15, mark_of ys r i, word_of ys r i 1)

abbrev numbers_in : List (Entry Row) → List Float
numbers_in l = listed (λ (e : Entry Row). row_numbers e.label) l

abbrev words_in : List (Entry Row) → List ℕ
words_in l = listed (λ (e : Entry Row). row_words e.label) l

abbrev read_back : (ℕ → ℕ) → List Float → List ℕ → ℕ → Entry Row
read_back s xs ys i = record { size = s i; label = row_at xs ys i }

same_entry : (s t : ℕ) (a b : Row) → s ≡ t → a ≡ b → ◌≡◌ {A = Entry Row} (record { size = s; label = a }) (record { size = t; label = b })
same_entry s t a b p q = rw (p, q)

read_more : (e : Entry Row) (l : List (Entry Row)) (s : ℕ → ℕ) → from s 0 (suc (length l)) ≡ e.size ∷ listed size_in l
    → ((z : ℕ → ℕ) → from z 0 (length l) ≡ listed size_in l → from (read_back z (numbers_in l) (words_in l)) 0 (length l) ≡ l)
    → from (read_back s (row_numbers e.label ++ numbers_in l) (row_words e.label ++ words_in l)) 0 (suc (length l)) ≡ e ∷ l
read_more e l s h r =
    let n = length l in
    let xs = row_numbers e.label ++ numbers_in l in
    let ys = row_words e.label ++ words_in l in
    let h1 : s 0 ∷ from s 1 n ≡ e.size ∷ listed size_in l = sym (from_suc s 0 n) ∙ h in
    let a : s 0 ≡ e.size = cons-first _ _ _ _ h1 in
    let b : from (λ (k : ℕ). s (suc k)) 0 n ≡ listed size_in l = sym (from_next s 0 n) ∙ cons-rest _ _ _ _ h1 in
    let c : from (λ (k : ℕ). read_back s xs ys (suc k)) 0 n ≡ from (read_back (λ (k : ℕ). s (suc k)) (numbers_in l) (words_in l)) 0 n =
    from-same (λ (k : ℕ). read_back s xs ys (suc k)) (read_back (λ (k : ℕ). s (suc k)) (numbers_in l) (words_in l)) 0 n (λ k _. same_entry _ _ _ _ refl (row_next (numbers_in l) (words_in l) e.label k)) in
    from_suc (read_back s xs ys) 0 n ∙ ap (λ (x : Entry Row). x ∷ from (read_back s xs ys) 1 n) (same_entry _ _ _ _ a (row_here (numbers_in l) (words_in l) e.label))
    ∙ ap (λ (m : List (Entry Row)). e ∷ m) (from_next (read_back s xs ys) 0 n ∙ c ∙ r (λ (k : ℕ). s (suc k)) b)

read_back_lem : (l : List (Entry Row)) (s : ℕ → ℕ) → from s 0 (length l) ≡ listed size_in l → from (read_back s (numbers_in l) (words_in l)) 0 (length l) ≡ l
read_back_lem [] s h = from_zero (read_back s (numbers_in []) (words_in [])) 0
read_back_lem (e ∷ l) s h =
    rw (listed_cons (λ (x : Entry Row). row_numbers x.label) e l, listed_cons (λ (x : Entry Row). row_words x.label) e l)
    (read_more e l s (h ∙ listed_cons size_in e l) (λ z q. read_back_lem l z q))

-- The rows of a tree of the page's shape, at the page's sizes.
pub rows_tree : {A : Type 0} (f : ℕ → Entry A) (n : ℕ) (page : Tree A) (rows : Tree Row) → from f 0 n ≡ flat_t entry_of page → map_t mute rows ≡ map_t mute page
    → parse_t (read_back (λ (k : ℕ). (f k).size) (rows_out rows) (marks_out rows)) n ≡ rows
unfolding rows_out marks_out
rows_tree f n page rows e m =
    let l = flat_t entry_of rows in
    let c : length l ≡ n = entries_t rows ∙ sym (count_map_t mute rows) ∙ ap count_t m ∙ count_map_t mute page ∙ sym (entries_t page) ∙ ap length (sym e) ∙ length_from f 0 n in
    let z : from (λ (k : ℕ). (f k).size) 0 n ≡ listed size_in l = sizes_from f 0 n ∙ ap (listed size_in) e ∙ sym (flat-entries-T size_only page) ∙ sym (sizes_shape rows page m) ∙ flat-entries-T size_only rows in
    parse_is _ n rows (rw (flat-entries-T (λ (_ : ℕ) (r : Row). row_numbers r) rows, flat-entries-T (λ (_ : ℕ) (r : Row). row_words r) rows, ← c) (read_back_lem l (λ (k : ℕ). (f k).size) (rw c z)))

-- The same for a table of one entry to a node.
abbrev pub read_at : {A : Type 0} → (ℕ → ℕ) → List A → A → ℕ → Entry A
read_at s xs d i = record { size = s i; label = get_or xs i d }

module _ {A : Type 0} (d : A) where
  abbrev labels_in : List (Entry A) → List A
  labels_in l = listed (λ (e : Entry A). e.label ∷ []) l

  at_entry : (s t : ℕ) (a b : A) → s ≡ t → a ≡ b → ◌≡◌ {A = Entry A} (record { size = s; label = a }) (record { size = t; label = b })
  at_entry s t a b p q = rw (p, q)

  label-more : (e : Entry A) (l : List (Entry A)) (s : ℕ → ℕ) → from s 0 (suc (length l)) ≡ e.size ∷ listed size_in l
      → ((z : ℕ → ℕ) → from z 0 (length l) ≡ listed size_in l → from (read_at z (labels_in l) d) 0 (length l) ≡ l) → from (read_at s (e.label ∷ labels_in l) d) 0 (suc (length l)) ≡ e ∷ l
  label-more e l s h r =
      let n = length l in
      let xs = e.label ∷ labels_in l in
      let h1 : s 0 ∷ from s 1 n ≡ e.size ∷ listed size_in l = sym (from_suc s 0 n) ∙ h in
      let a : s 0 ≡ e.size = cons-first _ _ _ _ h1 in
      let b : from (λ (k : ℕ). s (suc k)) 0 n ≡ listed size_in l = sym (from_next s 0 n) ∙ cons-rest _ _ _ _ h1 in
      from_suc (read_at s xs d) 0 n ∙ ap (λ (x : Entry A). x ∷ from (read_at s xs d) 1 n) (at_entry _ _ _ _ a refl)
      ∙ ap (λ (m : List (Entry A)). e ∷ m) (from_next (read_at s xs d) 0 n ∙ r (λ (k : ℕ). s (suc k)) b)

  label-back : (l : List (Entry A)) (s : ℕ → ℕ) → from s 0 (length l) ≡ listed size_in l → from (read_at s (labels_in l) d) 0 (length l) ≡ l
  label-back [] s h = from_zero (read_at s (labels_in []) d) 0
  label-back (e ∷ l) s h = rw (listed_cons (λ (x : Entry A). x.label ∷ []) e l) (label-more e l s (h ∙ listed_cons size_in e l) (λ z q. label-back l z q))

  pub labels-tree : {B : Type 0} (f : ℕ → Entry B) (n : ℕ) (page : Tree B) (u : Tree A) → from f 0 n ≡ flat_t entry_of page → map_t mute u ≡ map_t mute page
      → parse_t (read_at (λ (k : ℕ). (f k).size) (flat_t (λ (_ : ℕ) (a : A). a ∷ []) u) d) n ≡ u
  labels-tree f n page u e m =
      let l = flat_t entry_of u in
      let c : length l ≡ n = entries_t u ∙ sym (count_map_t mute u) ∙ ap count_t m ∙ count_map_t mute page ∙ sym (entries_t page) ∙ ap length (sym e) ∙ length_from f 0 n in
      let z : from (λ (k : ℕ). (f k).size) 0 n ≡ listed size_in l = sizes_from f 0 n ∙ ap (listed size_in) e ∙ sym (flat-entries-T size_only page) ∙ sym (sizes_shape u page m) ∙ flat-entries-T size_only u in
      parse_is _ n u (rw (flat-entries-T (λ (_ : ℕ) (a : A). a ∷ []) u, ← c) (label-back l (λ (k : ℕ). (f k).size) (rw c z)))
