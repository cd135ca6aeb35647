-- Rows of both engines as lists: number by number the same, the words the same, and refusal 8 sees none. Assumes nothing.
use Rattle.std.specs.Prelude.{◌≡◌, refl, true, false, ℕ, zero, suc, ◌+◌, ◌*◌, get_or, ℤ, Float, None}
use Rattle.std.proofs.Common.{ap, ◌∙◌, lit≤, lit<}
use mathlib.Core.List.{List, [], ◌∷◌, ◌++◌}
use Rattle.geometry.specs.Geometry.{zero_f}
use Rattle.limits.specs.Limits.{too_large}
use Rattle.tree.specs.Tree.{Tree, Forest, node, none, more, flat_t, flat_f}
use Rattle.steps.specs.Row.{Row, row_numbers, row_words}
use Rattle.steps.specs.Scan.{lowest}
use Rattle.steps.specs.Noes.{bad_row}
use Rattle.steps.specs.Results.{rows_out, marks_out}
use Rattle.tables.proofs.ScanLaws.{is_none, nowhere-lowest}
use Rattle.whole.specs.Range.{wider, within_limit, zero_is}
use Rattle.integers.specs.Rows.{RowZ, row_numbers_z, row_words_z}
use Rattle.integers.specs.Results.{rows_out_z, marks_out_z}
use Rattle.exact.specs.Trees.{RelT, RelF}
use Rattle.exact.specs.Widths.{Holds}
use Rattle.exact.specs.Rows.{Same}

-- two lists of one length, related one by one
unfoldable pub RelL : {A B : Type 0} → (A → B → Type 0) → List A → List B → Type 0
RelL R [] [] = Unit {0}
RelL R [] (b ∷ m) = ⊥
RelL R (a ∷ l) [] = ⊥
RelL R (a ∷ l) (b ∷ m) = R a b × RelL R l m

module _ {A B : Type 0} (R : A → B → Type 0) where
  pub rel_join : (l l' : List A) (m m' : List B) → RelL R l m → RelL R l' m' → RelL R (l ++ l') (m ++ m')
  unfolding RelL
  rel_join [] l' [] m' p q = q
  rel_join [] l' (b ∷ m) m' p q = absurd p
  rel_join (a ∷ l) l' [] m' p q = absurd p
  rel_join (a ∷ l) l' (b ∷ m) m' p q = (p.0, rel_join l l' m m' p.1 q)

  pub rel-weak : (S : A → B → Type 0) → ((a : A) (b : B) → R a b → S a b) → (l : List A) (m : List B) → RelL R l m → RelL S l m
  unfolding RelL
  rel-weak S w [] [] p = tt
  rel-weak S w [] (b ∷ m) p = p
  rel-weak S w (a ∷ l) [] p = p
  rel-weak S w (a ∷ l) (b ∷ m) p = (w a b p.0, rel-weak S w l m p.1)

-- ---- the numbers of rows
row_numbers_lem : (r : Row) (z : RowZ) → Same r z → RelL Holds (row_numbers r) (row_numbers_z z)
unfolding RelL
row_numbers_lem r z p =
    (p.x, (p.y, (p.width, (p.height, (wider p.top.positive (lit≤ tt) (lit≤ tt), (wider p.top.negative (lit≤ tt) (lit≤ tt), (wider p.bottom.positive (lit≤ tt) (lit≤ tt), (wider p.bottom.negative (lit≤ tt) (lit≤ tt), (p.asked_width_lem, (p.asked_height_lem, (p.parent, (p.probe_width, (p.probe_height, (p.probe_answer, (p.basis, (p.baseline, tt))))))))))))))))

abbrev nums_t : Tree Row → List Float
nums_t t = flat_t (λ _ r. row_numbers r) t

abbrev nums_f : Forest Row → List Float
nums_f ts = flat_f (λ _ r. row_numbers r) ts

abbrev nums_tz : Tree RowZ → List ℤ
nums_tz t = flat_t (λ _ r. row_numbers_z r) t

abbrev nums_fz : Forest RowZ → List ℤ
nums_fz ts = flat_f (λ _ r. row_numbers_z r) ts

none_related : RelL Holds [] []
unfolding RelL
none_related = tt

mutual
  unfolding RelT flat_t

  numbers_t : (t : Tree Row) (u : Tree RowZ) → RelT Same t u → RelL Holds (nums_t t) (nums_tz u)
  numbers_t (node r ks) (node z us) p = rel_join Holds (row_numbers r) (nums_f ks) (row_numbers_z z) (nums_fz us) (row_numbers_lem r z p.0) (numbers_f ks us p.1)

  numbers_f : (ts : Forest Row) (us : Forest RowZ) → RelF Same ts us → RelL Holds (nums_f ts) (nums_fz us)
  numbers_f none none p = none_related
  numbers_f none (more u us) p = absurd p
  numbers_f (more t ts) none p = absurd p
  numbers_f (more t ts) (more u us) p = rel_join Holds (nums_t t) (nums_f ts) (nums_tz u) (nums_fz us) (numbers_t t u p.0) (numbers_f ts us p.1)

pub rows_out_lem : (t : Tree Row) (u : Tree RowZ) → RelT Same t u → RelL Holds (rows_out t) (rows_out_z u)
unfolding rows_out rows_out_z
rows_out_lem t u p = numbers_t t u p

-- ---- the words
row_words_lem : (r : Row) (z : RowZ) → Same r z → row_words r ≡ row_words_z z
row_words_lem r z p = two p.order p.bits
  where
    two : {a b c d : ℕ} → a ≡ b → c ≡ d → ◌≡◌ {A = List ℕ} (a ∷ c ∷ []) (b ∷ d ∷ [])
    two e f = rw (e, f)

mutual
  unfolding RelT flat_t

  words_t : (t : Tree Row) (u : Tree RowZ) → RelT Same t u → flat_t (λ _ r. row_words r) t ≡ flat_t (λ _ r. row_words_z r) u
  words_t (node r ks) (node z us) p = ap (λ (l : List ℕ). l ++ flat_f (λ _ r. row_words r) ks) (row_words_lem r z p.0) ∙ ap (λ (l : List ℕ). row_words_z z ++ l) (words_f ks us p.1)

  words_f : (ts : Forest Row) (us : Forest RowZ) → RelF Same ts us → flat_f (λ _ r. row_words r) ts ≡ flat_f (λ _ r. row_words_z r) us
  words_f none none p = refl
  words_f none (more u us) p = absurd p
  words_f (more t ts) none p = absurd p
  words_f (more t ts) (more u us) p = ap (λ (l : List ℕ). l ++ flat_f (λ _ r. row_words r) ts) (words_t t u p.0) ∙ ap (λ (l : List ℕ). flat_t (λ _ r. row_words_z r) u ++ l) (words_f ts us p.1)

pub marks_out_lem : (t : Tree Row) (u : Tree RowZ) → RelT Same t u → marks_out t ≡ marks_out_z u
unfolding marks_out marks_out_z
marks_out_lem t u p = words_t t u p

-- ---- refusal 8
pub small_number : {x : Float} {k : ℤ} → Holds x k → too_large x ≡ false
small_number p = within_limit p (lit< tt) (lit< tt)

small_at : (l : List Float) (m : List ℤ) → RelL Holds l m → (j : ℕ) → too_large (get_or l j zero_f) ≡ false
unfolding RelL
small_at [] [] p j = small_number (zero_is)
small_at [] (b ∷ m) p j = absurd p
small_at (a ∷ l) [] p j = absurd p
small_at (a ∷ l) (b ∷ m) p zero = small_number p.0
small_at (a ∷ l) (b ∷ m) p (suc j) = small_at l m p.1 j

pub no_eight : (l : List Float) (m : List ℤ) (n : ℕ) → RelL Holds l m → lowest (bad_row l) n ≡ None
unfolding bad_row
no_eight l m n p = nowhere-lowest (bad_row l) n (λ i u. is_none (λ (k : ℕ). too_large (get_or l (16 * i + k) zero_f)) (λ _. true) false 16 0 (λ j v w. small_at l m p (16 * i + j)))
