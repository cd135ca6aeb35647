-- What memory holds after the pass, node by node and run by run.
--     passed_cleared, passed_staying, passed_probed   one row, in the three ways that a node is passed
--     staying_rows, staying_marks                     a run that stays
--     all_cleared, rest_cleared                       a run that loses its probe words, whole or but for its first row
use mathlib.Core.Path.{◌≡◌, refl, sym, ap, ◌∙◌}
use mathlib.Core.List.{List, [], ◌∷◌, ◌++◌, map}
use Prim.Native.Nat.{ℕ, suc, ◌/◌, ◌%◌}
use lib.Ieee.{Float}
use Rattle.tree.specs.Tree.{Tree, Forest, node, none, more, count_f, flat_t, flat_f, map_t, map_f}
use Rattle.tree.proofs.Laws.{flat_map_t, flat_map_f}
use Rattle.tree.proofs.Lists.{map_append}
use Rattle.steps.specs.Row.{Row, row_numbers, row_words, noted, with_code, no_probe, probe_note, probe_of}
use Rattle.steps.specs.Results.{listed}
use Rattle.steps.specs.Page.{Cell, Node, cleared, staying, probed_anew}
use Rattle.steps.specs.declared.ProbeInput.{ProbeInput}
use Rattle.steps.proofs.Codes.{same_code}
use Rattle.steps.proofs.Listed.{listed_append}
use Rattle.rows.specs.Store.{probed_row, cleared_row, AllBecome}
use Rattle.walks.specs.Tables.{old_numbers, old_words}
use Rattle.probing.specs.Passed.{passed_row, passed_numbers, passed_words}
use Rattle.probing.specs.Contract.{AreT, RestCleared}

pub passed_cleared : (c : Cell) → passed_row (cleared c) ≡ cleared_row c.old
unfolding passed_row cleared cleared_row no_probe
passed_cleared c = refl

pub same_note : (r : Row) → noted r (probe_of r) (with_code r.bits (r.bits / 16 % 16)) ≡ r
unfolding noted probe_of
same_note r = rw (same_code r.bits)

pub passed_staying : (c : Cell) → passed_row (staying c) ≡ c.old
unfolding passed_row staying probe_of
passed_staying c = same_note c.old

pub passed_probed : (c : Cell) (q : ProbeInput) (a : Float) → passed_row (probed_anew c (probe_note q a)) ≡ probed_row q a c.old
unfolding passed_row probed_anew probed_row probe_note
passed_probed c q a = refl

-- what each label adds, one by one
module _ {A B : Type 0} (f g : ℕ → A → List B) (same : (n : ℕ) (a : A) → f n a ≡ g n a) where
  mutual
    unfolding flat_t

    pub flat-sameT : (t : Tree A) → flat_t f t ≡ flat_t g t
    flat-sameT (node a ks) = rw (same (suc (count_f ks)) a, flat-sameF ks)

    pub flat-sameF : (ts : Forest A) → flat_f f ts ≡ flat_f g ts
    flat-sameF none = refl
    flat-sameF (more t ts) = rw (flat-sameT t, flat-sameF ts)

-- a run that stays
pub staying_rows : (t : Tree Cell) → flat_t passed_numbers (map_t staying t) ≡ flat_t old_numbers t
staying_rows t = flat_map_t passed_numbers staying t ∙ flat-sameT (λ n (c : Cell). row_numbers (passed_row (staying c))) old_numbers (λ n c. ap row_numbers (passed_staying c)) t

pub staying_marks : (t : Tree Cell) → flat_t passed_words (map_t staying t) ≡ flat_t old_words t
staying_marks t = flat_map_t passed_words staying t ∙ flat-sameT (λ n (c : Cell). row_words (passed_row (staying c))) old_words (λ n c. ap row_words (passed_staying c)) t

-- a run as a list of rows, each changed by k
abbrev row_in : (Row → Row) → ℕ → Cell → List Row
row_in k n c = k c.old ∷ []

abbrev same : Row → Row
same r = r

module _ {B : Type 0} (f : Row → List B) (k : Row → Row) where
  mutual
    unfolding flat_t listed

    listed-T : (t : Tree Cell) → flat_t (λ _ (c : Cell). f (k c.old)) t ≡ listed f (flat_t (row_in k) t)
    listed-T (node c ks) = rw (listed-F ks)

    listed-F : (ts : Forest Cell) → flat_f (λ _ (c : Cell). f (k c.old)) ts ≡ listed f (flat_f (row_in k) ts)
    listed-F none = refl
    listed-F (more t ts) = rw (listed-T t, listed-F ts) (sym (listed_append f (flat_t (row_in k) t) (flat_f (row_in k) ts)))

module _ (k : Row → Row) where
  mutual
    unfolding flat_t

    map-T : (t : Tree Cell) → map k (flat_t (row_in same) t) ≡ flat_t (row_in k) t
    map-T (node c ks) = ap (λ (z : List Row). k c.old ∷ z) (map-F ks)

    map-F : (ts : Forest Cell) → map k (flat_f (row_in same) ts) ≡ flat_f (row_in k) ts
    map-F none = refl
    map-F (more t ts) = map_append k (flat_t (row_in same) t) (flat_f (row_in same) ts) ∙ rw (map-T t, map-F ts)

-- cleared labels, written out
cleared_t : {B : Type 0} (f : Row → List B) (t : Tree Cell) → flat_t (λ _ (l : Node). f (passed_row l)) (map_t cleared t) ≡ listed f (map cleared_row (flat_t (row_in same) t))
cleared_t f t =
    flat_map_t (λ _ (l : Node). f (passed_row l)) cleared t ∙ flat-sameT (λ _ (c : Cell). f (passed_row (cleared c))) (λ _ (c : Cell). f (cleared_row c.old)) (λ n c. ap f (passed_cleared c)) t
    ∙ listed-T f cleared_row t ∙ ap (listed f) (sym (map-T cleared_row t))

cleared_f : {B : Type 0} (f : Row → List B) (ts : Forest Cell) → flat_f (λ _ (l : Node). f (passed_row l)) (map_f cleared ts) ≡ listed f (map cleared_row (flat_f (row_in same) ts))
cleared_f f ts =
    flat_map_f (λ _ (l : Node). f (passed_row l)) cleared ts ∙ flat-sameF (λ _ (c : Cell). f (passed_row (cleared c))) (λ _ (c : Cell). f (cleared_row c.old)) (λ n c. ap f (passed_cleared c)) ts
    ∙ listed-F f cleared_row ts ∙ ap (listed f) (sym (map-F cleared_row ts))

pub all_cleared : (rs : List Float) (ms : List ℕ) (rs' : List Float) (ms' : List ℕ) (t : Tree Cell) → rs ≡ flat_t old_numbers t → ms ≡ flat_t old_words t → AllBecome rs ms rs' ms' cleared_row → AreT rs' ms' (map_t cleared t)
all_cleared rs ms rs' ms' t er em h =
    let p = h (flat_t (row_in same) t) (er ∙ listed-T row_numbers same t) (em ∙ listed-T row_words same t) in
    (p.0 ∙ sym (cleared_t row_numbers t), p.1 ∙ sym (cleared_t row_words t))

pub rest_cleared : (rs : List Float) (ms : List ℕ) (rs' : List Float) (ms' : List ℕ) (r : Row) (ks : Forest Cell) → rs ≡ row_numbers r ++ flat_f old_numbers ks → ms ≡ row_words r ++ flat_f old_words ks → RestCleared rs ms rs' ms'
    → (rs' ≡ row_numbers r ++ flat_f passed_numbers (map_f cleared ks)) × (ms' ≡ row_words r ++ flat_f passed_words (map_f cleared ks))
rest_cleared rs ms rs' ms' r ks er em h =
    let p = h r (flat_f (row_in same) ks) (er ∙ ap (λ (z : List Float). row_numbers r ++ z) (listed-F row_numbers same ks)) (em ∙ ap (λ (z : List ℕ). row_words r ++ z) (listed-F row_words same ks)) in (
      p.0 ∙ ap (λ (z : List Float). row_numbers r ++ z) (sym (cleared_f row_numbers ks)),
      p.1 ∙ ap (λ (z : List ℕ). row_words r ++ z) (sym (cleared_f row_words ks)),
    )
