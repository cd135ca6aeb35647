-- The parser finds a tree again from its entries, so no other tree has them.
use mathlib.Core.Path.{◌≡◌, refl, sym, ap, ◌∙◌}
use mathlib.Core.List.{List, ◌∷◌, ◌++◌, append_assoc}
use Prim.Native.Nat.{ℕ, zero, suc, ◌-◌, ◌≤◌}
use native.Mathlib.Omega.{arith}
use lib.ListN.{length, take, drop}
use lib.Seq.{take_at, drop_at}
use Rattle.tree.specs.Tree.{Tree, Forest, node, none, more, count_t, count_f, flat_t, flat_f}
use Rattle.tree.specs.Table.{Entry, entry_of, from, parse_f, parse_t}
use Rattle.tree.proofs.Laws.{count_t_node, count_f_more, flat_t_node, flat_f_none, flat_f_more, length-flatF, length-flatT}
use Rattle.tree.proofs.Lists.{from_suc, length_from, cons-first, cons-rest}

pub entries_f : {A : Type 0} (ts : Forest A) → length (flat_f entry_of ts) ≡ count_f ts
entries_f ts = length-flatF entry_of 1 (λ _ _. refl) ts ∙ omega arith

pub entries_t : {A : Type 0} (t : Tree A) → length (flat_t entry_of t) ≡ count_t t
entries_t t = length-flatT entry_of 1 (λ _ _. refl) t ∙ omega arith

pub parse_more : {A : Type 0} (k : ℕ) (e : Entry A) (l : List (Entry A)) → parse_f (suc k) (e ∷ l) ≡ more (node e.label (parse_f k (take (e.size - 1) l))) (parse_f k (drop (e.size - 1) l))
unfolding parse_f
parse_more k e l = refl

pub parse_flat_f : {A : Type 0} (k : ℕ) (ts : Forest A) → count_f ts ≤ k → parse_f k (flat_f entry_of ts) ≡ ts
unfolding parse_f
parse_flat_f zero none h = refl
parse_flat_f zero (more (node a ks) us) h = let z = simp (count_f_more, count_t_node) at h in absurd (omega arith)
parse_flat_f {A} (suc k) none h = ap (λ (l : List (Entry A)). parse_f (suc k) l) (flat_f_none entry_of)
parse_flat_f (suc k) (more (node a ks) us) h =
    let z = simp (count_f_more, count_t_node) at h in
    let e1 : flat_f entry_of (more (node a ks) us) ≡ record { size = suc (count_f ks); label = a } ∷ (flat_f entry_of ks ++ flat_f entry_of us) = simp (flat_f_more, flat_t_node, append_assoc) in
    let s : suc (count_f ks) - 1 ≡ count_f ks = omega arith in
    let c3 = take_at (flat_f entry_of ks) (flat_f entry_of us) (count_f ks) (entries_f ks) in
    let c4 = drop_at (flat_f entry_of ks) (flat_f entry_of us) (count_f ks) (entries_f ks) in
    rw e1 (parse_more k (record { size = suc (count_f ks); label = a }) (flat_f entry_of ks ++ flat_f entry_of us) ∙ rw (s, c3, c4, parse_flat_f k ks (omega arith), parse_flat_f k us (omega arith)))

-- a table that is a tree's: the parser gives that tree
pub parse_is : {A : Type 0} (f : ℕ → Entry A) (n : ℕ) (t : Tree A) → from f 0 n ≡ flat_t entry_of t → parse_t f n ≡ t
unfolding parse_t
parse_is f zero (node a ks) e =
    let h : 0 ≡ count_t (node a ks) = sym (length_from f 0 0) ∙ ap length e ∙ entries_t (node a ks) in
    absurd (omega (arith, count_t_node a ks))
parse_is {A} f (suc n) (node a ks) e =
    let q : f 0 ∷ from f 1 n ≡ record { size = suc (count_f ks); label = a } ∷ flat_f entry_of ks = sym (from_suc f 0 n) ∙ e ∙ flat_t_node entry_of a ks in
    let r : from f 1 n ≡ flat_f entry_of ks = cons-rest (f 0) _ (from f 1 n) (flat_f entry_of ks) q in
    let l : (f 0).label ≡ a = ap (λ (x : Entry A). x.label) (cons-first (f 0) _ (from f 1 n) (flat_f entry_of ks) q) in
    let c : n ≡ count_f ks = sym (length_from f 1 n) ∙ ap length r ∙ entries_f ks in
    let s : suc n - 1 ≡ n = omega arith in
    rw (s, l, r, parse_flat_f n ks (omega arith))
