-- Laws of trees and of their flat tables.
--     *-node, *-none, *-more          the clauses, as equations: proofs rewrite by these and leave the definitions shut
--     length-flatT, length-flatF      a table of k entries for each node has k times as many as nodes
--     flat-map*, flat-join, count-*, depth-map*   tables, sizes and depth of changed trees
--     flat-const*                     a table in which all nodes have the same entries
use mathlib.Core.Path.{◌≡◌, refl, sym, ap, ◌∙◌}
use mathlib.Core.List.{List, [], ◌++◌, append_assoc}
use Prim.Native.Nat.{ℕ, suc, ◌+◌, ◌*◌, max}
use native.Mathlib.Omega.{arith}
use native.Mathlib.Nat.{mul-zero, mul-suc, mul-add, add_assoc, add_comm}
use lib.ListN.{length, replicate, length-append, replicate-append-replicate}
use Rattle.tree.specs.Tree.{Tree, Forest, node, none, more, count_t, count_f, flat_t, flat_f, depth_t, depth_f, map_t, map_f, root_t, on_root, join_f}

pub count_t_node : {A : Type 0} (a : A) (ks : Forest A) → count_t (node a ks) ≡ suc (count_f ks)
unfolding count_t
count_t_node a ks = refl

pub count_f_none : (A : Type 0) → count_f {A = A} none ≡ 0
unfolding count_f
count_f_none A = refl

pub count_f_more : {A : Type 0} (t : Tree A) (us : Forest A) → count_f (more t us) ≡ count_t t + count_f us
unfolding count_f
count_f_more t us = refl

pub flat_t_node : {A B : Type 0} (f : ℕ → A → List B) (a : A) (ks : Forest A) → flat_t f (node a ks) ≡ f (suc (count_f ks)) a ++ flat_f f ks
unfolding flat_t
flat_t_node f a ks = refl

pub flat_f_none : {A B : Type 0} (f : ℕ → A → List B) → flat_f f none ≡ []
unfolding flat_f
flat_f_none f = refl

pub flat_f_more : {A B : Type 0} (f : ℕ → A → List B) (t : Tree A) (us : Forest A) → flat_f f (more t us) ≡ flat_t f t ++ flat_f f us
unfolding flat_f
flat_f_more f t us = refl

pub depth_t_node : {A : Type 0} (a : A) (ks : Forest A) → depth_t (node a ks) ≡ suc (depth_f ks)
unfolding depth_t
depth_t_node a ks = refl

pub depth_f_none : (A : Type 0) → depth_f {A = A} none ≡ 0
unfolding depth_f
depth_f_none A = refl

pub depth_f_more : {A : Type 0} (t : Tree A) (us : Forest A) → depth_f (more t us) ≡ max (depth_t t) (depth_f us)
unfolding depth_f
depth_f_more t us = refl

pub map_t_node : {A B : Type 0} (f : A → B) (a : A) (ks : Forest A) → map_t f (node a ks) ≡ node (f a) (map_f f ks)
unfolding map_t
map_t_node f a ks = refl

pub map_f_none : {A B : Type 0} (f : A → B) → map_f f none ≡ none
unfolding map_f
map_f_none f = refl

pub map_f_more : {A B : Type 0} (f : A → B) (t : Tree A) (ts : Forest A) → map_f f (more t ts) ≡ more (map_t f t) (map_f f ts)
unfolding map_f
map_f_more f t ts = refl

pub root_t_node : {A : Type 0} (a : A) (ks : Forest A) → root_t (node a ks) ≡ a
unfolding root_t
root_t_node a ks = refl

pub root_t_map : {A B : Type 0} (f : A → B) (t : Tree A) → root_t (map_t f t) ≡ f (root_t t)
unfolding root_t map_t
root_t_map f (node a ks) = refl

pub on_root_node : {A : Type 0} (f : A → A) (a : A) (ks : Forest A) → on_root f (node a ks) ≡ node (f a) ks
unfolding on_root
on_root_node f a ks = refl

module _ {A B : Type 0} (f : ℕ → A → List B) (k : ℕ) (each : (n : ℕ) (a : A) → length (f n a) ≡ k) where
  mutual
    unfolding flat_t count_t

    pub length-flatT : (t : Tree A) → length (flat_t f t) ≡ k * count_t t
    length-flatT (node a ks) = simp (length-append, each (suc (count_f ks)) a, length-flatF ks, mul-suc) (omega arith)

    pub length-flatF : (ts : Forest A) → length (flat_f f ts) ≡ k * count_f ts
    length-flatF none = sym (mul-zero k)
    length-flatF (more t ts) = simp (length-append, length-flatT t, length-flatF ts, mul-add)

mutual
  unfolding map_t count_t

  pub count_map_t : {A B : Type 0} (f : A → B) (t : Tree A) → count_t (map_t f t) ≡ count_t t
  count_map_t f (node a ks) = ap suc (count_map_f f ks)

  pub count_map_f : {A B : Type 0} (f : A → B) (ts : Forest A) → count_f (map_f f ts) ≡ count_f ts
  count_map_f f none = refl
  count_map_f f (more t ts) = rw (count_map_t f t, count_map_f f ts)

mutual
  unfolding map_t flat_t

  pub flat_map_t : {A B C : Type 0} (g : ℕ → B → List C) (f : A → B) (t : Tree A) → flat_t g (map_t f t) ≡ flat_t (λ n (a : A). g n (f a)) t
  flat_map_t g f (node a ks) = rw (count_map_f f ks, flat_map_f g f ks)

  pub flat_map_f : {A B C : Type 0} (g : ℕ → B → List C) (f : A → B) (ts : Forest A) → flat_f g (map_f f ts) ≡ flat_f (λ n (a : A). g n (f a)) ts
  flat_map_f g f none = refl
  flat_map_f g f (more t ts) = rw (flat_map_t g f t, flat_map_f g f ts)

mutual
  unfolding map_t

  pub map_map_t : {A B C : Type 0} (f : B → C) (g : A → B) (t : Tree A) → map_t f (map_t g t) ≡ map_t (λ (a : A). f (g a)) t
  map_map_t f g (node a ks) = ap (node (f (g a))) (map_map_f f g ks)

  pub map_map_f : {A B C : Type 0} (f : B → C) (g : A → B) (ts : Forest A) → map_f f (map_f g ts) ≡ map_f (λ (a : A). f (g a)) ts
  map_map_f f g none = refl
  map_map_f f g (more t ts) = rw (map_map_t f g t, map_map_f f g ts)

mutual
  unfolding map_t depth_t

  pub depth_map_t : {A B : Type 0} (f : A → B) (t : Tree A) → depth_t (map_t f t) ≡ depth_t t
  depth_map_t f (node a ks) = ap suc (depth_map_f f ks)

  pub depth_map_f : {A B : Type 0} (f : A → B) (ts : Forest A) → depth_f (map_f f ts) ≡ depth_f ts
  depth_map_f f none = refl
  depth_map_f f (more t ts) = rw (depth_map_t f t, depth_map_f f ts)

mutual
  unfolding map_t

  pub map_id_t : {A : Type 0} (t : Tree A) → map_t (λ (a : A). a) t ≡ t
  map_id_t (node a ks) = ap (node a) (map_id_f ks)

  pub map_id_f : {A : Type 0} (ts : Forest A) → map_f (λ (a : A). a) ts ≡ ts
  map_id_f none = refl
  map_id_f (more t ts) = rw (map_id_t t, map_id_f ts)

-- every node adds the same k entries
module _ {A B : Type 0} (l : List B) (z : B) (k : ℕ) (each : l ≡ replicate k z) where
  mutual
    pub flat-constT : (t : Tree A) → flat_t (λ _ (_ : A). l) t ≡ replicate (k * count_t t) z
    flat-constT (node a ks) = flat_t_node (λ _ (_ : A). l) a ks ∙ rw (flat-constF ks, each, replicate-append-replicate, count_t_node, mul-suc) (ap (λ (n : ℕ). replicate n z) (add_comm k (k * count_f ks)))

    pub flat-constF : (ts : Forest A) → flat_f (λ _ (_ : A). l) ts ≡ replicate (k * count_f ts) z
    flat-constF none = flat_f_none (λ _ (_ : A). l) ∙ rw (count_f_none A) (ap (λ (n : ℕ). replicate n z) (sym (mul-zero k)))
    flat-constF (more t ts) = flat_f_more (λ _ (_ : A). l) t ts ∙ rw (flat-constT t, flat-constF ts, replicate-append-replicate, count_f_more, mul-add)

pub join_f_none : {A : Type 0} (us : Forest A) → join_f none us ≡ us
unfolding join_f
join_f_none us = refl

pub join_f_more : {A : Type 0} (t : Tree A) (ts us : Forest A) → join_f (more t ts) us ≡ more t (join_f ts us)
unfolding join_f
join_f_more t ts us = refl

pub flat_join : {A B : Type 0} (f : ℕ → A → List B) (ts us : Forest A) → flat_f f (join_f ts us) ≡ flat_f f ts ++ flat_f f us
flat_join f none us = rw (join_f_none, flat_f_none)
flat_join f (more t ts) us = rw (join_f_more, flat_f_more, flat_f_more, flat_join f ts us) (sym (append_assoc (flat_t f t) (flat_f f ts) (flat_f f us)))

pub count_join : {A : Type 0} (ts us : Forest A) → count_f (join_f ts us) ≡ count_f ts + count_f us
count_join none us = rw (join_f_none, count_f_none) (omega arith)
count_join (more t ts) us = rw (join_f_more, count_f_more, count_f_more, count_join ts us) (sym (add_assoc (count_t t) (count_f ts) (count_f us)))
