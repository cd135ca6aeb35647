-- A page's shape: a tree with a label at each node, and the lists that it is flattened to, in preorder.
use Rattle.std.specs.Prelude.{List, [], ◌∷◌, ◌++◌, ℕ, zero, suc, ◌+◌, max}

mutual
  pub data Tree (A : Type 0) : Type 0 where
    node : A → Forest A → Tree A

  pub data Forest (A : Type 0) : Type 0 where
    none : Forest A
    more : Tree A → Forest A → Forest A

-- how many nodes
unfoldable mutual
  pub count_t : {A : Type 0} → Tree A → ℕ
  count_t (node a ks) = suc (count_f ks)

  pub count_f : {A : Type 0} → Forest A → ℕ
  count_f none = 0
  count_f (more t ts) = count_t t + count_f ts

-- how many levels
unfoldable mutual
  pub depth_t : {A : Type 0} → Tree A → ℕ
  depth_t (node a ks) = suc (depth_f ks)

  pub depth_f : {A : Type 0} → Forest A → ℕ
  depth_f none = 0
  depth_f (more t ts) = max (depth_t t) (depth_f ts)

-- what each node adds to a table, given the size of its subtree and its label
unfoldable mutual
  pub flat_t : {A B : Type 0} → (ℕ → A → List B) → Tree A → List B
  flat_t f (node a ks) = f (suc (count_f ks)) a ++ flat_f f ks

  pub flat_f : {A B : Type 0} → (ℕ → A → List B) → Forest A → List B
  flat_f f none = []
  flat_f f (more t ts) = flat_t f t ++ flat_f f ts

-- each label changed
unfoldable mutual
  pub map_t : {A B : Type 0} → (A → B) → Tree A → Tree B
  map_t f (node a ks) = node (f a) (map_f f ks)

  pub map_f : {A B : Type 0} → (A → B) → Forest A → Forest B
  map_f f none = none
  map_f f (more t ts) = more (map_t f t) (map_f f ts)

-- the root's label, and that label changed
unfoldable pub root_t : {A : Type 0} → Tree A → A
root_t (node a ks) = a

unfoldable pub on_root : {A : Type 0} → (A → A) → Tree A → Tree A
on_root f (node a ks) = node (f a) ks

-- two forests side by side
unfoldable pub join_f : {A : Type 0} → Forest A → Forest A → Forest A
join_f none us = us
join_f (more t ts) us = more t (join_f ts us)
