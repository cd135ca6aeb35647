-- The edge that is found by going outward is the tree's, for every table that passes 1 and 2.
--     edge_is      at each node
--     edges-map    labels changed before or after
use mathlib.Core.Path.{◌≡◌, refl, sym, ap, ◌∙◌}
use mathlib.Core.Bool.{Bool, true, false}
use mathlib.Core.List.{List, [], ◌∷◌, ◌++◌, map}
use Prim.Native.Nat.{ℕ, zero, suc, ◌+◌, ◌-◌, ◌<◌, ◌≤◌}
use native.Mathlib.Omega.{arith}
use lib.ListN.{length, get_or, length-append, length-map, get_or-append, get_or-map}
use lib.Seq.{get_or-append-add}
use lib.Dec.{ltb}
use lib.Ieee.{Float, add, binary32}
use borrow.Author.Tests.{ltb-true, ltb-false, lt-ltb, le-ltb}
use Rattle.geometry.specs.Geometry.{zero_f}
use Rattle.style.specs.Style.{word_at}
use Rattle.lent.proofs.Reading.{get_d_any}
use Rattle.tree.specs.Tree.{Tree, Forest, node, none, more, count_t, count_f, flat_t, flat_f}
use Rattle.tree.specs.Table.{Entry, entry_of, from, parse_t}
use Rattle.tree.proofs.Laws.{count_t_node, count_f_none, count_f_more, flat_t_node, flat_f_more}
use Rattle.tree.proofs.Lists.{from_suc, from-add, from-shift, length_from, cons-first, cons-rest, heads, tails}
use Rattle.tree.proofs.Parse.{entries_t}
use Rattle.steps.specs.Page.{nodes_in}
use Rattle.steps.specs.Noes.{holds}
use Rattle.tables.specs.Leaves.{leaf_word}
use Rattle.tables.specs.TreeCheck.{GoodTable}
use Rattle.tables.proofs.GoodPage.{good-parse}
use Rattle.edges.proofs.Outward.{done, outward_same, outward_add, outward_none, outward_one}
use Rattle.edges.specs.Edges.{row_number, edges_t, edges_f, numbered, shape_of, edge_at, outward, edge_by}

-- ---- the clauses
edges_t_node : {A : Type 0} (y : A → Float) (a : A) (ks : Forest A) → edges_t y (node a ks) ≡ y a ∷ map (λ e. add binary32 e (y a)) (edges_f y ks)
unfolding edges_t
edges_t_node y a ks = refl

edges_f_none : {A : Type 0} (y : A → Float) → edges_f y none ≡ []
unfolding edges_f
edges_f_none y = refl

edges_f_more : {A : Type 0} (y : A → Float) (t : Tree A) (ts : Forest A) → edges_f y (more t ts) ≡ edges_t y t ++ edges_f y ts
unfolding edges_f
edges_f_more y t ts = refl

mutual
  pub length_edges_t : {A : Type 0} (y : A → Float) (t : Tree A) → length (edges_t y t) ≡ count_t t
  length_edges_t y (node a ks) = rw (edges_t_node, count_t_node) (ap suc (length-map (edges_f y ks) (λ e. add binary32 e (y a)) ∙ length_edges_f y ks))

  pub length_edges_f : {A : Type 0} (y : A → Float) (ts : Forest A) → length (edges_f y ts) ≡ count_f ts
  length_edges_f {A} y none = rw (edges_f_none, count_f_none A)
  length_edges_f y (more t ts) = rw (edges_f_more, count_f_more, length-append, length_edges_t y t, length_edges_f y ts)

get_d_map_in : (g : Float → Float) (l : List Float) (k : ℕ) → k < length l → get_or (map g l) k zero_f ≡ g (get_or l k zero_f)
get_d_map_in g l k h = let n = length-map l g in get_d_any (map g l) k zero_f (g zero_f) (omega arith) ∙ get_or-map g l k zero_f

-- a stretch of m more in front does not change which run holds which place
shifted : (m k j s : ℕ) → ltb (m + k) (m + j + s) ≡ ltb k (j + s)
shifted m k j s = go (ltb k (j + s)) refl
  where
    go : (b : Bool) → ltb k (j + s) ≡ b → ltb (m + k) (m + j + s) ≡ b
    go true e = let h = ltb-true k (j + s) e in lt-ltb (m + k) (m + j + s) (omega arith)
    go false e = let h = ltb-false k (j + s) e in le-ltb (m + k) (m + j + s) (omega arith)

-- ---- a run of entries that are a tree's, or a forest's
module _ {A : Type 0} where
  -- the entries from m on
  abbrev past : ℕ → (ℕ → Entry A) → ℕ → Entry A
  past m f j = f (m + j)

  past-from : (f : ℕ → Entry A) (m n : ℕ) → from f m n ≡ from (past m f) 0 n
  past-from f m n = let q : m + 0 ≡ m = omega arith in ap (λ (i : ℕ). from f i n) (sym q) ∙ sym (from-shift (past m f) f m 0 n (λ k l. refl))

  -- of a node: its own entry, and those of its forest
  root-entry : (f : ℕ → Entry A) (a : A) (ks : Forest A) → from f 0 (count_t (node a ks)) ≡ flat_t entry_of (node a ks) → f 0 ≡ record { size = suc (count_f ks); label = a }
  root-entry f a ks e = cons-first (f 0) _ (from f 1 (count_f ks)) (flat_f entry_of ks) (sym (from_suc f 0 (count_f ks)) ∙ ap (from f 0) (sym (count_t_node a ks)) ∙ e ∙ flat_t_node entry_of a ks)

  kids-entries : (f : ℕ → Entry A) (a : A) (ks : Forest A) → from f 0 (count_t (node a ks)) ≡ flat_t entry_of (node a ks) → from (past 1 f) 0 (count_f ks) ≡ flat_f entry_of ks
  kids-entries f a ks e = sym (past-from f 1 (count_f ks)) ∙ cons-rest (f 0) _ (from f 1 (count_f ks)) (flat_f entry_of ks) (sym (from_suc f 0 (count_f ks)) ∙ ap (from f 0) (sym (count_t_node a ks)) ∙ e ∙ flat_t_node entry_of a ks)

  -- of a forest: those of the first tree, and of the others
  split-entries : (f : ℕ → Entry A) (t : Tree A) (ts : Forest A) → from f 0 (count_f (more t ts)) ≡ flat_f entry_of (more t ts) → from f 0 (count_t t) ++ from f (count_t t) (count_f ts) ≡ flat_t entry_of t ++ flat_f entry_of ts
  split-entries f t ts e =
      let q : count_t t ≡ 0 + count_t t = omega arith in
      ap (λ (n : ℕ). from f 0 (count_t t) ++ from f n (count_f ts)) q ∙ sym (from-add f 0 (count_t t) (count_f ts)) ∙ ap (from f 0) (sym (count_f_more t ts)) ∙ e ∙ flat_f_more entry_of t ts

  first-entries : (f : ℕ → Entry A) (t : Tree A) (ts : Forest A) → from f 0 (count_f (more t ts)) ≡ flat_f entry_of (more t ts) → from f 0 (count_t t) ≡ flat_t entry_of t
  first-entries f t ts e = heads (from f 0 (count_t t)) (flat_t entry_of t) (from f (count_t t) (count_f ts)) (flat_f entry_of ts) (length_from f 0 (count_t t) ∙ sym (entries_t t)) (split-entries f t ts e)

  other_entries : (f : ℕ → Entry A) (t : Tree A) (ts : Forest A) → from f 0 (count_f (more t ts)) ≡ flat_f entry_of (more t ts) → from (past (count_t t) f) 0 (count_f ts) ≡ flat_f entry_of ts
  other_entries f t ts e = sym (past-from f (count_t t) (count_f ts)) ∙ tails (from f 0 (count_t t)) (flat_t entry_of t) (from f (count_t t) (count_f ts)) (flat_f entry_of ts) (length_from f 0 (count_t t) ∙ sym (entries_t t)) (split-entries f t ts e)

  -- each run ends within
  within : (t : Tree A) (ts : Forest A) (f : ℕ → Entry A) (j : ℕ) → j < count_f (more t ts) → ((i : ℕ) → i < count_t t → i + (f i).size ≤ count_t t) → ((i : ℕ) → i < count_f ts → i + (past (count_t t) f i).size ≤ count_f ts)
      → (b : Bool) → ltb j (count_t t) ≡ b → j + (f j).size ≤ count_f (more t ts)
  within t ts f j l x y true q = let c = count_f_more t ts in let h = x j (ltb-true j (count_t t) q) in omega arith
  within t ts f j l x y false q =
      let c = count_f_more t ts in
      let g = ltb-false j (count_t t) q in
      let h = y (j - count_t t) (omega arith) in
      let z : count_t t + (j - count_t t) ≡ j = omega arith in
      let w = ap (λ (n : ℕ). (f n).size) z in
      omega arith

  mutual
    inside-T : (t : Tree A) (f : ℕ → Entry A) → from f 0 (count_t t) ≡ flat_t entry_of t → (j : ℕ) → j < count_t t → j + (f j).size ≤ count_t t
    inside-T (node a ks) f e zero l = let q = ap (λ (x : Entry A). x.size) (root-entry f a ks e) in omega (arith, count_t_node a ks)
    inside-T (node a ks) f e (suc j) l =
        let c = count_t_node a ks in
        let h = inside-F ks (past 1 f) (kids-entries f a ks e) j (omega arith) in
        let q : 1 + j ≡ suc j = omega arith in
        let z = ap (λ (n : ℕ). (f n).size) q in
        omega arith

    inside-F : (ts : Forest A) (f : ℕ → Entry A) → from f 0 (count_f ts) ≡ flat_f entry_of ts → (j : ℕ) → j < count_f ts → j + (f j).size ≤ count_f ts
    inside-F none f e j l = absurd (omega (arith, count_f_none A))
    inside-F (more t ts) f e j l = within t ts f j l (λ i h. inside-T t f (first-entries f t ts e) i h) (λ i h. inside-F ts (past (count_t t) f) (other_entries f t ts e) i h) (ltb j (count_t t)) refl

  module _ (place : A → Float) where
    -- the edge of the k-th entry of a run, by going outward in the run
    abbrev local : (ℕ → Entry A) → ℕ → Float
    local f k = outward (λ (j : ℕ). ltb k (j + (f j).size)) (λ (j : ℕ). place (f j).label) k (place (f k).label)

    -- m entries further on, if those before hold nothing of it
    local-past : (f : ℕ → Entry A) (m k : ℕ) → outward (λ (j : ℕ). ltb (m + k) (m + j + (f (m + j)).size)) (λ (j : ℕ). place (f (m + j)).label) k (place (f (m + k)).label) ≡ local (past m f) k
    local-past f m k = outward_same _ _ _ _ k (place (f (m + k)).label) (λ j l. shifted m k j (f (m + j)).size) (λ j l. refl)

    local-below : (f : ℕ → Entry A) (m k : ℕ) → local f (m + k) ≡ outward (λ (j : ℕ). ltb (m + k) (j + (f j).size)) (λ (j : ℕ). place (f j).label) m (local (past m f) k)
    local-below f m k = outward_add (λ (j : ℕ). ltb (m + k) (j + (f j).size)) (λ (j : ℕ). place (f j).label) m k (place (f (m + k)).label) ∙ ap (outward (λ (j : ℕ). ltb (m + k) (j + (f j).size)) (λ (j : ℕ). place (f j).label) m) (local-past f m k)

    local-other : (f : ℕ → Entry A) (m k : ℕ) → ((j : ℕ) → j < m → j + (f j).size ≤ m) → local f (m + k) ≡ local (past m f) k
    local-other f m k h = local-below f m k ∙ outward_none (λ (j : ℕ). ltb (m + k) (j + (f j).size)) (λ (j : ℕ). place (f j).label) m (local (past m f) k) (λ j l. le-ltb (m + k) (j + (f j).size) (let g = h j l in omega arith))

    local-kid : (f : ℕ → Entry A) (a : A) (c k : ℕ) → f 0 ≡ record { size = suc c; label = a } → k < c → local f (suc k) ≡ add binary32 (local (past 1 f) k) (place a)
    local-kid f a c k e l =
        let q : suc k ≡ 1 + k = omega arith in
        let z = ap (λ (x : Entry A). x.size) e in
        ap (local f) q ∙ local-below f 1 k ∙ outward_one (λ (j : ℕ). ltb (1 + k) (j + (f j).size)) (λ (j : ℕ). place (f j).label) (local (past 1 f) k) (lt-ltb (1 + k) (0 + (f 0).size) (omega arith)) ∙ ap (λ (x : Entry A). add binary32 (local (past 1 f) k) (place x.label)) e

    -- one tree more in front
    in-more : (t : Tree A) (ts : Forest A) (f : ℕ → Entry A) (k : ℕ) → k < count_f (more t ts) → ((j : ℕ) → j < count_t t → j + (f j).size ≤ count_t t)
        → ((i : ℕ) → i < count_t t → get_or (edges_t place t) i zero_f ≡ local f i) → ((i : ℕ) → i < count_f ts → get_or (edges_f place ts) i zero_f ≡ local (past (count_t t) f) i)
        → (b : Bool) → ltb k (count_t t) ≡ b → get_or (edges_f place (more t ts)) k zero_f ≡ local f k
    in-more t ts f k l ends x y true q =
        let h = ltb-true k (count_t t) q in
        let n = length_edges_t place t in
        rw (edges_f_more) (get_or-append (edges_t place t) (edges_f place ts) zero_f k (omega arith) ∙ x k h)
    in-more t ts f k l ends x y false q =
        let h = ltb-false k (count_t t) q in
        let c = count_f_more t ts in
        let n = length_edges_t place t in
        let z : k ≡ count_t t + (k - count_t t) = omega arith in
        let w : k ≡ length (edges_t place t) + (k - count_t t) = omega arith in
        rw (edges_f_more) (ap (λ (i : ℕ). get_or (edges_t place t ++ edges_f place ts) i zero_f) w ∙ get_or-append-add (edges_t place t) (edges_f place ts) (k - count_t t) zero_f ∙ y (k - count_t t) (omega arith) ∙ sym (local-other f (count_t t) (k - count_t t) ends) ∙ ap (local f) (sym z))

    mutual
      local-T : (t : Tree A) (f : ℕ → Entry A) → from f 0 (count_t t) ≡ flat_t entry_of t → (k : ℕ) → k < count_t t → get_or (edges_t place t) k zero_f ≡ local f k
      local-T (node a ks) f e zero l =
          let q = ap (λ (x : Entry A). place x.label) (root-entry f a ks e) in
          rw (edges_t_node) (sym (done _ _ _ ∙ q))
      local-T (node a ks) f e (suc k) l =
          let c = count_t_node a ks in
          let n = length_edges_f place ks in
          rw (edges_t_node) (get_d_map_in (λ x. add binary32 x (place a)) (edges_f place ks) k (omega arith) ∙ ap (λ (x : Float). add binary32 x (place a)) (local-F ks (past 1 f) (kids-entries f a ks e) k (omega arith)) ∙ sym (local-kid f a (count_f ks) k (root-entry f a ks e) (omega arith)))

      local-F : (ts : Forest A) (f : ℕ → Entry A) → from f 0 (count_f ts) ≡ flat_f entry_of ts → (k : ℕ) → k < count_f ts → get_or (edges_f place ts) k zero_f ≡ local f k
      local-F none f e k l = absurd (omega (arith, count_f_none A))
      local-F (more t ts) f e k l =
          in-more t ts f k l (inside-T t f (first-entries f t ts e)) (λ i h. local-T t f (first-entries f t ts e) i h) (λ i h. local-F ts (past (count_t t) f) (other_entries f t ts e) i h) (ltb k (count_t t)) refl

-- ---- the page
local_holds : (ws : List ℕ) (i j : ℕ) → ltb i (j + (numbered ws j).size) ≡ holds ws i j
unfolding holds
local_holds ws i j = refl

-- for every table that passes 1 and 2
pub edge_is : (ws : List ℕ) (rs : List Float) (f i : ℕ) → GoodTable ws → i < nodes_in ws → edge_by ws rs f i ≡ edge_at ws rs f i
unfolding edge_by edge_at shape_of
edge_is ws rs f i good l =
    let p = good-parse ws (numbered ws) (λ j. refl) (λ j. leaf_word (word_at ws j 1)) (λ j. refl) good.some good.sound in
    let c = p.count in
    let e : from (numbered ws) 0 (count_t (parse_t (numbered ws) (nodes_in ws))) ≡ flat_t entry_of (parse_t (numbered ws) (nodes_in ws)) = rw c p.entries in
    sym (local-T (λ (j : ℕ). row_number rs j f) (parse_t (numbered ws) (nodes_in ws)) (numbered ws) e i (omega arith) ∙ outward_same _ _ _ _ i (row_number rs i f) (λ j h. local_holds ws i j) (λ j h. refl))
