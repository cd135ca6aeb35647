-- Refusal 2 in the words of trees: the tree check passes exactly the tables of the trees of at most 32 levels whose leaves have no children.
use Rattle.std.specs.Prelude.{None}
use mathlib.Core.Path.{◌≡◌, refl, sym, ap, ◌∙◌}
use mathlib.Core.Bool.{Bool, true, false, ◌&&◌}
use mathlib.Core.List.{List, ◌∷◌, ◌++◌}
use Prim.Native.Nat.{ℕ, zero, suc, ◌+◌, ◌-◌, ◌<◌, ◌≤◌, max}
use native.Mathlib.Omega.{arith}
use lib.Dec.{ltb}
use lib.Ieee.{Float}
use lib.ListN.{length}
use borrow.Author.Tests.{le-ltb, ne_eqb, ltb-true, ltb-false}
use Rattle.limits.specs.Bools.{and_false}
use Rattle.tree.specs.Tree.{Tree, Forest, node, none, more, count_t, count_f, depth_t, depth_f, flat_t, flat_f}
use Rattle.tree.specs.Table.{Entry, entry_of, from, parse_t}
use Rattle.tree.proofs.Laws.{count_t_node, count_f_none, count_f_more, flat_t_node, flat_f_more, depth_t_node, depth_f_more}
use Rattle.tree.proofs.Lists.{from_suc, from-add, length_from, heads, tails, cons-first, cons-rest}
use Rattle.tree.proofs.Parse.{entries_t}
use Rattle.style.specs.Style.{word_at}
use Rattle.steps.specs.Scan.{lowest}
use Rattle.steps.specs.Page.{nodes_in, site_at}
use Rattle.steps.specs.Noes.{end_at, bad_tree}
use Rattle.tables.specs.Leaves.{LeavesT, LeavesF, leaf_word}
use Rattle.shape.specs.TreeCheck.{Front, node_fault}
use Rattle.scans.specs.Scans.{Clear}
use Rattle.tables.proofs.ScanLaws.{nowhere-lowest}
use Rattle.shape.proofs.Fronts.{fine, bad-is, inside, beyond, below_root}
use Rattle.shape.proofs.CheckRoot.{root-fine}
use Rattle.tables.proofs.GoodPage.{good-parse, leaf_site, site_size, site_leaf}
use Rattle.tables.proofs.Exactly.{Exactly}

leaf_at : {A : Type 0} (p : A → Bool) (a : A) (ks : Forest A) → LeavesT p (node a ks) → p a ≡ true → ks ≡ none
unfolding LeavesT
leaf_at p a ks h = h.0

leaves_below : {A : Type 0} (p : A → Bool) (a : A) (ks : Forest A) → LeavesT p (node a ks) → LeavesF p ks
unfolding LeavesT
leaves_below p a ks h = h.1

leaves_first : {A : Type 0} (p : A → Bool) (t : Tree A) (ts : Forest A) → LeavesF p (more t ts) → LeavesT p t
unfolding LeavesF
leaves_first p t ts h = h.0

leaves_rest : {A : Type 0} (p : A → Bool) (t : Tree A) (ts : Forest A) → LeavesF p (more t ts) → LeavesF p ts
unfolding LeavesF
leaves_rest p t ts h = h.1

-- this table is the table of such a tree
pub record TreeOf {A : Type 0} (p : A → Bool) (f : ℕ → Entry A) (n : ℕ) : Type 0 where
  pub tree : Tree A
  pub entries : from f 0 n ≡ flat_t entry_of tree
  pub shallow : depth_t tree ≤ 32
  pub leaves : LeavesT p tree

module _ {A : Type 0} (ws : List ℕ) (f : ℕ → Entry A) (sizes : (i : ℕ) → (f i).size ≡ word_at ws i 0) (p : A → Bool) (leafy : (i : ℕ) → p (f i).label ≡ leaf_word (word_at ws i 1)) where
  -- a node of such a table, and its run
  record Node (i c e d : ℕ) : Type 0 where
    size : word_at ws i 0 ≡ c
    ok : node_fault (word_at ws i 0) (word_at ws i 1) (e - i) d ≡ false
    run : Clear (bad_tree ws) (i + 1) (c - 1)

  module _ (i : ℕ) (l : A) (ks : Forest A) (entries : from f i (count_t (node l ks)) ≡ flat_t entry_of (node l ks)) (leaves : LeavesT p (node l ks)) where
    split : f i ∷ from f (suc i) (count_f ks) ≡ record { size = suc (count_f ks); label = l } ∷ flat_f entry_of ks
    split = sym (from_suc f i (count_f ks)) ∙ ap (from f i) (sym (count_t_node l ks)) ∙ entries ∙ flat_t_node entry_of l ks

    size-at : word_at ws i 0 ≡ suc (count_f ks)
    size-at = sym (sizes i) ∙ ap (λ (x : Entry A). x.size) (cons-first (f i) _ _ _ split)

    label_at : (f i).label ≡ l
    label_at = ap (λ (x : Entry A). x.label) (cons-first (f i) _ _ _ split)

    below : from f (suc i) (count_f ks) ≡ flat_f entry_of ks
    below = cons-rest (f i) _ _ _ split

    no-long-leaf : (leaf_word (word_at ws i 1) && ltb 1 (word_at ws i 0)) ≡ false
    no-long-leaf = go (p l) refl
      where
        go : (b : Bool) → p l ≡ b → (leaf_word (word_at ws i 1) && ltb 1 (word_at ws i 0)) ≡ false
        go true e =
            let k : ks ≡ none = leaf_at p l ks leaves e in
            let c : count_f ks ≡ 0 = ap count_f k ∙ count_f_none A in
            let s = size-at in
            ap (λ (b : Bool). leaf_word (word_at ws i 1) && b) (le-ltb 1 (word_at ws i 0) (omega arith)) ∙ and_false (leaf_word (word_at ws i 1))
        go false e = ap (λ (b : Bool). b && ltb 1 (word_at ws i 0)) (sym (leafy i) ∙ ap p label_at ∙ e)

    fine-at : (e d : ℕ) → i + count_t (node l ks) ≤ e → 0 < d → node_fault (word_at ws i 0) (word_at ws i 1) (e - i) d ≡ false
    unfolding node_fault
    fine-at e d fit deep =
        let s = size-at in
        let c = count_t_node l ks in
        let a : word_at ws i 0 ≡ 0 → ⊥ = λ q. omega arith in
        let b : word_at ws i 0 ≤ e - i = omega arith in
        let z : d ≡ 0 → ⊥ = λ q. omega arith in
        rw (ne_eqb _ _ a, le-ltb _ _ b, no-long-leaf, ne_eqb _ _ z)

  -- a node, its run, and what follows
  module _ (i d k m c : ℕ) (sum : c ≡ k + m) (fr : Front ws i (i + c) d) (n : Node i k (i + c) d) where
    some : 0 < k
    some = let g = fine _ _ _ _ n.ok in let s = n.size in omega arith

    after : Front ws (i + k) (i + k + m) d
    after =
        let s = n.size in
        let h = some in
        let z : i + k ≡ end_at ws i = omega arith in
        let y : i + k + m ≡ i + c = omega arith in
        rw (y, z) (beyond ws i (i + c) d fr (omega arith) n.ok (λ j a b. n.run j a (omega arith)))

    forest-rest : Clear (bad_tree ws) (i + k) m → Clear (bad_tree ws) i c
    forest-rest next j a b = go (ltb i j) refl (ltb j (i + k)) refl
      where
        go : (u : Bool) → ltb i j ≡ u → (v : Bool) → ltb j (i + k) ≡ v → bad_tree ws j ≡ false
        go false e v g =
            let h : j ≤ i = ltb-false i j e in
            let q : j ≡ i = omega arith in
            rw q (bad-is ws i (i + c) d fr (let z = some in omega arith) ∙ n.ok)
        go true e true g =
            let h : i < j = ltb-true i j e in
            let l : j < i + k = ltb-true j (i + k) g in
            n.run j (omega arith) (omega arith)
        go true e false g =
            let l : i + k ≤ j = ltb-false j (i + k) g in
            next j l (omega arith)

  mutual
    tree-clear : (t : Tree A) (i e d : ℕ) → Front ws i e d → i + count_t t ≤ e → from f i (count_t t) ≡ flat_t entry_of t → depth_t t ≤ d → LeavesT p t → Node i (count_t t) e d
    tree-clear (node l ks) i e d fr fit en deep lv =
        let c = count_t_node l ks in
        let g = depth_t_node l ks in
        let s : word_at ws i 0 ≡ suc (count_f ks) = size-at i l ks en lv in
        let ok = fine-at i l ks en lv e d fit (omega arith) in
        let q : suc i ≡ i + 1 = omega arith in
        let z : suc i + count_f ks ≡ end_at ws i = omega arith in
        let fr2 : Front ws (suc i) (suc i + count_f ks) (d - 1) = rw (z, q) (inside ws i e d fr (omega arith) ok) in
        let r : Clear (bad_tree ws) (suc i) (count_f ks) = forest-clear ks (suc i) (d - 1) fr2 (below i l ks en lv) (omega arith) (leaves_below p l ks lv) in
        record { size = s ∙ sym c; ok = ok; run = λ j a b. r j (omega arith) (omega arith) }

    forest-clear : (ts : Forest A) (i d : ℕ) → Front ws i (i + count_f ts) d → from f i (count_f ts) ≡ flat_f entry_of ts → depth_f ts ≤ d → LeavesF p ts → Clear (bad_tree ws) i (count_f ts)
    forest-clear none i d fr en deep lv = λ j a b. let c = count_f_none A in absurd (omega arith)
    forest-clear (more t us) i d fr en deep lv =
        let c : count_f (more t us) ≡ count_t t + count_f us = count_f_more t us in
        let g : depth_f (more t us) ≡ max (depth_t t) (depth_f us) = depth_f_more t us in
        let en2 : from f i (count_t t) ++ from f (i + count_t t) (count_f us) ≡ flat_t entry_of t ++ flat_f entry_of us = sym (from-add f i (count_t t) (count_f us)) ∙ ap (from f i) (sym c) ∙ en ∙ flat_f_more entry_of t us in
        let len : length (from f i (count_t t)) ≡ length (flat_t entry_of t) = length_from f i (count_t t) ∙ sym (entries_t t) in
        let n = tree-clear t i (i + count_f (more t us)) d fr (omega arith) (heads (from f i (count_t t)) (flat_t entry_of t) (from f (i + count_t t) (count_f us)) (flat_f entry_of us) len en2) (omega arith) (leaves_first p t us lv) in
        forest-rest i d (count_t t) (count_f us) (count_f (more t us)) c fr n (forest-clear us (i + count_t t) d (after i d (count_t t) (count_f us) (count_f (more t us)) c fr n) (tails (from f i (count_t t)) (flat_t entry_of t) (from f (i + count_t t) (count_f us)) (flat_f entry_of us) len en2) (omega arith) (leaves_rest p t us lv))

  root-passes : (t : Tree A) → from f 0 (nodes_in ws) ≡ flat_t entry_of t → depth_t t ≤ 32 → LeavesT p t → (j : ℕ) → j < nodes_in ws → bad_tree ws j ≡ false
  root-passes (node l ks) en deep lv j lt =
      let n : nodes_in ws ≡ count_t (node l ks) = sym (length_from f 0 (nodes_in ws)) ∙ ap length en ∙ entries_t (node l ks) in
      let c = count_t_node l ks in
      let g = depth_t_node l ks in
      let en2 : from f 0 (count_t (node l ks)) ≡ flat_t entry_of (node l ks) = ap (from f 0) (sym n) ∙ en in
      let s : word_at ws 0 0 ≡ suc (count_f ks) = size-at 0 l ks en2 lv in
      let whole : word_at ws 0 0 ≡ nodes_in ws = s ∙ sym c ∙ sym n in
      let z : 1 + count_f ks ≡ nodes_in ws = omega arith in
      let fr : Front ws 1 (1 + count_f ks) 31 = rw z (below_root ws (nodes_in ws) whole (omega arith)) in
      let r : Clear (bad_tree ws) 1 (count_f ks) = forest-clear ks 1 31 fr (below 0 l ks en2 lv) (omega arith) (leaves_below p l ks lv) in
      let root : bad_tree ws 0 ≡ false = root-fine ws (λ q. omega arith) whole (no-long-leaf 0 l ks en2 lv) in
      by_place j root (λ h. r j h (omega arith))
    where
      by_place : (j : ℕ) → bad_tree ws 0 ≡ false → (0 < j → bad_tree ws j ≡ false) → bad_tree ws j ≡ false
      by_place zero r h = r
      by_place (suc j) r h = h (omega arith)

  pub tree-passes : TreeOf p f (nodes_in ws) → lowest (bad_tree ws) (nodes_in ws) ≡ None
  tree-passes t = nowhere-lowest (bad_tree ws) (nodes_in ws) (root-passes t.tree t.entries t.shallow t.leaves)

  pub passes-exactly : 0 < nodes_in ws → Exactly (lowest (bad_tree ws) (nodes_in ws) ≡ None) (TreeOf p f (nodes_in ws))
  passes-exactly some =
      record {
        only = λ e. let g = good-parse ws f sizes p leafy some e in record { tree = parse_t f (nodes_in ws); entries = g.entries; shallow = g.shallow; leaves = g.leaves };
        given = tree-passes;
      }

-- of the page's own words
pub page_exactly : (ws : List ℕ) (xs : List Float) (es : List ℕ) → 0 < nodes_in ws
    → Exactly (lowest (bad_tree ws) (nodes_in ws) ≡ None) (TreeOf leaf_site (site_at ws xs es 0) (nodes_in ws))
page_exactly ws xs es some = passes-exactly ws (site_at ws xs es 0) (site_size ws xs es) leaf_site (site_leaf ws xs es) some
