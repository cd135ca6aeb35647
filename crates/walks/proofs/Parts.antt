-- Parts of tables: a subtree's run of words, rows and marks is that subtree's table.
--     sites_part            the nodes of a part of the words are the page's, from its first node on
--     Left, Child           what a loop over siblings has left, and its next child; what comes back from a call goes in between
--     Root, down            a tree's own node, and the tables of its children
use mathlib.Core.Path.{◌≡◌, refl, sym, ap, ◌∙◌}
use mathlib.Core.List.{List, [], ◌++◌, append_assoc}
use Prim.Native.Nat.{ℕ, suc, ◌+◌, ◌*◌, ◌-◌, ◌<◌, ◌≤◌}
use native.Mathlib.Omega.{arith}
use native.Mathlib.Nat.{add-zero, add_assoc}
use lib.ListN.{length, get_or, take, drop, length-append, length-take, length-drop}
use lib.Seq.{get_or-take, get_or-drop, take_at}
use lib.Ieee.{Float}
use borrow.Rule.Slice.PartMut.{put_mid, post_of}
use Rattle.style.specs.Style.{word_at, length_at, size_at, rect_at, measure_at, style_at}
use Rattle.tree.specs.Tree.{Tree, Forest, node, none, more, count_t, count_f, flat_t, flat_f}
use Rattle.tree.specs.Table.{Entry, from}
use Rattle.tree.proofs.Laws.{count_t_node, count_f_none, count_f_more, flat_t_node, flat_f_more, length-flatT, length-flatF}
use Rattle.tree.proofs.Lists.{part_in, post_in, tail-part, heads, tails, from_suc, from-add, from-shift, length_from, cons-first, cons-rest}
use Rattle.steps.specs.Page.{Site, Cell, site_at, named}
use Rattle.walks.specs.Tables.{site_entry, old_numbers, old_words, TabledT, TabledF}

-- a style is read off three words and the numbers
style_same : (ws us : List ℕ) (i j : ℕ) (xs : List Float) (m : ℕ) → word_at ws i 1 ≡ word_at us j 1 → word_at ws i 2 ≡ word_at us j 2 → word_at ws i 3 ≡ word_at us j 3 → style_at ws i xs m ≡ style_at us j xs m
unfolding style_at size_at rect_at length_at measure_at
style_same ws us i j xs m p q r = rw (p, q, r)

word_part : (ws : List ℕ) (a d m k c : ℕ) → d ≡ 4 * a → k * 4 + c < m → word_at (take m (drop d ws)) k c ≡ word_at ws (a + k) c
unfolding word_at
word_part ws a d m k c e h = get_or-take m (drop d ws) (k * 4 + c) 0 h ∙ get_or-drop d ws (k * 4 + c) 0 ∙ ap (λ (n : ℕ). get_or ws n 0) (omega arith)

site_part : (ws : List ℕ) (xs : List Float) (es : List ℕ) (b a d m k : ℕ) → d ≡ 4 * a → k * 4 + 3 < m → site_at (take m (drop d ws)) xs es (b + a) k ≡ site_at ws xs es b (a + k)
unfolding site_at
site_part ws xs es b a d m k e h =
    let p = word_part ws a d m k in
    let n : b + a + k ≡ b + (a + k) = add_assoc b a k in
    rw (p 0 e (omega arith), style_same (take m (drop d ws)) ws k (a + k) xs (b + a + k) (p 1 e (omega arith)) (p 2 e (omega arith)) (p 3 e h), n)

pub sites_part : (ws : List ℕ) (xs : List Float) (es : List ℕ) (b a d m n : ℕ) → d ≡ 4 * a → 4 * n ≤ m → from (site_at (take m (drop d ws)) xs es (b + a)) 0 n ≡ from (site_at ws xs es b) a n
sites_part ws xs es b a d m n e h =
    from-shift (site_at (take m (drop d ws)) xs es (b + a)) (site_at ws xs es b) a 0 n (λ k q. site_part ws xs es b a d m k e (omega arith))
    ∙ ap (λ (i : ℕ). from (site_at ws xs es b) i n) (add-zero a)

sites_long : (t : Tree Cell) → length (flat_t site_entry t) ≡ count_t t
sites_long t = length-flatT site_entry 1 (λ _ _. refl) t ∙ omega arith

-- what is known of a node from its site
pub record Root (ws : List ℕ) (xs : List Float) (es : List ℕ) (b a n : ℕ) (l : Cell) : Type 0 where
  pub size_is : word_at ws a 0 ≡ n
  pub style_is : style_at ws a xs (b + a) ≡ l.site.style
  pub node_is : b + a ≡ l.site.node
  pub edit_is : named es (b + a) ≡ l.site.edit

pub root_of_lem : (ws : List ℕ) (xs : List Float) (es : List ℕ) (b a n : ℕ) (l : Cell) → site_at ws xs es b a ≡ record { size = n; label = l.site } → Root ws xs es b a n l
unfolding site_at
root_of_lem ws xs es b a n l e =
    record {
      size_is = ap (λ (x : Entry Site). x.size) e;
      style_is = ap (λ (x : Entry Site). x.label.style) e;
      node_is = ap (λ (x : Entry Site). x.label.node) e;
      edit_is = ap (λ (x : Entry Site). x.label.edit) e;
    }

-- a run of sites that begins with a tree
pub record Parted (f : ℕ → Entry Site) (a : ℕ) (t : Tree Cell) (us : Forest Cell) : Type 0 where
  pub mine : from f a (count_t t) ≡ flat_t site_entry t
  pub rest : from f (a + count_t t) (count_f us) ≡ flat_f site_entry us

pub parted : (f : ℕ → Entry Site) (a : ℕ) (t : Tree Cell) (us : Forest Cell) → from f a (count_f (more t us)) ≡ flat_f site_entry (more t us) → Parted f a t us
parted f a t us e =
    let q : from f a (count_t t) ++ from f (a + count_t t) (count_f us) ≡ flat_t site_entry t ++ flat_f site_entry us =
    sym (from-add f a (count_t t) (count_f us)) ∙ ap (from f a) (sym (count_f_more t us)) ∙ e ∙ flat_f_more site_entry t us in
    let n : length (from f a (count_t t)) ≡ length (flat_t site_entry t) = length_from f a (count_t t) ∙ sym (sites_long t) in
    record { mine = heads (from f a (count_t t)) (flat_t site_entry t) (from f (a + count_t t) (count_f us)) (flat_f site_entry us) n q; rest = tails (from f a (count_t t)) (flat_t site_entry t) (from f (a + count_t t) (count_f us)) (flat_f site_entry us) n q }

pub first_site : (f : ℕ → Entry Site) (a : ℕ) (l : Cell) (ks : Forest Cell) → from f a (count_t (node l ks)) ≡ flat_t site_entry (node l ks) → f a ≡ record { size = suc (count_f ks); label = l.site }
first_site f a l ks e =
    cons-first (f a) _ (from f (suc a) (count_f ks)) (flat_f site_entry ks)
    (sym (from_suc f a (count_f ks)) ∙ ap (from f a) (sym (count_t_node l ks)) ∙ e ∙ flat_t_node site_entry l ks)

pub kids_sites : (f : ℕ → Entry Site) (a : ℕ) (l : Cell) (ks : Forest Cell) → from f a (count_t (node l ks)) ≡ flat_t site_entry (node l ks) → from f (suc a) (count_f ks) ≡ flat_f site_entry ks
kids_sites f a l ks e =
    cons-rest (f a) (record { size = suc (count_f ks); label = l.site }) (from f (suc a) (count_f ks)) (flat_f site_entry ks)
    (sym (from_suc f a (count_f ks)) ∙ ap (from f a) (sym (count_t_node l ks)) ∙ e ∙ flat_t_node site_entry l ks)

-- what a loop over siblings has left, from node a on; q and p are what it has done
pub record Left (ws : List ℕ) (xs rs : List Float) (ms es : List ℕ) (b a : ℕ) (left : Forest Cell) (q : List Float) (p : List ℕ) : Type 0 where
  pub words_long : length ws ≡ 4 * (a + count_f left)
  pub sites_left : from (site_at ws xs es b) a (count_f left) ≡ flat_f site_entry left
  pub rows_split : rs ≡ q ++ flat_f old_numbers left
  pub q_long : length q ≡ 16 * a
  pub marks_split : ms ≡ p ++ flat_f old_words left
  pub p_long : length p ≡ 2 * a

pub left_begin : (ws : List ℕ) (xs rs : List Float) (ms es : List ℕ) (b : ℕ) (ts : Forest Cell) → TabledF ws xs rs ms es b ts → Left ws xs rs ms es b 0 ts [] []
left_begin ws xs rs ms es b ts h =
    record { words_long = h.words_long ∙ omega arith; sites_left = h.sites_are; rows_split = h.rows_are; q_long = refl; marks_split = h.marks_are; p_long = refl }

-- nothing is left where the words end
pub left_none : (ws : List ℕ) (xs rs : List Float) (ms es : List ℕ) (b a : ℕ) (t : Tree Cell) (us : Forest Cell) (q : List Float) (p : List ℕ) → Left ws xs rs ms es b a (more t us) q p → length ws ≤ 4 * a → ⊥
left_none ws xs rs ms es b a (node l ks) us q p h le =
    let n : count_f (more (node l ks) us) ≡ suc (count_f ks) + count_f us = count_f_more (node l ks) us ∙ ap (λ (k : ℕ). k + count_f us) (count_t_node l ks) in
    omega (arith, h.words_long)

pub left_some : (ws : List ℕ) (xs rs : List Float) (ms es : List ℕ) (b a : ℕ) (q : List Float) (p : List ℕ) → Left ws xs rs ms es b a none q p → 4 * a < length ws → ⊥
left_some ws xs rs ms es b a q p h lt = omega (arith, h.words_long, count_f_none Cell)

-- the next child: its part of each table, and what is left once its rows have come back
pub record Child (ws : List ℕ) (xs rs : List Float) (ms es : List ℕ) (b a e : ℕ) (l : Cell) (ks us : Forest Cell) (q : List Float) (p : List ℕ) : Type 0 where
  pub root : Root ws xs es b a (suc (count_f ks)) l
  pub size_is : e ≡ a + count_t (node l ks)
  pub some : a < e
  pub words_in_lem : 4 * e ≤ length ws
  pub rows_long : length rs ≡ 4 * length ws
  pub marks_long : 2 * length ms ≡ length ws
  pub rows_mine : take (16 * e - 16 * a) (drop (16 * a) rs) ≡ flat_t old_numbers (node l ks)
  pub marks_mine : take (2 * e - 2 * a) (drop (2 * a) ms) ≡ flat_t old_words (node l ks)
  pub tabled : TabledT (take (4 * e - 4 * a) (drop (4 * a) ws)) xs (take (16 * e - 16 * a) (drop (16 * a) rs)) (take (2 * e - 2 * a) (drop (2 * a) ms)) es (b + a) (node l ks)
  pub next : (nr : List Float) (nm : List ℕ) → length nr ≡ 16 * count_t (node l ks) → length nm ≡ 2 * count_t (node l ks)
      → Left ws xs (put_mid (16 * a) (16 * e - 16 * a) rs nr) (put_mid (2 * a) (2 * e - 2 * a) ms nm) es b e us (q ++ nr) (p ++ nm)

pub child_of : (ws : List ℕ) (xs rs : List Float) (ms es : List ℕ) (b a e : ℕ) (l : Cell) (ks us : Forest Cell) (q : List Float) (p : List ℕ) → Left ws xs rs ms es b a (more (node l ks) us) q p → e ≡ a + word_at ws a 0
    → Child ws xs rs ms es b a e l ks us q p
child_of ws xs rs ms es b a e l ks us q p h ed =
    let t : Tree Cell = node l ks in
    let n : count_f (more t us) ≡ count_t t + count_f us = count_f_more t us in
    let one : count_t t ≡ suc (count_f ks) = count_t_node l ks in
    let s = parted (site_at ws xs es b) a t us h.sites_left in
    let r = root_of_lem ws xs es b a (suc (count_f ks)) l (first_site (site_at ws xs es b) a l ks s.mine) in
    let ee : e ≡ a + count_t t = ed ∙ ap (λ (k : ℕ). a + k) (r.size_is ∙ sym one) in
    let wl : length ws ≡ 4 * (a + (count_t t + count_f us)) = h.words_long ∙ ap (λ (k : ℕ). 4 * (a + k)) n in
    let er : rs ≡ q ++ (flat_t old_numbers t ++ flat_f old_numbers us) = h.rows_split ∙ ap (λ (z : List Float). q ++ z) (flat_f_more old_numbers t us) in
    let em : ms ≡ p ++ (flat_t old_words t ++ flat_f old_words us) = h.marks_split ∙ ap (λ (z : List ℕ). p ++ z) (flat_f_more old_words t us) in
    let lr : length (flat_t old_numbers t) ≡ 16 * count_t t = length-flatT old_numbers 16 (λ _ _. refl) t in
    let lm : length (flat_t old_words t) ≡ 2 * count_t t = length-flatT old_words 2 (λ _ _. refl) t in
    let ur : length (flat_f old_numbers us) ≡ 16 * count_f us = length-flatF old_numbers 16 (λ _ _. refl) us in
    let um : length (flat_f old_words us) ≡ 2 * count_f us = length-flatF old_words 2 (λ _ _. refl) us in
    let ql = h.q_long in
    let pl = h.p_long in
    let qe : length q + length (flat_t old_numbers t) ≡ 16 * e = omega arith in
    let pe : length p + length (flat_t old_words t) ≡ 2 * e = omega arith in
    let rm : take (16 * e - 16 * a) (drop (16 * a) rs) ≡ flat_t old_numbers t = ap (λ (z : List Float). take (16 * e - 16 * a) (drop (16 * a) z)) er ∙ part_in q (flat_t old_numbers t) (flat_f old_numbers us) (16 * a) (16 * e) ql qe in
    let mm : take (2 * e - 2 * a) (drop (2 * a) ms) ≡ flat_t old_words t = ap (λ (z : List ℕ). take (2 * e - 2 * a) (drop (2 * a) z)) em ∙ part_in p (flat_t old_words t) (flat_f old_words us) (2 * a) (2 * e) pl pe in
    let rlong : length rs ≡ 4 * length ws = ap length er ∙ simp (length-append, lr, ur) (omega arith) in
    let mlong : 2 * length ms ≡ length ws = ap (λ (z : List ℕ). 2 * length z) em ∙ simp (length-append, lm, um) (omega arith) in
    let pl4 : length (take (4 * e - 4 * a) (drop (4 * a) ws)) ≡ 4 * count_t t = simp (length-take, length-drop) (omega arith) in
    record {
      root = r;
      size_is = ee;
      some = omega arith;
      words_in_lem = omega arith;
      rows_long = rlong;
      marks_long = mlong;
      rows_mine = rm;
      marks_mine = mm;
      tabled = record {
        words_long = pl4;
        sites_are = sites_part ws xs es b a (4 * a) (4 * e - 4 * a) (count_t t) refl (omega arith) ∙ s.mine;
        rows_are = rm;
        marks_are = mm;
      };
      next = λ nr nm hr hm.
          let pre : take (16 * a) rs ≡ q = ap (take (16 * a)) er ∙ take_at q _ (16 * a) ql in
          let post : post_of (16 * a) (16 * e - 16 * a) rs ≡ flat_f old_numbers us = ap (post_of (16 * a) (16 * e - 16 * a)) er ∙ post_in q (flat_t old_numbers t) (flat_f old_numbers us) (16 * a) (16 * e) ql qe in
          let pre2 : take (2 * a) ms ≡ p = ap (take (2 * a)) em ∙ take_at p _ (2 * a) pl in
          let post2 : post_of (2 * a) (2 * e - 2 * a) ms ≡ flat_f old_words us = ap (post_of (2 * a) (2 * e - 2 * a)) em ∙ post_in p (flat_t old_words t) (flat_f old_words us) (2 * a) (2 * e) pl pe in
          record {
            words_long = wl ∙ omega arith;
            sites_left = ap (λ (i : ℕ). from (site_at ws xs es b) i (count_f us)) ee ∙ s.rest;
            rows_split = rw (pre, post) (sym (append_assoc q nr _));
            q_long = simp (length-append) (omega arith);
            marks_split = rw (pre2, post2) (sym (append_assoc p nm _));
            p_long = simp (length-append) (omega arith);
          };
    }

-- a tree's own node, the lengths of its tables, and its children's tables
pub record Tree-facts (ws : List ℕ) (xs rs : List Float) (ms es : List ℕ) (b : ℕ) (l : Cell) (ks : Forest Cell) : Type 0 where
  pub style_is : style_at ws 0 xs b ≡ l.site.style
  pub words_some : 4 ≤ length ws
  pub rows_some : 16 ≤ length rs
  pub marks_some : 2 ≤ length ms
  pub rows_long : length rs ≡ 4 * length ws
  pub marks_long : 2 * length ms ≡ length ws
  pub rows_head : rs ≡ old_numbers 0 l ++ flat_f old_numbers ks
  pub marks_head : ms ≡ old_words 0 l ++ flat_f old_words ks
  pub kids : TabledF (take (length ws - 4) (drop 4 ws)) xs (take (length rs - 16) (drop 16 rs)) (take (length ms - 2) (drop 2 ms)) es (b + 1) ks

pub tree_facts : (ws : List ℕ) (xs rs : List Float) (ms es : List ℕ) (b : ℕ) (l : Cell) (ks : Forest Cell) → TabledT ws xs rs ms es b (node l ks) → Tree-facts ws xs rs ms es b l ks
tree_facts ws xs rs ms es b l ks h =
    let one : count_t (node l ks) ≡ suc (count_f ks) = count_t_node l ks in
    let wl : length ws ≡ 4 * suc (count_f ks) = h.words_long ∙ ap (λ (k : ℕ). 4 * k) one in
    let er : rs ≡ old_numbers 0 l ++ flat_f old_numbers ks = h.rows_are ∙ flat_t_node old_numbers l ks in
    let em : ms ≡ old_words 0 l ++ flat_f old_words ks = h.marks_are ∙ flat_t_node old_words l ks in
    let rl : length rs ≡ 16 * suc (count_f ks) = ap length h.rows_are ∙ length-flatT old_numbers 16 (λ _ _. refl) (node l ks) ∙ ap (λ (k : ℕ). 16 * k) one in
    let ml : length ms ≡ 2 * suc (count_f ks) = ap length h.marks_are ∙ length-flatT old_words 2 (λ _ _. refl) (node l ks) ∙ ap (λ (k : ℕ). 2 * k) one in
    let r = root_of_lem ws xs es b 0 (suc (count_f ks)) l (first_site (site_at ws xs es b) 0 l ks h.sites_are) in
    record {
      style_is = ap (style_at ws 0 xs) (sym (add-zero b)) ∙ r.style_is;
      words_some = omega arith;
      rows_some = omega arith;
      marks_some = omega arith;
      rows_long = omega arith;
      marks_long = omega arith;
      rows_head = er;
      marks_head = em;
      kids = record {
        words_long = simp (length-take, length-drop) (omega arith);
        sites_are = sites_part ws xs es b 1 4 (length ws - 4) (count_f ks) refl (omega arith) ∙ kids_sites (site_at ws xs es b) 0 l ks h.sites_are;
        rows_are = tail-part 16 rs ∙ ap (drop 16) er;
        marks_are = tail-part 2 ms ∙ ap (drop 2) em;
      };
    }
