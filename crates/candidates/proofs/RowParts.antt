-- Parts of tables of rows: a subtree's run is that subtree's table; what a loop over siblings has left.
use mathlib.Core.Path.{◌≡◌, refl, sym, ap, ◌∙◌}
use mathlib.Core.List.{List, [], ◌∷◌, ◌++◌, append_assoc}
use Prim.Native.Nat.{ℕ, zero, suc, ◌+◌, ◌*◌, ◌-◌, ◌<◌, ◌≤◌}
use native.Mathlib.Omega.{arith}
use native.Mathlib.Nat.{add-zero}
use lib.ListN.{length, get_or, take, drop, length-append, length-take, length-drop}
use lib.Seq.{get_or-take, get_or-drop}
use lib.Ieee.{Float}
use Rattle.style.specs.Style.{word_at}
use Rattle.tree.specs.Tree.{Tree, Forest, node, none, more, count_t, count_f, flat_t, flat_f}
use Rattle.tree.specs.Table.{from}
use Rattle.tree.proofs.Laws.{count_t_node, count_f_none, count_f_more, flat_t_node, flat_f_none, flat_f_more, length-flatT, length-flatF}
use Rattle.tree.proofs.Lists.{part_in, tail-part, heads, tails, from_suc, from-add, from-shift, length_from}
use Rattle.steps.specs.Row.{Row, row_numbers, row_words}
use Rattle.walks.specs.Tables.{new_numbers, new_words, size_only, RowsOf}
use Rattle.candidates.specs.Gathered.{RowsOfT}

abbrev pub size_at : List ℕ → ℕ → ℕ
size_at ws k = word_at ws k 0

word_part : (ws : List ℕ) (a d m k : ℕ) → d ≡ 4 * a → k * 4 < m → word_at (take m (drop d ws)) k 0 ≡ word_at ws (a + k) 0
unfolding word_at
word_part ws a d m k e h = get_or-take m (drop d ws) (k * 4 + 0) 0 (omega arith) ∙ get_or-drop d ws (k * 4 + 0) 0 ∙ ap (λ (n : ℕ). get_or ws n 0) (omega arith)

pub sizes_part : (ws : List ℕ) (a d m n : ℕ) → d ≡ 4 * a → 4 * n ≤ m → from (size_at (take m (drop d ws))) 0 n ≡ from (size_at ws) a n
sizes_part ws a d m n e h =
    from-shift (size_at (take m (drop d ws))) (size_at ws) a 0 n (λ k q. word_part ws a d m k e (omega arith)) ∙ ap (λ (i : ℕ). from (size_at ws) i n) (add-zero a)

first : (x y : ℕ) (l m : List ℕ) → x ∷ l ≡ y ∷ m → x ≡ y
first x y l m e = cc

rest_of : (x y : ℕ) (l m : List ℕ) → x ∷ l ≡ y ∷ m → l ≡ m
rest_of x y l m e = cc

sizes_long : (t : Tree Row) → length (flat_t size_only t) ≡ count_t t
sizes_long t = length-flatT size_only 1 (λ _ _. refl) t ∙ omega arith

first_size : (f : ℕ → ℕ) (a : ℕ) (r : Row) (ks : Forest Row) → from f a (count_t (node r ks)) ≡ flat_t size_only (node r ks) → f a ≡ suc (count_f ks)
first_size f a r ks e = first (f a) (suc (count_f ks)) (from f (suc a) (count_f ks)) (flat_f size_only ks) (sym (from_suc f a (count_f ks)) ∙ ap (from f a) (sym (count_t_node r ks)) ∙ e ∙ flat_t_node size_only r ks)

kids_sizes : (f : ℕ → ℕ) (a : ℕ) (r : Row) (ks : Forest Row) → from f a (count_t (node r ks)) ≡ flat_t size_only (node r ks) → from f (suc a) (count_f ks) ≡ flat_f size_only ks
kids_sizes f a r ks e = rest_of (f a) (suc (count_f ks)) (from f (suc a) (count_f ks)) (flat_f size_only ks) (sym (from_suc f a (count_f ks)) ∙ ap (from f a) (sym (count_t_node r ks)) ∙ e ∙ flat_t_node size_only r ks)

pub record Left (ws : List ℕ) (rs : List Float) (ms : List ℕ) (a : ℕ) (left : Forest Row) : Type 0 where
  pub q : List Float
  pub p : List ℕ
  pub words_long : length ws ≡ 4 * (a + count_f left)
  pub sizes_left : from (size_at ws) a (count_f left) ≡ flat_f size_only left
  pub rows_split : rs ≡ q ++ flat_f new_numbers left
  pub q_long : length q ≡ 16 * a
  pub marks_split : ms ≡ p ++ flat_f new_words left
  pub p_long : length p ≡ 2 * a

pub left_begin : (ws : List ℕ) (rs : List Float) (ms : List ℕ) (ts : Forest Row) → RowsOf ws rs ms ts → Left ws rs ms 0 ts
left_begin ws rs ms ts h = record { q = []; p = []; words_long = h.words_long ∙ omega arith; sizes_left = h.sizes_are; rows_split = h.rows_are; q_long = refl; marks_split = h.marks_are; p_long = refl }

pub left_none : (ws : List ℕ) (rs : List Float) (ms : List ℕ) (a : ℕ) (t : Tree Row) (us : Forest Row) → Left ws rs ms a (more t us) → length ws ≤ 4 * a → ⊥
left_none ws rs ms a (node r ks) us h le = omega (arith, h.words_long, count_f_more (node r ks) us, count_t_node r ks)

pub left_some : (ws : List ℕ) (rs : List Float) (ms : List ℕ) (a : ℕ) → Left ws rs ms a none → 4 * a < length ws → ⊥
left_some ws rs ms a h lt = omega (arith, h.words_long, count_f_none Row)

pub record Child (ws : List ℕ) (rs : List Float) (ms : List ℕ) (a e : ℕ) (t : Tree Row) (us : Forest Row) : Type 0 where
  pub size_is : e ≡ a + count_t t
  pub some : a < e
  pub words_in_lem : 4 * e ≤ length ws
  pub rows_long : length rs ≡ 4 * length ws
  pub marks_long : 2 * length ms ≡ length ws
  pub part_long : length (take (4 * e - 4 * a) (drop (4 * a) ws)) ≡ 4 * e - 4 * a
  pub rows_of : RowsOfT (take (4 * e - 4 * a) (drop (4 * a) ws)) (take (16 * e - 16 * a) (drop (16 * a) rs)) (take (2 * e - 2 * a) (drop (2 * a) ms)) t
  pub next : Left ws rs ms e us

pub child_of : (ws : List ℕ) (rs : List Float) (ms : List ℕ) (a e : ℕ) (r : Row) (ks us : Forest Row) → Left ws rs ms a (more (node r ks) us) → e ≡ a + word_at ws a 0 → Child ws rs ms a e (node r ks) us
child_of ws rs ms a e r ks us h ed =
    let t : Tree Row = node r ks in
    let f = size_at ws in
    let q = h.q in
    let p = h.p in
    let n : count_f (more t us) ≡ count_t t + count_f us = count_f_more t us in
    let one : count_t t ≡ suc (count_f ks) = count_t_node r ks in
    let s : from f a (count_t t) ++ from f (a + count_t t) (count_f us) ≡ flat_t size_only t ++ flat_f size_only us = sym (from-add f a (count_t t) (count_f us)) ∙ ap (from f a) (sym n) ∙ h.sizes_left ∙ flat_f_more size_only t us in
    let sh : length (from f a (count_t t)) ≡ length (flat_t size_only t) = length_from f a (count_t t) ∙ sym (sizes_long t) in
    let mine : from f a (count_t t) ≡ flat_t size_only t = heads (from f a (count_t t)) (flat_t size_only t) (from f (a + count_t t) (count_f us)) (flat_f size_only us) sh s in
    let rest : from f (a + count_t t) (count_f us) ≡ flat_f size_only us = tails (from f a (count_t t)) (flat_t size_only t) (from f (a + count_t t) (count_f us)) (flat_f size_only us) sh s in
    let ee : e ≡ a + count_t t = ed ∙ ap (λ (k : ℕ). a + k) (first_size f a r ks mine ∙ sym one) in
    let wl : length ws ≡ 4 * (a + (count_t t + count_f us)) = h.words_long ∙ ap (λ (k : ℕ). 4 * (a + k)) n in
    let er : rs ≡ q ++ (flat_t new_numbers t ++ flat_f new_numbers us) = h.rows_split ∙ ap (λ (z : List Float). q ++ z) (flat_f_more new_numbers t us) in
    let em : ms ≡ p ++ (flat_t new_words t ++ flat_f new_words us) = h.marks_split ∙ ap (λ (z : List ℕ). p ++ z) (flat_f_more new_words t us) in
    let lr : length (flat_t new_numbers t) ≡ 16 * count_t t = length-flatT new_numbers 16 (λ _ _. refl) t in
    let lm : length (flat_t new_words t) ≡ 2 * count_t t = length-flatT new_words 2 (λ _ _. refl) t in
    let ur : length (flat_f new_numbers us) ≡ 16 * count_f us = length-flatF new_numbers 16 (λ _ _. refl) us in
    let um : length (flat_f new_words us) ≡ 2 * count_f us = length-flatF new_words 2 (λ _ _. refl) us in
    let ql = h.q_long in
    let pl = h.p_long in
    let qe : length q + length (flat_t new_numbers t) ≡ 16 * e = omega arith in
    let pe : length p + length (flat_t new_words t) ≡ 2 * e = omega arith in
    let rlong : length rs ≡ 4 * length ws = ap length er ∙ simp (length-append, lr, ur) (omega arith) in
    let mlong : 2 * length ms ≡ length ws = ap (λ (z : List ℕ). 2 * length z) em ∙ simp (length-append, lm, um) (omega arith) in
    let plong : length (take (4 * e - 4 * a) (drop (4 * a) ws)) ≡ 4 * e - 4 * a = simp (length-take, length-drop) (omega arith) in
    record {
      size_is = ee;
      some = omega arith;
      words_in_lem = omega arith;
      rows_long = rlong;
      marks_long = mlong;
      part_long = plong;
      rows_of = record {
        words_long = plong ∙ omega arith;
        sizes_are = sizes_part ws a (4 * a) (4 * e - 4 * a) (count_t t) refl (omega arith) ∙ mine;
        rows_are = ap (λ (z : List Float). take (16 * e - 16 * a) (drop (16 * a) z)) er ∙ part_in q (flat_t new_numbers t) (flat_f new_numbers us) (16 * a) (16 * e) ql qe;
        marks_are = ap (λ (z : List ℕ). take (2 * e - 2 * a) (drop (2 * a) z)) em ∙ part_in p (flat_t new_words t) (flat_f new_words us) (2 * a) (2 * e) pl pe;
      };
      next = record {
        q = q ++ flat_t new_numbers t;
        p = p ++ flat_t new_words t;
        words_long = wl ∙ omega arith;
        sizes_left = ap (λ (i : ℕ). from f i (count_f us)) ee ∙ rest;
        rows_split = er ∙ sym (append_assoc q _ _);
        q_long = length-append q (flat_t new_numbers t) ∙ qe;
        marks_split = em ∙ sym (append_assoc p _ _);
        p_long = length-append p (flat_t new_words t) ∙ pe;
      };
    }

pub record Facts (ws : List ℕ) (rs : List Float) (ms : List ℕ) (r : Row) (ks : Forest Row) : Type 0 where
  pub words_some : 4 ≤ length ws
  pub rows_some : 16 ≤ length rs
  pub marks_some : 2 ≤ length ms
  pub rows_head : rs ≡ row_numbers r ++ flat_f new_numbers ks
  pub marks_head : ms ≡ row_words r ++ flat_f new_words ks
  pub kids : RowsOf (take (length ws - 4) (drop 4 ws)) (take (length rs - 16) (drop 16 rs)) (take (length ms - 2) (drop 2 ms)) ks

pub facts : (ws : List ℕ) (rs : List Float) (ms : List ℕ) (r : Row) (ks : Forest Row) → RowsOfT ws rs ms (node r ks) → Facts ws rs ms r ks
facts ws rs ms r ks h =
    let one : count_t (node r ks) ≡ suc (count_f ks) = count_t_node r ks in
    let wl : length ws ≡ 4 * suc (count_f ks) = h.words_long ∙ ap (λ (k : ℕ). 4 * k) one in
    let er : rs ≡ row_numbers r ++ flat_f new_numbers ks = h.rows_are ∙ flat_t_node new_numbers r ks in
    let em : ms ≡ row_words r ++ flat_f new_words ks = h.marks_are ∙ flat_t_node new_words r ks in
    let rl : length rs ≡ 16 * suc (count_f ks) = ap length h.rows_are ∙ length-flatT new_numbers 16 (λ _ _. refl) (node r ks) ∙ ap (λ (k : ℕ). 16 * k) one in
    let ml : length ms ≡ 2 * suc (count_f ks) = ap length h.marks_are ∙ length-flatT new_words 2 (λ _ _. refl) (node r ks) ∙ ap (λ (k : ℕ). 2 * k) one in
    record {
      words_some = omega arith;
      rows_some = omega arith;
      marks_some = omega arith;
      rows_head = er;
      marks_head = em;
      kids = record {
        words_long = simp (length-take, length-drop) (omega arith);
        sizes_are = sizes_part ws 1 4 (length ws - 4) (count_f ks) refl (omega arith) ∙ kids_sizes (size_at ws) 0 r ks h.sizes_are;
        rows_are = tail-part 16 rs ∙ ap (drop 16) er;
        marks_are = tail-part 2 ms ∙ ap (drop 2) em;
      };
    }
