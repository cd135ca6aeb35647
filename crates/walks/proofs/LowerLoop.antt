-- The loop of `lower`: what is left of a forest of rows, and one turn.
use mathlib.Core.Path.{◌≡◌, refl, sym, ap, ◌∙◌}
use mathlib.Core.Bool.{Bool, cond, ◌||◌}
use mathlib.Core.List.{List, [], ◌∷◌, ◌++◌, append_assoc, append-nil}
use Prim.Native.Nat.{ℕ, zero, suc, ◌+◌, ◌*◌, ◌<◌, ◌≤◌}
use native.Mathlib.Omega.{arith}
use lib.ListN.{length, get_or, set, length-append}
use lib.Ieee.{Float, nan}
use Rattle.style.specs.Style.{word_at}
use Rattle.tree.specs.Tree.{Tree, Forest, node, none, more, count_t, count_f, flat_t, flat_f, on_root}
use Rattle.tree.specs.Table.{from}
use Rattle.tree.proofs.Laws.{count_t_node, count_f_none, count_f_more, flat_t_node, flat_f_none, flat_f_more, length-flatT, length-flatF, on_root_node}
use Rattle.tree.proofs.Lists.{getD-in, set-in, from_suc, from-add, length_from, heads, tails}
use Rattle.steps.specs.Row.{Row, row_numbers, row_words, lowered, is_laid, is_out}
use Rattle.steps.specs.Layout.{lower_f}
use Rattle.walks.specs.Tables.{new_numbers, new_words, size_only, RowsOf, lowered_y}

pub lower_f_none : (d : Float) → lower_f d none ≡ none
unfolding lower_f
lower_f_none d = refl

pub lower_f_more : (d : Float) (t : Tree Row) (ts : Forest Row) → lower_f d (more t ts) ≡ more (on_root (lowered d) t) (lower_f d ts)
unfolding lower_f
lower_f_more d t ts = refl

pub record Rest (ws : List ℕ) (rs : List Float) (ms : List ℕ) (d : Float) (ts : Forest Row) (a : ℕ) : Type 0 where
  pub left : Forest Row
  pub q : List Float
  pub p : List ℕ
  pub words_long : length ws ≡ 4 * (a + count_f left)
  pub sizes_left : from (λ k. word_at ws k 0) a (count_f left) ≡ flat_f size_only left
  pub rows_split : rs ≡ q ++ flat_f new_numbers left
  pub q_long : length q ≡ 16 * a
  pub marks_split : ms ≡ p ++ flat_f new_words left
  pub p_long : length p ≡ 2 * a
  pub done : flat_f new_numbers (lower_f d ts) ≡ q ++ flat_f new_numbers (lower_f d left)

pub begin : (ws : List ℕ) (rs : List Float) (ms : List ℕ) (d : Float) (ts : Forest Row) → RowsOf ws rs ms ts → Rest ws rs ms d ts 0
begin ws rs ms d ts h =
    record {
      left = ts;
      q = [];
      p = [];
      words_long = h.words_long ∙ omega arith;
      sizes_left = h.sizes_are;
      rows_split = h.rows_are;
      q_long = refl;
      marks_split = h.marks_are;
      p_long = refl;
      done = refl;
    }

pub record Turn (ws : List ℕ) (rs : List Float) (ms : List ℕ) (d : Float) (ts : Forest Row) (a : ℕ) : Type 0 where
  pub some : 1 ≤ word_at ws a 0
  pub words_in_lem : 4 * (a + word_at ws a 0) ≤ length ws
  pub rows_long : length rs ≡ 4 * length ws
  pub marks_long : 2 * length ms ≡ length ws
  pub next : (v : Float) → v ≡ lowered_y (get_or rs (16 * a + 1) nan) (get_or ms (2 * a + 1) 0) d → Rest ws (set rs (16 * a + 1) v) ms d ts (a + word_at ws a 0)

lowered_row : (d : Float) (r : Row) (q z : List Float) (n : ℕ) (v : Float) → length q ≡ n → v ≡ lowered_y (get_or (q ++ (row_numbers r ++ z)) (n + 1) nan) r.bits d → set (q ++ (row_numbers r ++ z)) (n + 1) v ≡ q ++ (row_numbers (lowered d r) ++ z)
unfolding lowered lowered_y is_laid is_out
lowered_row d r q z n v e ev =
    let a = r.answer.size.width ∷ r.answer.size.height ∷ r.answer.top.positive ∷ r.answer.top.negative ∷ r.answer.bottom.positive ∷ r.answer.bottom.negative ∷ r.asked.width ∷ r.asked.height ∷ r.asked.parent ∷ r.probe.width ∷ r.probe.height ∷ r.probe.answer ∷ r.asked.basis ∷ r.answer.baseline ∷ z in
    let i : length q + length (r.place.x ∷ []) ≡ n + 1 = ap (λ (k : ℕ). k + 1) e in
    let g : get_or (q ++ (row_numbers r ++ z)) (n + 1) nan ≡ r.place.y = getD-in q (r.place.x ∷ []) r.place.y a nan (n + 1) i in
    rw (set-in q (r.place.x ∷ []) r.place.y a v (n + 1) i, ev, g)

turn_of : (ws : List ℕ) (rs : List Float) (ms : List ℕ) (d : Float) (ts : Forest Row) (a : ℕ) (left : Forest Row) (q : List Float) (p : List ℕ) → length ws ≡ 4 * (a + count_f left)
    → from (λ k. word_at ws k 0) a (count_f left) ≡ flat_f size_only left → rs ≡ q ++ flat_f new_numbers left → length q ≡ 16 * a → ms ≡ p ++ flat_f new_words left → length p ≡ 2 * a
    → flat_f new_numbers (lower_f d ts) ≡ q ++ flat_f new_numbers (lower_f d left) → 4 * a < length ws → Turn ws rs ms d ts a
turn_of ws rs ms d ts a none q p wl sl er ql em pl done lt = absurd (omega (arith, count_f_none Row))
turn_of ws rs ms d ts a (more (node r ks) us) q p wl sl er ql em pl done lt =
    let t : Tree Row = node r ks in
    let f : ℕ → ℕ = λ k. word_at ws k 0 in
    let n : count_f (more t us) ≡ count_t t + count_f us = count_f_more t us in
    let one : count_t t ≡ suc (count_f ks) = count_t_node r ks in
    let lt2 : length (flat_t size_only t) ≡ count_t t = length-flatT size_only 1 (λ _ _. refl) t ∙ omega arith in
    let s : from f a (count_t t) ++ from f (a + count_t t) (count_f us) ≡ flat_t size_only t ++ flat_f size_only us =
    sym (from-add f a (count_t t) (count_f us)) ∙ ap (from f a) (sym n) ∙ sl ∙ flat_f_more size_only t us in
    let sh : length (from f a (count_t t)) ≡ length (flat_t size_only t) = length_from f a (count_t t) ∙ sym lt2 in
    let mine : from f a (count_t t) ≡ flat_t size_only t = heads (from f a (count_t t)) (flat_t size_only t) (from f (a + count_t t) (count_f us)) (flat_f size_only us) sh s in
    let rest : from f (a + count_t t) (count_f us) ≡ flat_f size_only us = tails (from f a (count_t t)) (flat_t size_only t) (from f (a + count_t t) (count_f us)) (flat_f size_only us) sh s in
    let hd : f a ∷ from f (suc a) (count_f ks) ≡ suc (count_f ks) ∷ flat_f size_only ks = sym (from_suc f a (count_f ks)) ∙ ap (from f a) (sym one) ∙ mine ∙ flat_t_node size_only r ks in
    let size : word_at ws a 0 ≡ suc (count_f ks) = first (f a) (suc (count_f ks)) _ _ hd in
    let er2 : rs ≡ q ++ (row_numbers r ++ (flat_f new_numbers ks ++ flat_f new_numbers us)) = er ∙ ap (λ (z : List Float). q ++ z) (flat_f_more new_numbers t us ∙ ap (λ (z : List Float). z ++ flat_f new_numbers us) (flat_t_node new_numbers r ks)) in
    let em2 : ms ≡ p ++ ((r.order ∷ []) ++ (r.bits ∷ (flat_f new_words ks ++ flat_f new_words us))) = em ∙ ap (λ (z : List ℕ). p ++ z) (flat_f_more new_words t us ∙ ap (λ (z : List ℕ). z ++ flat_f new_words us) (flat_t_node new_words r ks)) in
    let rl : length rs ≡ 16 * (a + count_f (more t us)) = ap length er ∙ simp (length-append, length-flatF new_numbers 16 (λ _ _. refl)) (omega arith) in
    let ml : length ms ≡ 2 * (a + count_f (more t us)) = ap length em ∙ simp (length-append, length-flatF new_words 2 (λ _ _. refl)) (omega arith) in
    let gm : get_or ms (2 * a + 1) 0 ≡ r.bits = ap (λ (z : List ℕ). get_or z (2 * a + 1) 0) em2 ∙ getD-in p (r.order ∷ []) r.bits _ 0 (2 * a + 1) (ap (λ (k : ℕ). k + 1) pl) in
    let ee : a + word_at ws a 0 ≡ a + count_t t = ap (λ (k : ℕ). a + k) (size ∙ sym one) in
    record {
      some = omega arith;
      words_in_lem = omega arith;
      rows_long = omega arith;
      marks_long = omega arith;
      next = λ v ev.
          let ev2 : v ≡ lowered_y (get_or (q ++ (row_numbers r ++ (flat_f new_numbers ks ++ flat_f new_numbers us))) (16 * a + 1) nan) r.bits d = ev ∙ rw (gm, er2) refl in
          record {
            left = us;
            q = q ++ (row_numbers (lowered d r) ++ flat_f new_numbers ks);
            p = p ++ flat_t new_words t;
            words_long = omega arith;
            sizes_left = ap (λ (i : ℕ). from f i (count_f us)) ee ∙ rest;
            rows_split = ap (λ (z : List Float). set z (16 * a + 1) v) er2 ∙ lowered_row d r q _ (16 * a) v ql ev2 ∙ simp append_assoc;
            q_long = simp (length-append, length-flatF new_numbers 16 (λ _ _. refl)) (omega arith);
            marks_split = em ∙ ap (λ (z : List ℕ). p ++ z) (flat_f_more new_words t us) ∙ sym (append_assoc p _ _);
            p_long = simp (length-append, length-flatT new_words 2 (λ _ _. refl)) (omega arith);
            done = done ∙ simp (lower_f_more, flat_f_more, on_root_node, flat_t_node, append_assoc);
          };
    }
  where
    first : (x y : ℕ) (l m : List ℕ) → x ∷ l ≡ y ∷ m → x ≡ y
    first x y l m e = cc

pub turn : (ws : List ℕ) (rs : List Float) (ms : List ℕ) (d : Float) (ts : Forest Row) (a : ℕ) → Rest ws rs ms d ts a → 4 * a < length ws → Turn ws rs ms d ts a
turn ws rs ms d ts a s = turn_of ws rs ms d ts a s.left s.q s.p s.words_long s.sizes_left s.rows_split s.q_long s.marks_split s.p_long s.done

end_of : (ws : List ℕ) (rs : List Float) (d : Float) (ts : Forest Row) (a : ℕ) (left : Forest Row) (q : List Float) → length ws ≡ 4 * (a + count_f left) → rs ≡ q ++ flat_f new_numbers left
    → flat_f new_numbers (lower_f d ts) ≡ q ++ flat_f new_numbers (lower_f d left) → length ws ≤ 4 * a → rs ≡ flat_f new_numbers (lower_f d ts)
end_of ws rs d ts a none q wl er done le = er ∙ sym (done ∙ simp lower_f_none)
end_of ws rs d ts a (more (node r ks) us) q wl er done le = absurd (omega (arith, count_f_more (node r ks) us, count_t_node r ks))

pub end : (ws : List ℕ) (rs : List Float) (ms : List ℕ) (d : Float) (ts : Forest Row) (a : ℕ) → Rest ws rs ms d ts a → length ws ≤ 4 * a → rs ≡ flat_f new_numbers (lower_f d ts)
end ws rs ms d ts a s = end_of ws rs d ts a s.left s.q s.words_long s.rows_split s.done
