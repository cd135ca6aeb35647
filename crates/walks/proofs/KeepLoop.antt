-- The loop of `keep_below`: what is left of a preorder run is a forest at every node; one turn in three ways.
use mathlib.Core.Path.{◌≡◌, refl, sym, ap, ◌∙◌}
use mathlib.Core.List.{List, [], ◌∷◌, ◌++◌, append_assoc}
use Prim.Native.Nat.{ℕ, suc, ◌+◌, ◌*◌, ◌-◌, ◌/◌, ◌%◌, ◌<◌, ◌≤◌}
use native.Mathlib.Omega.{arith}
use native.Mathlib.Numerals.{add-one}
use lib.ListN.{length, get_or, set, take, drop, replicate, length-append, length-replicate}
use lib.Ieee.{Float, nan}
use borrow.Rule.Slice.PartMut.{put_mid}
use Rattle.geometry.specs.Geometry.{zero_f}
use Rattle.style.specs.Style.{word_at, style_at}
use Rattle.tree.specs.Tree.{Tree, Forest, node, none, more, count_t, count_f, flat_t, flat_f, map_f, join_f}
use Rattle.tree.specs.Table.{from}
use Rattle.tree.proofs.Laws.{count_t_node, count_f_more, flat_t_node, flat_f_none, flat_f_more, map_t_node, map_f_none, map_f_more, flat_join, count_join, count_map_f, length-flatT}
use Rattle.tree.proofs.Lists.{getD-in, set-in, from-add}
use Rattle.style.specs.Flow.{flow_at, flow_of}
use Rattle.steps.specs.Row.{Row, row_numbers, row_words, hidden_row, aside_row, noted, probe_of}
use Rattle.steps.specs.Page.{Cell, site_at, staying}
use Rattle.steps.specs.Kept.{laid_bits, below_row, zeros_f, fix_t, fix_f}
use Rattle.style.specs.declared.Flow.{Flow}
use Rattle.style.specs.declared.Flow.TheVariants.{Gone, Out, In}
use Rattle.steps.proofs.Clauses.{fix_f_none, fix_f_more, fix_t_gone, fix_t_out, fix_t_in}
use Rattle.walks.specs.Tables.{site_entry, old_numbers, old_words, new_numbers, new_words, TabledF}
use Rattle.walks.proofs.Parts.{Left, child_of, left_begin, left_none, left_some, parted, kids_sites}
use Rattle.walks.proofs.Zeros.{fix_join, map_join, zero_rows, zero_marks}

abbrev pub fixed : Forest Cell → Forest Row
fixed ts = fix_f (map_f staying ts)

pub record Rest (ws : List ℕ) (xs rs : List Float) (ms es : List ℕ) (b : ℕ) (ts : Forest Cell) (i : ℕ) : Type 0 where
  pub left : Forest Cell
  pub q : List Float
  pub p : List ℕ
  pub here : Left ws xs rs ms es b i left q p
  pub rows_done : flat_f new_numbers (fixed ts) ≡ q ++ flat_f new_numbers (fixed left)
  pub marks_done : flat_f new_words (fixed ts) ≡ p ++ flat_f new_words (fixed left)

pub begin : (ws : List ℕ) (xs rs : List Float) (ms es : List ℕ) (b : ℕ) (ts : Forest Cell) → TabledF ws xs rs ms es b ts → Rest ws xs rs ms es b ts 0
begin ws xs rs ms es b ts h = record { left = ts; q = []; p = []; here = left_begin ws xs rs ms es b ts h; rows_done = refl; marks_done = refl }

abbrev pub flow_in : List ℕ → ℕ → Flow
flow_in ws i = flow_at (word_at ws i 1)

flow_at_lem : (ws : List ℕ) (i : ℕ) (xs : List Float) (m : ℕ) → flow_in ws i ≡ flow_of (style_at ws i xs m)
unfolding flow_at flow_of style_at
flow_at_lem ws i xs m = refl

-- what a turn at i finds, the run of the node ending at e
pub record Turn (ws : List ℕ) (xs rs : List Float) (ms es : List ℕ) (b : ℕ) (ts : Forest Cell) (i e : ℕ) : Type 0 where
  pub some : i < e
  pub words_in_lem : 4 * e ≤ length ws
  pub rows_long : length rs ≡ 4 * length ws
  pub marks_long : 2 * length ms ≡ length ws
  pub rows_room : 16 ≤ length (take (16 * e - 16 * i) (drop (16 * i) rs))
  pub marks_room : 2 ≤ length (take (2 * e - 2 * i) (drop (2 * i) ms))
  pub gone : (nr : List Float) (nm : List ℕ) → flow_in ws i ≡ Gone → nr ≡ row_numbers (hidden_row (get_or ms (2 * i) 0)) ++ replicate (length (take (16 * e - 16 * i) (drop (16 * i) rs)) - 16) zero_f → nm ≡ row_words (hidden_row (get_or ms (2 * i) 0)) ++ replicate (length (take (2 * e - 2 * i) (drop (2 * i) ms)) - 2) 0
      → Rest ws xs (put_mid (16 * i) (16 * e - 16 * i) rs nr) (put_mid (2 * i) (2 * e - 2 * i) ms nm) es b ts e
  pub out : (nr : List Float) (nm : List ℕ) → flow_in ws i ≡ Out
      → nr ≡ row_numbers (aside_row (get_or rs (16 * i) nan) (get_or rs (16 * i + 1) nan) (get_or rs (16 * i + 2) nan) (get_or ms (2 * i) 0)) ++ replicate (length (take (16 * e - 16 * i) (drop (16 * i) rs)) - 16) zero_f
      → nm ≡ row_words (aside_row (get_or rs (16 * i) nan) (get_or rs (16 * i + 1) nan) (get_or rs (16 * i + 2) nan) (get_or ms (2 * i) 0)) ++ replicate (length (take (2 * e - 2 * i) (drop (2 * i) ms)) - 2) 0
      → Rest ws xs (put_mid (16 * i) (16 * e - 16 * i) rs nr) (put_mid (2 * i) (2 * e - 2 * i) ms nm) es b ts e
  pub stays : flow_in ws i ≡ In → Rest ws xs rs (set ms (2 * i + 1) (laid_bits (get_or ms (2 * i + 1) 0) (get_or ms (2 * i + 1) 0 / 16 % 16))) es b ts (i + 1)

below_row_lem : (l : Cell) → (row_numbers (below_row (staying l)) ≡ row_numbers l.old) × (row_words (below_row (staying l)) ≡ l.old.order ∷ laid_bits l.old.bits (l.old.bits / 16 % 16) ∷ [])
unfolding below_row staying noted probe_of
below_row_lem l = (refl, refl)

stay_flow : (l : Cell) → flow_of l.site.style ≡ flow_of (staying l).site.style
unfolding staying
stay_flow l = refl

stay_old : (l : Cell) → (staying l).old ≡ l.old
unfolding staying
stay_old l = refl

-- the rows of a node that is gone or out, written out
flat_zero : (r : Row) (ks : Forest Cell) (n : ℕ) → n ≡ 16 * count_f ks → flat_t new_numbers (node r (zeros_f (map_f staying ks))) ≡ row_numbers r ++ replicate n zero_f
flat_zero r ks n e = rw (flat_t_node new_numbers r (zeros_f (map_f staying ks)), zero_rows (map_f staying ks), count_map_f staying ks, e)

flat_zero2 : (r : Row) (ks : Forest Cell) (n : ℕ) → n ≡ 2 * count_f ks → flat_t new_words (node r (zeros_f (map_f staying ks))) ≡ row_words r ++ replicate n 0
flat_zero2 r ks n e = rw (flat_t_node new_words r (zeros_f (map_f staying ks)), zero_marks (map_f staying ks), count_map_f staying ks, e)

-- the rows of a node that stays
flat_in : (l : Cell) (rest : Forest Row) → flat_t new_numbers (node (below_row (staying l)) rest) ≡ row_numbers l.old ++ flat_f new_numbers rest
flat_in l rest = flat_t_node new_numbers (below_row (staying l)) rest ∙ ap (λ (z : List Float). z ++ flat_f new_numbers rest) (below_row_lem l).0

flat_in2 : (l : Cell) (rest : Forest Row) → flat_t new_words (node (below_row (staying l)) rest) ≡ (l.old.order ∷ laid_bits l.old.bits (l.old.bits / 16 % 16) ∷ []) ++ flat_f new_words rest
flat_in2 l rest = flat_t_node new_words (below_row (staying l)) rest ∙ ap (λ (z : List ℕ). z ++ flat_f new_words rest) (below_row_lem l).1

module _ (ws : List ℕ) (xs rs : List Float) (ms es : List ℕ) (b : ℕ) (ts : Forest Cell) (i e : ℕ) (ed : e ≡ i + word_at ws i 0) where
  turn_of : (left : Forest Cell) (q : List Float) (p : List ℕ) → Left ws xs rs ms es b i left q p → flat_f new_numbers (fixed ts) ≡ q ++ flat_f new_numbers (fixed left) → flat_f new_words (fixed ts) ≡ p ++ flat_f new_words (fixed left)
      → 4 * i < length ws → Turn ws xs rs ms es b ts i e
  turn_of none q p h dr dm lt = absurd (left_some ws xs rs ms es b i q p h lt)
  turn_of (more (node l ks) us) q p h dr dm lt =
      let t : Tree Cell = node l ks in
      let c = child_of ws xs rs ms es b i e l ks us q p h ed in
      let one : count_t t ≡ suc (count_f ks) = count_t_node l ks in
      let ql = h.q_long in
      let pl = h.p_long in
      let fl : flow_in ws i ≡ flow_of (staying l).site.style = flow_at_lem ws i xs (b + i) ∙ ap flow_of c.root.style_is ∙ stay_flow l in
      let er : rs ≡ q ++ (row_numbers l.old ++ (flat_f old_numbers ks ++ flat_f old_numbers us)) =
      h.rows_split ∙ ap (λ (z : List Float). q ++ z) (flat_f_more old_numbers t us ∙ ap (λ (z : List Float). z ++ flat_f old_numbers us) (flat_t_node old_numbers l ks)) in
      let em : ms ≡ p ++ (row_words l.old ++ (flat_f old_words ks ++ flat_f old_words us)) =
      h.marks_split ∙ ap (λ (z : List ℕ). p ++ z) (flat_f_more old_words t us ∙ ap (λ (z : List ℕ). z ++ flat_f old_words us) (flat_t_node old_words l ks)) in
      let r = l.old in
      let tail0 = r.answer.size.width ∷ r.answer.size.height ∷ r.answer.top.positive ∷ r.answer.top.negative ∷ r.answer.bottom.positive ∷ r.answer.bottom.negative ∷ r.asked.width ∷ r.asked.height ∷ r.asked.parent ∷ r.probe.width ∷ r.probe.height ∷ r.probe.answer ∷ r.asked.basis ∷ r.answer.baseline ∷ (flat_f old_numbers ks ++ flat_f old_numbers us) in
      let g0 : get_or rs (16 * i) nan ≡ r.place.x = ap (λ (z : List Float). get_or z (16 * i) nan) er ∙ getD-in q [] r.place.x (r.place.y ∷ tail0) nan (16 * i) (omega arith) in
      let g1 : get_or rs (16 * i + 1) nan ≡ r.place.y = ap (λ (z : List Float). get_or z (16 * i + 1) nan) er ∙ getD-in q (r.place.x ∷ []) r.place.y tail0 nan (16 * i + 1) (ap (λ (k : ℕ). k + 1) ql) in
      let g2 : get_or rs (16 * i + 2) nan ≡ r.answer.size.width = ap (λ (z : List Float). get_or z (16 * i + 2) nan) er ∙ getD-in q (r.place.x ∷ r.place.y ∷ []) r.answer.size.width (drop 1 tail0) nan (16 * i + 2) (ap (λ (k : ℕ). k + 2) ql) in
      let m0 : get_or ms (2 * i) 0 ≡ r.order = ap (λ (z : List ℕ). get_or z (2 * i) 0) em ∙ getD-in p [] r.order (r.bits ∷ (flat_f old_words ks ++ flat_f old_words us)) 0 (2 * i) (omega arith) in
      let m1 : get_or ms (2 * i + 1) 0 ≡ r.bits = ap (λ (z : List ℕ). get_or z (2 * i + 1) 0) em ∙ getD-in p (r.order ∷ []) r.bits (flat_f old_words ks ++ flat_f old_words us) 0 (2 * i + 1) (ap (λ (k : ℕ). k + 1) pl) in
      let ee = c.size_is in
      let lr : length (take (16 * e - 16 * i) (drop (16 * i) rs)) ≡ 16 * count_t t = ap length c.rows_mine ∙ length-flatT old_numbers 16 (λ _ _. refl) t in
      let lm : length (take (2 * e - 2 * i) (drop (2 * i) ms)) ≡ 2 * count_t t = ap length c.marks_mine ∙ length-flatT old_words 2 (λ _ _. refl) t in
      let n16 : length (take (16 * e - 16 * i) (drop (16 * i) rs)) - 16 ≡ 16 * count_f ks = omega arith in
      let n2 : length (take (2 * e - 2 * i) (drop (2 * i) ms)) - 2 ≡ 2 * count_f ks = omega arith in
      let more-done : fixed (more t us) ≡ more (fix_t (node (staying l) (map_f staying ks))) (fixed us) = rw (map_f_more staying t us, map_t_node staying l ks, fix_f_more) in
      record {
        some = c.some;
        words_in_lem = c.words_in_lem;
        rows_long = c.rows_long;
        marks_long = c.marks_long;
        rows_room = omega arith;
        marks_room = omega arith;
        gone = λ nr nm hf hr hm.
            let fx : fix_t (node (staying l) (map_f staying ks)) ≡ node (hidden_row r.order) (zeros_f (map_f staying ks)) = fix_t_gone (staying l) (map_f staying ks) (sym fl ∙ hf) ∙ rw (stay_old l) refl in
            let nr2 : nr ≡ flat_t new_numbers (fix_t (node (staying l) (map_f staying ks))) = hr ∙ rw (m0, fx) (sym (flat_zero (hidden_row r.order) ks _ n16)) in
            let nm2 : nm ≡ flat_t new_words (fix_t (node (staying l) (map_f staying ks))) = hm ∙ rw (m0, fx) (sym (flat_zero2 (hidden_row r.order) ks _ n2)) in
            record {
              left = us;
              q = q ++ nr;
              p = p ++ nm;
              here = c.next nr nm (ap length hr ∙ simp (length-append, length-replicate) (omega arith)) (ap length hm ∙ simp (length-append, length-replicate) (omega arith));
              rows_done = dr ∙ rw (more-done, flat_f_more, ← nr2) (sym (append_assoc q nr _));
              marks_done = dm ∙ rw (more-done, flat_f_more, ← nm2) (sym (append_assoc p nm _));
            };
        out = λ nr nm hf hr hm.
            let a = aside_row r.place.x r.place.y r.answer.size.width r.order in
            let fx : fix_t (node (staying l) (map_f staying ks)) ≡ node a (zeros_f (map_f staying ks)) = fix_t_out (staying l) (map_f staying ks) (sym fl ∙ hf) ∙ rw (stay_old l) refl in
            let nr2 : nr ≡ flat_t new_numbers (fix_t (node (staying l) (map_f staying ks))) = hr ∙ rw (m0, g0, g1, g2, fx) (sym (flat_zero a ks _ n16)) in
            let nm2 : nm ≡ flat_t new_words (fix_t (node (staying l) (map_f staying ks))) = hm ∙ rw (m0, g0, g1, g2, fx) (sym (flat_zero2 a ks _ n2)) in
            record {
              left = us;
              q = q ++ nr;
              p = p ++ nm;
              here = c.next nr nm (ap length hr ∙ simp (length-append, length-replicate) (omega arith)) (ap length hm ∙ simp (length-append, length-replicate) (omega arith));
              rows_done = dr ∙ rw (more-done, flat_f_more, ← nr2) (sym (append_assoc q nr _));
              marks_done = dm ∙ rw (more-done, flat_f_more, ← nm2) (sym (append_assoc p nm _));
            };
        stays = λ hf.
            let v = laid_bits r.bits (r.bits / 16 % 16) in
            let fx : fix_t (node (staying l) (map_f staying ks)) ≡ node (below_row (staying l)) (fixed ks) = fix_t_in (staying l) (map_f staying ks) (sym fl ∙ hf) in
            let s = parted (site_at ws xs es b) i t us h.sites_left in
            let f = site_at ws xs es b in
            let cj : count_f (join_f ks us) ≡ count_f ks + count_f us = count_join ks us in
            let sj : from f (i + 1) (count_f (join_f ks us)) ≡ flat_f site_entry (join_f ks us) =
            ap (from f (i + 1)) cj ∙ from-add f (i + 1) (count_f ks) (count_f us)
            ∙ ap (λ (k : ℕ). from f k (count_f ks) ++ from f (i + 1 + count_f ks) (count_f us)) (add-one i)
            ∙ ap (λ (z : List _). z ++ from f (i + 1 + count_f ks) (count_f us)) (kids_sites f i l ks s.mine)
            ∙ ap (λ (k : ℕ). flat_f site_entry ks ++ from f k (count_f us)) (omega arith)
            ∙ ap (λ (z : List _). flat_f site_entry ks ++ z) s.rest ∙ sym (flat_join site_entry ks us) in
            let stored : set ms (2 * i + 1) (laid_bits (get_or ms (2 * i + 1) 0) (get_or ms (2 * i + 1) 0 / 16 % 16)) ≡ p ++ ((r.order ∷ v ∷ []) ++ (flat_f old_words ks ++ flat_f old_words us)) =
            rw m1 (ap (λ (z : List ℕ). set z (2 * i + 1) v) em ∙ set-in p (r.order ∷ []) r.bits (flat_f old_words ks ++ flat_f old_words us) v (2 * i + 1) (ap (λ (k : ℕ). k + 1) pl)) in
            let wl = h.words_long ∙ ap (λ (k : ℕ). 4 * (i + k)) (count_f_more t us) in
            record {
              left = join_f ks us;
              q = q ++ row_numbers r;
              p = p ++ (r.order ∷ v ∷ []);
              here = record {
                words_long = rw cj (omega arith);
                sites_left = sj;
                rows_split = er ∙ rw (flat_join old_numbers ks us) (sym (append_assoc q (row_numbers r) _));
                q_long = simp length-append (omega arith);
                marks_split = stored ∙ rw (flat_join old_words ks us) (sym (append_assoc p (r.order ∷ v ∷ []) _));
                p_long = simp length-append (omega arith);
              };
              rows_done = dr ∙ rw (more-done, flat_f_more, fx, flat_in l (fixed ks), map_join staying ks us, fix_join, flat_join) (simp append_assoc);
              marks_done = dm ∙ rw (more-done, flat_f_more, fx, flat_in2 l (fixed ks), map_join staying ks us, fix_join, flat_join) (simp append_assoc);
            };
      }

  pub turn : Rest ws xs rs ms es b ts i → 4 * i < length ws → Turn ws xs rs ms es b ts i e
  turn s = turn_of s.left s.q s.p s.here s.rows_done s.marks_done

end_of : (ws : List ℕ) (xs rs : List Float) (ms es : List ℕ) (b : ℕ) (ts : Forest Cell) (i : ℕ) (left : Forest Cell) (q : List Float) (p : List ℕ) → Left ws xs rs ms es b i left q p
    → flat_f new_numbers (fixed ts) ≡ q ++ flat_f new_numbers (fixed left) → flat_f new_words (fixed ts) ≡ p ++ flat_f new_words (fixed left) → length ws ≤ 4 * i
    → (rs ≡ flat_f new_numbers (fixed ts)) × (ms ≡ flat_f new_words (fixed ts))
end_of ws xs rs ms es b ts i none q p h dr dm le =
    let f : fixed none ≡ none = rw (map_f_none staying) fix_f_none in
    let e1 : flat_f new_numbers (fixed none) ≡ [] = rw f (flat_f_none new_numbers) in
    let e2 : flat_f new_words (fixed none) ≡ [] = rw f (flat_f_none new_words) in
    (h.rows_split ∙ ap (λ (z : List Float). q ++ z) (flat_f_none old_numbers ∙ sym e1) ∙ sym dr, h.marks_split ∙ ap (λ (z : List ℕ). p ++ z) (flat_f_none old_words ∙ sym e2) ∙ sym dm)
end_of ws xs rs ms es b ts i (more t us) q p h dr dm le = absurd (left_none ws xs rs ms es b i t us q p h le)

pub end : (ws : List ℕ) (xs rs : List Float) (ms es : List ℕ) (b : ℕ) (ts : Forest Cell) (i : ℕ) → Rest ws xs rs ms es b ts i → length ws ≤ 4 * i → (rs ≡ flat_f new_numbers (fixed ts)) × (ms ≡ flat_f new_words (fixed ts))
end ws xs rs ms es b ts i s = end_of ws xs rs ms es b ts i s.left s.q s.p s.here s.rows_done s.marks_done
