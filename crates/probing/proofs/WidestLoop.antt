-- The loop over the children of a container without a width: what is left of them, and one turn.
use mathlib.Core.Path.{◌≡◌, refl, sym, ap, ◌∙◌}
use mathlib.Core.List.{List, [], ◌++◌, append_assoc}
use Prim.Native.Nat.{ℕ, ◌+◌, ◌*◌, ◌-◌, ◌<◌, ◌≤◌}
use native.Mathlib.Omega.{arith}
use lib.ListN.{length, take, drop}
use lib.Ieee.{Float}
use borrow.Rule.Slice.PartMut.{put_mid}
use Rattle.geometry.specs.Geometry.{zero_f}
use Rattle.length.specs.declared.AvailableSpace.{AvailableSpace}
use Rattle.style.specs.Style.{word_at}
use Rattle.tree.specs.Tree.{Tree, Forest, node, none, more, count_t, depth_t, depth_f, flat_f}
use Rattle.tree.proofs.Laws.{flat_f_none, flat_f_more, depth_f_more, length-flatT}
use Rattle.steps.specs.Page.{Cell}
use Rattle.steps.specs.Probe.{Widest, probe_f}
use Rattle.steps.proofs.Clauses.{probe_f_none}
use Rattle.walks.specs.Tables.{old_numbers, old_words, TabledT, TabledF}
use Rattle.walks.proofs.Parts.{Left, child_of, left_begin, left_none, left_some}
use Rattle.probing.specs.Passed.{passed_numbers, passed_words}
use Rattle.probing.specs.Contract.{widened_t, AreT, AreF}
use Rattle.probing.proofs.Clauses.{widened_more, and_then, count_widened}

pub record Rest (ws : List ℕ) (xs rs : List Float) (ms es : List ℕ) (b : ℕ) (a : AvailableSpace) (ts : Forest Cell) (m : Float) (i : ℕ) : Type 0 where
  pub left : Forest Cell
  pub q : List Float
  pub p : List ℕ
  pub here : Left ws xs rs ms es b i left q p
  pub shallow : (d : ℕ) → depth_f ts ≤ d → depth_f left ≤ d
  pub most_same : (probe_f ts a zero_f).most ≡ (probe_f left a m).most
  pub rows_done : flat_f passed_numbers (probe_f ts a zero_f).nodes ≡ q ++ flat_f passed_numbers (probe_f left a m).nodes
  pub marks_done : flat_f passed_words (probe_f ts a zero_f).nodes ≡ p ++ flat_f passed_words (probe_f left a m).nodes

pub begin : (ws : List ℕ) (xs rs : List Float) (ms es : List ℕ) (b : ℕ) (a : AvailableSpace) (ts : Forest Cell) → TabledF ws xs rs ms es b ts → Rest ws xs rs ms es b a ts zero_f 0
begin ws xs rs ms es b a ts h =
    record { left = ts; q = []; p = []; here = left_begin ws xs rs ms es b ts h; shallow = λ d k. k; most_same = refl; rows_done = refl; marks_done = refl }

pub record Turn (ws : List ℕ) (xs rs : List Float) (ms es : List ℕ) (b : ℕ) (a : AvailableSpace) (ts : Forest Cell) (m : Float) (i e : ℕ) : Type 0 where
  pub some : i < e
  pub words_in_lem : 4 * e ≤ length ws
  pub rows_long : length rs ≡ 4 * length ws
  pub marks_long : 2 * length ms ≡ length ws
  pub tree : Tree Cell
  pub tabled : TabledT (take (4 * e - 4 * i) (drop (4 * i) ws)) xs (take (16 * e - 16 * i) (drop (16 * i) rs)) (take (2 * e - 2 * i) (drop (2 * i) ms)) es (b + i) tree
  pub shallow : (d : ℕ) → depth_f ts ≤ d → depth_t tree ≤ d
  pub count_is : i + count_t tree ≡ e
  pub next : (m' : Float) (nr : List Float) (nm : List ℕ) → (m' ≡ (widened_t m a tree).most) × AreT nr nm (widened_t m a tree).nodes
      → Rest ws xs (put_mid (16 * i) (16 * e - 16 * i) rs nr) (put_mid (2 * i) (2 * e - 2 * i) ms nm) es b a ts m' e

module _ (ws : List ℕ) (xs rs : List Float) (ms es : List ℕ) (b : ℕ) (a : AvailableSpace) (ts : Forest Cell) (m : Float) (i e : ℕ) (ed : e ≡ i + word_at ws i 0) where
  turn_of : (left : Forest Cell) (q : List Float) (p : List ℕ) → Left ws xs rs ms es b i left q p → ((d : ℕ) → depth_f ts ≤ d → depth_f left ≤ d) → (probe_f ts a zero_f).most ≡ (probe_f left a m).most
      → flat_f passed_numbers (probe_f ts a zero_f).nodes ≡ q ++ flat_f passed_numbers (probe_f left a m).nodes → flat_f passed_words (probe_f ts a zero_f).nodes ≡ p ++ flat_f passed_words (probe_f left a m).nodes
      → 4 * i < length ws → Turn ws xs rs ms es b a ts m i e
  turn_of none q p h sh se dr dm lt = absurd (left_some ws xs rs ms es b i q p h lt)
  turn_of (more (node l ks) us) q p h sh se dr dm lt =
      let t : Tree Cell = node l ks in
      let k = child_of ws xs rs ms es b i e l ks us q p h ed in
      let one : probe_f (more t us) a m ≡ and_then (widened_t m a t) (probe_f us a) = widened_more t us a m in
      let n : count_t (widened_t m a t).nodes ≡ count_t t = count_widened m a t in
      record {
        some = k.some;
        words_in_lem = k.words_in_lem;
        rows_long = k.rows_long;
        marks_long = k.marks_long;
        tree = t;
        tabled = k.tabled;
        shallow = λ d hd. let z = simp depth_f_more at (sh d hd) in omega arith;
        count_is = sym k.size_is;
        next = λ m' nr nm hh.
            let nr2 = hh.1.0 in
            let nm2 = hh.1.1 in
            record {
              left = us;
              q = q ++ nr;
              p = p ++ nm;
              here = k.next nr nm (ap length nr2 ∙ length-flatT passed_numbers 16 (λ _ _. refl) (widened_t m a t).nodes ∙ ap (λ (j : ℕ). 16 * j) n)
                  (ap length nm2 ∙ length-flatT passed_words 2 (λ _ _. refl) (widened_t m a t).nodes ∙ ap (λ (j : ℕ). 2 * j) n);
              shallow = λ d hd. let z = simp depth_f_more at (sh d hd) in omega arith;
              most_same = se ∙ ap (λ (s : Widest). s.most) one ∙ ap (λ (z : Float). (probe_f us a z).most) (sym hh.0);
              rows_done = dr ∙ ap (λ (s : Widest). q ++ flat_f passed_numbers s.nodes) one ∙ rw (flat_f_more, ← nr2, ← hh.0) (sym (append_assoc q nr _));
              marks_done = dm ∙ ap (λ (s : Widest). p ++ flat_f passed_words s.nodes) one ∙ rw (flat_f_more, ← nm2, ← hh.0) (sym (append_assoc p nm _));
            };
      }

  pub turn : Rest ws xs rs ms es b a ts m i → 4 * i < length ws → Turn ws xs rs ms es b a ts m i e
  turn s = turn_of s.left s.q s.p s.here s.shallow s.most_same s.rows_done s.marks_done

end_of : (ws : List ℕ) (xs rs : List Float) (ms es : List ℕ) (b : ℕ) (a : AvailableSpace) (ts : Forest Cell) (m : Float) (i : ℕ) (left : Forest Cell) (q : List Float) (p : List ℕ) → Left ws xs rs ms es b i left q p
    → (probe_f ts a zero_f).most ≡ (probe_f left a m).most → flat_f passed_numbers (probe_f ts a zero_f).nodes ≡ q ++ flat_f passed_numbers (probe_f left a m).nodes
    → flat_f passed_words (probe_f ts a zero_f).nodes ≡ p ++ flat_f passed_words (probe_f left a m).nodes → length ws ≤ 4 * i
    → (m ≡ (probe_f ts a zero_f).most) × AreF rs ms (probe_f ts a zero_f).nodes
end_of ws xs rs ms es b a ts m i none q p h se dr dm le =
    let one : probe_f none a m ≡ record { most = m; nodes = none } = probe_f_none a m in (
      sym (se ∙ ap (λ (s : Widest). s.most) one),
      (
        h.rows_split ∙ ap (λ (z : List Float). q ++ z) (flat_f_none old_numbers ∙ sym (ap (λ (s : Widest). flat_f passed_numbers s.nodes) one ∙ flat_f_none passed_numbers)) ∙ sym dr,
        h.marks_split ∙ ap (λ (z : List ℕ). p ++ z) (flat_f_none old_words ∙ sym (ap (λ (s : Widest). flat_f passed_words s.nodes) one ∙ flat_f_none passed_words)) ∙ sym dm,
      ),
    )
end_of ws xs rs ms es b a ts m i (more t us) q p h se dr dm le = absurd (left_none ws xs rs ms es b i t us q p h le)

pub end : (ws : List ℕ) (xs rs : List Float) (ms es : List ℕ) (b : ℕ) (a : AvailableSpace) (ts : Forest Cell) (m : Float) (i : ℕ) → Rest ws xs rs ms es b a ts m i → length ws ≤ 4 * i
    → (m ≡ (probe_f ts a zero_f).most) × AreF rs ms (probe_f ts a zero_f).nodes
end ws xs rs ms es b a ts m i s = end_of ws xs rs ms es b a ts m i s.left s.q s.p s.here s.most_same s.rows_done s.marks_done
