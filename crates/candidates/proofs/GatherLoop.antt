-- The loop of `gather`, and one tree of it, in plain terms.
use mathlib.Core.Path.{◌≡◌, refl, sym, ap, ◌∙◌}
use mathlib.Core.List.{List, [], ◌++◌, append_assoc, append-nil}
use Prim.Native.Nat.{ℕ, suc, ◌+◌, ◌*◌, ◌-◌, ◌<◌, ◌≤◌}
use native.Mathlib.Omega.{arith}
use native.Mathlib.Nat.{add-zero}
use lib.ListN.{length, take, drop, length-append, length-drop}
use lib.Seq.{take_at, drop_at, drop-drop}
use lib.Ieee.{Float}
use borrow.Rule.Slice.PartMut.{put_mid}
use Rattle.style.specs.Style.{word_at}
use Rattle.tree.specs.Tree.{Tree, Forest, node, none, more, count_t}
use Rattle.tree.proofs.Lists.{tail-part, tail-put}
use Rattle.steps.specs.Row.{Row}
use Rattle.steps.specs.Results.{listed}
use Rattle.steps.specs.Candidates.{Candidate, candidate_words, candidate_numbers, candidates_at, candidates_t, candidates_f}
use Rattle.steps.proofs.Listed.{listed_append, length_listed}
use Rattle.walks.specs.Tables.{RowsOf}
use Rattle.candidates.specs.Gathered.{RowsOfT, RoomFor, Fronts}
use Rattle.candidates.proofs.RowParts.{Left, child_of, left_begin, left_none, left_some}

pub cand_f_none : (b : ℕ) → candidates_f b none ≡ []
unfolding candidates_f
cand_f_none b = refl

pub cand_f_more : (b : ℕ) (t : Tree Row) (us : Forest Row) → candidates_f b (more t us) ≡ candidates_t b t ++ candidates_f (b + count_t t) us
unfolding candidates_f
cand_f_more b t us = refl

pub cand_t_node : (b : ℕ) (r : Row) (ks : Forest Row) → candidates_t b (node r ks) ≡ candidates_at b r (candidates_f (suc b) ks)
unfolding candidates_t
cand_t_node b r ks = refl

pub record Rest (ws : List ℕ) (rs : List Float) (ms : List ℕ) (b : ℕ) (pairs₀ : List ℕ) (triples₀ : List Float) (pairs : List ℕ) (triples : List Float) (ts : Forest Row) (a used : ℕ) : Type 0 where
  pub left : Forest Row
  pub here : Left ws rs ms a left
  pub got : List Candidate
  pub all : candidates_f b ts ≡ got ++ candidates_f (b + a) left
  pub used_is : length got ≡ used
  pub pairs_are : pairs ≡ listed candidate_words got ++ drop (2 * used) pairs₀
  pub triples_are : triples ≡ listed candidate_numbers got ++ drop (3 * used) triples₀

pub begin : (ws : List ℕ) (rs : List Float) (ms : List ℕ) (b : ℕ) (pairs : List ℕ) (triples : List Float) (ts : Forest Row) → RowsOf ws rs ms ts → Rest ws rs ms b pairs triples pairs triples ts 0 0
unfolding listed
begin ws rs ms b pairs triples ts h =
    record { left = ts; here = left_begin ws rs ms ts h; got = []; all = rw (add-zero b) refl; used_is = refl; pairs_are = refl; triples_are = refl }

pub record Turn (ws : List ℕ) (rs : List Float) (ms : List ℕ) (b : ℕ) (pairs₀ : List ℕ) (triples₀ : List Float) (pairs : List ℕ) (triples : List Float) (ts : Forest Row) (a e used : ℕ) : Type 0 where
  pub some : a < e
  pub words_in_lem : 4 * e ≤ length ws
  pub rows_long : length rs ≡ 4 * length ws
  pub marks_long : 2 * length ms ≡ length ws
  pub part_long : length (take (4 * e - 4 * a) (drop (4 * a) ws)) ≡ 4 * e - 4 * a
  pub pairs_in : 2 * used ≤ length pairs
  pub triples_in : 3 * used ≤ length triples
  pub tree : Tree Row
  pub count_is : a + count_t tree ≡ e
  pub rows_of : RowsOfT (take (4 * e - 4 * a) (drop (4 * a) ws)) (take (16 * e - 16 * a) (drop (16 * a) rs)) (take (2 * e - 2 * a) (drop (2 * a) ms)) tree
  pub room : RoomFor (candidates_t (b + a) tree) (take (length pairs - 2 * used) (drop (2 * used) pairs)) (take (length triples - 3 * used) (drop (3 * used) triples))
  pub small : used + length (candidates_t (b + a) tree) ≤ length (candidates_f b ts)
  pub next : (n : ℕ) (np : List ℕ) (nt : List Float) → Fronts (candidates_t (b + a) tree) n (take (length pairs - 2 * used) (drop (2 * used) pairs)) (take (length triples - 3 * used) (drop (3 * used) triples)) np nt
      → Rest ws rs ms b pairs₀ triples₀ (put_mid (2 * used) (length pairs - 2 * used) pairs np) (put_mid (3 * used) (length triples - 3 * used) triples nt) ts e (used + n)

-- memory after one more list of records
one_more : {B : Type 0} (f : Candidate → List B) (k : ℕ) → ((c : Candidate) → length (f c) ≡ k) → (got l : List Candidate) (lent mem new : List B) (used : ℕ) → length got ≡ used → mem ≡ listed f got ++ drop (k * used) lent
    → new ≡ listed f l ++ drop (k * length l) (take (length mem - k * used) (drop (k * used) mem)) → put_mid (k * used) (length mem - k * used) mem new ≡ listed f (got ++ l) ++ drop (k * (used + length l)) lent
one_more f k each got l lent mem new used hu hm hn =
    let g : length (listed f got) ≡ k * used = length_listed f k each got ∙ ap (λ (n : ℕ). k * n) hu in
    let a : take (k * used) mem ≡ listed f got = ap (take (k * used)) hm ∙ take_at (listed f got) _ (k * used) g in
    let d : drop (k * used) mem ≡ drop (k * used) lent = ap (drop (k * used)) hm ∙ drop_at (listed f got) _ (k * used) g in
    let n2 : new ≡ listed f l ++ drop (k * used + k * length l) lent = hn ∙ rw (tail-part (k * used) mem, d, drop-drop (k * length l) (k * used) lent) in
    let s : k * (used + length l) ≡ k * used + k * length l = omega arith in
    tail-put (k * used) mem new ∙ rw (a, n2, listed_append f got l, s) (sym (append_assoc (listed f got) (listed f l) _))

module _ (ws : List ℕ) (rs : List Float) (ms : List ℕ) (b : ℕ) (pairs₀ : List ℕ) (triples₀ : List Float) (pairs : List ℕ) (triples : List Float) (ts : Forest Row) (a e used : ℕ) (ed : e ≡ a + word_at ws a 0)
    (lp : length pairs ≡ length pairs₀) (lt3 : length triples ≡ length triples₀) (rm : RoomFor (candidates_f b ts) pairs₀ triples₀) where
  turn_of : (left : Forest Row) → Left ws rs ms a left → (got : List Candidate) → candidates_f b ts ≡ got ++ candidates_f (b + a) left → length got ≡ used → pairs ≡ listed candidate_words got ++ drop (2 * used) pairs₀
      → triples ≡ listed candidate_numbers got ++ drop (3 * used) triples₀ → 4 * a < length ws → Turn ws rs ms b pairs₀ triples₀ pairs triples ts a e used
  turn_of none h got al hu hp ht lt = absurd (left_some ws rs ms a h lt)
  turn_of (more (node r ks) us) h got al hu hp ht lt =
      let t : Tree Row = node r ks in
      let c = child_of ws rs ms a e r ks us h ed in
      let l = candidates_t (b + a) t in
      let bb : b + a + count_t t ≡ b + e = omega (arith, c.size_is) in
      let al2 : candidates_f b ts ≡ (got ++ l) ++ candidates_f (b + e) us = al ∙ rw (cand_f_more (b + a) t us, bb) (sym (append_assoc got l _)) in
      let n : length (candidates_f b ts) ≡ used + length l + length (candidates_f (b + e) us) = ap length al2 ∙ simp length-append (omega arith) in
      let r2 = rm.pairs_room in
      let r3 = rm.triples_room in
      record {
        some = c.some;
        words_in_lem = c.words_in_lem;
        rows_long = c.rows_long;
        marks_long = c.marks_long;
        part_long = c.part_long;
        pairs_in = omega arith;
        triples_in = omega arith;
        tree = t;
        count_is = sym c.size_is;
        rows_of = c.rows_of;
        room = record { pairs_room = rw (tail-part (2 * used) pairs) (simp length-drop (omega arith)); triples_room = rw (tail-part (3 * used) triples) (simp length-drop (omega arith)) };
        small = omega arith;
        next = λ m np nt f. record {
          left = us;
          here = c.next;
          got = got ++ l;
          all = al2;
          used_is = length-append got l ∙ rw (hu, f.count) refl;
          pairs_are = one_more candidate_words 2 (λ _. refl) got l pairs₀ pairs np used hu hp f.pairs_are ∙ rw f.count refl;
          triples_are = one_more candidate_numbers 3 (λ _. refl) got l triples₀ triples nt used hu ht f.triples_are ∙ rw f.count refl;
        };
      }

  pub turn : Rest ws rs ms b pairs₀ triples₀ pairs triples ts a used → 4 * a < length ws → Turn ws rs ms b pairs₀ triples₀ pairs triples ts a e used
  turn s = turn_of s.left s.here s.got s.all s.used_is s.pairs_are s.triples_are

end_of : (ws : List ℕ) (rs : List Float) (ms : List ℕ) (b : ℕ) (pairs₀ : List ℕ) (triples₀ : List Float) (pairs : List ℕ) (triples : List Float) (ts : Forest Row) (a used : ℕ) (left : Forest Row) → Left ws rs ms a left → (got : List Candidate)
    → candidates_f b ts ≡ got ++ candidates_f (b + a) left → length got ≡ used → pairs ≡ listed candidate_words got ++ drop (2 * used) pairs₀ → triples ≡ listed candidate_numbers got ++ drop (3 * used) triples₀ → length ws ≤ 4 * a
    → Fronts (candidates_f b ts) used pairs₀ triples₀ pairs triples
end_of ws rs ms b pairs₀ triples₀ pairs triples ts a used none h got al hu hp ht le =
    let e : candidates_f b ts ≡ got = al ∙ rw (cand_f_none (b + a)) (append-nil got) in
    let n : length (candidates_f b ts) ≡ used = ap length e ∙ hu in
    record { count = sym n; pairs_are = hp ∙ rw (e, hu) refl; triples_are = ht ∙ rw (e, hu) refl }
end_of ws rs ms b pairs₀ triples₀ pairs triples ts a used (more t us) h got al hu hp ht le = absurd (left_none ws rs ms a t us h le)

pub end : (ws : List ℕ) (rs : List Float) (ms : List ℕ) (b : ℕ) (pairs₀ : List ℕ) (triples₀ : List Float) (pairs : List ℕ) (triples : List Float) (ts : Forest Row) (a used : ℕ) → Rest ws rs ms b pairs₀ triples₀ pairs triples ts a used → length ws ≤ 4 * a
    → Fronts (candidates_f b ts) used pairs₀ triples₀ pairs triples
end ws rs ms b pairs₀ triples₀ pairs triples ts a used s = end_of ws rs ms b pairs₀ triples₀ pairs triples ts a used s.left s.here s.got s.all s.used_is s.pairs_are s.triples_are
