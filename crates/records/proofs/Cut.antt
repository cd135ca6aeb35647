-- A call on cut candidate memory is the call on all of it, where the cut leaves room.
use Rattle.steps.specs.declared.Refusal.TheVariants.{Room}
use Rattle.steps.specs.declared.Refusal.{Refusal}
use Rattle.std.specs.Prelude.{Option, None, Some, Result, Ok, Err, ⊤}
use Rattle.tree.specs.declared.NodeId.{NodeId}
use mathlib.Core.Path.{◌≡◌, refl, sym, ap, ◌∙◌}
use mathlib.Core.Bool.{Bool, true, false}
use mathlib.Core.List.{List, [], ◌∷◌, ◌++◌, append_assoc}
use Prim.Native.Nat.{ℕ, zero, suc, ◌+◌, ◌*◌, ◌/◌, ◌≤◌, min}
use native.Mathlib.Nat.{le_of_suc-le-suc, not-suc-le-zero}
use native.Mathlib.Omega.{arith}
use lib.ListN.{length, take, drop, length-take, take-append-drop}
use lib.Dec.{ltb}
use lib.Ieee.{Float}
use borrow.Author.Tests.{lt-ltb, le-ltb, ltb-true, ltb-false}
use Rattle.tree.specs.Tree.{Tree}
use Rattle.steps.specs.Row.{Row}
use Rattle.steps.specs.Scan.{lowest}
use Rattle.steps.specs.Page.{page_of}
use Rattle.steps.specs.Candidates.{candidates, candidate_words, candidate_numbers, needed}
use Rattle.steps.specs.Noes.{bad_row, records_in, refuse_if, no5}
use Rattle.steps.specs.Results.{Reply, rows_out, listed, on_front, accepted, over_limit, replied, tested}
use Rattle.steps.proofs.Listed.{length_listed}
use Rattle.layout.specs.Public.{Replied}

-- ---- the front of cut memory
drop_cut : {B : Type 0} (i j : ℕ) (l : List B) → i ≤ j → drop i (take j l) ++ drop j l ≡ drop i l
drop_cut zero j l h = take-append-drop j l
drop_cut (suc i) zero l h = absurd (not-suc-le-zero h)
drop_cut (suc i) (suc j) [] h = refl
drop_cut (suc i) (suc j) (x ∷ l) h = drop_cut i j l (le_of_suc-le-suc h)

front_cut : {B : Type 0} (l : List B) (j : ℕ) (lent : List B) → length l ≤ j → on_front l (take j lent) ++ drop j lent ≡ on_front l lent
unfolding on_front
front_cut l j lent h = append_assoc l (drop (length l) (take j lent)) (drop j lent) ∙ ap (λ (r : List _). l ++ r) (drop_cut (length l) j lent h)

-- ---- the reply
module _ (m : ℕ) (rs : List Float) (ms cw : List ℕ) (cx : List Float) where
  -- what is past the cut is put back
  abbrev pub whole : Reply → Reply
  whole r = record { answer = r.answer; rows = r.rows; marks = r.marks; words = r.words ++ drop (2 * m) cw; numbers = r.numbers ++ drop (3 * m) cx }

  found-whole : (f : Option NodeId) (t : Tree Row) → length (candidates t) ≤ m → whole (over_limit f t rs ms (take (2 * m) cw) (take (3 * m) cx)) ≡ over_limit f t rs ms cw cx
  unfolding over_limit accepted
  found-whole (Some i) t h = rw (take-append-drop (2 * m) cw, take-append-drop (3 * m) cx)
  found-whole None t h =
      let p = length_listed candidate_words 2 (λ _. refl) (candidates t) in
      let q = length_listed candidate_numbers 3 (λ _. refl) (candidates t) in
      rw (front_cut (listed candidate_words (candidates t)) (2 * m) cw (omega (arith, p, h)), front_cut (listed candidate_numbers (candidates t)) (3 * m) cx (omega (arith, q, h)))

  pub tested-whole : (T : Result ⊤ Refusal) (n : ℕ) (t : Tree Row) → (T ≡ Ok tt → length (candidates t) ≤ m)
      → whole (tested T (replied n t rs ms (take (2 * m) cw) (take (3 * m) cx)) rs ms (take (2 * m) cw) (take (3 * m) cx)) ≡ tested T (replied n t rs ms cw cx) rs ms cw cx
  unfolding tested replied
  tested-whole (Ok _) n t h = found-whole (lowest (bad_row (rows_out t)) n) t (h refl)
  tested-whole (Err a) n t h = rw (take-append-drop (2 * m) cw, take-append-drop (3 * m) cx)

  pub replied-whole : (r : Reply) (a : Result ℕ Refusal) (rs' : List Float) (ms' cw' : List ℕ) (cx' : List Float) → Replied r a rs' ms' cw' cx' → Replied (whole r) a rs' ms' (cw' ++ drop (2 * m) cw) (cx' ++ drop (3 * m) cx)
  replied-whole r a rs' ms' cw' cx' h =
      record {
        answer_is = h.answer_is;
        paper_is = h.paper_is;
        rows_are = h.rows_are;
        marks_are = h.marks_are;
        words_are = ap (λ (l : List ℕ). l ++ drop (2 * m) cw) h.words_are;
        numbers_are = ap (λ (l : List Float). l ++ drop (3 * m) cx) h.numbers_are;
      }

-- ---- refusal 5
module _ (ws : List ℕ) (xs : List Float) (cw : List ℕ) (cx : List Float) (k : ℕ) where
  abbrev pub lent_records : ℕ
  lent_records = min k (min (length cw / 2) (length cx / 3))

  abbrev need : ℕ
  need = needed (page_of ws xs [])

  cut-records : records_in (take (2 * lent_records) cw) (take (3 * lent_records) cx) ≡ lent_records
  cut-records =
      let p = length-take (2 * lent_records) cw in
      let q = length-take (3 * lent_records) cx in
      omega (arith, p, q)

  pub cut-few : ltb k need ≡ true → no5 ws xs (take (2 * lent_records) cw) (take (3 * lent_records) cx) ≡ Err Room
  unfolding no5
  cut-few e =
      let l = ltb-true k need e in
      let c = cut-records in
      rw (lt-ltb (records_in (take (2 * lent_records) cw) (take (3 * lent_records) cx)) need (omega (arith, l, c)))

  pub none-few : ltb k need ≡ true → no5 ws xs [] [] ≡ Err Room
  unfolding no5
  none-few e =
      let l = ltb-true k need e in
      rw (lt-ltb (records_in [] []) need (omega (arith, l)))

  pub cut-enough : ltb k need ≡ false → no5 ws xs (take (2 * lent_records) cw) (take (3 * lent_records) cx) ≡ no5 ws xs cw cx
  unfolding no5
  cut-enough e = ap (λ (b : Bool). refuse_if b Room) (go (ltb (records_in cw cx) need) refl)
    where
      go : (b : Bool) → ltb (records_in cw cx) need ≡ b → ltb (records_in (take (2 * lent_records) cw) (take (3 * lent_records) cx)) need ≡ ltb (records_in cw cx) need
      go true f =
          let l = ltb-true (records_in cw cx) need f in
          let c = cut-records in
          lt-ltb (records_in (take (2 * lent_records) cw) (take (3 * lent_records) cx)) need (omega (arith, l, c)) ∙ sym f
      go false f =
          let l = ltb-false (records_in cw cx) need f in
          let h = ltb-false k need e in
          let c = cut-records in
          le-ltb (records_in (take (2 * lent_records) cw) (take (3 * lent_records) cx)) need (omega (arith, l, h, c)) ∙ sym f
