-- What a call leaves in the plain slices holds the records of its list, and fits the records lent.
use Rattle.steps.specs.declared.Refusal.TheVariants.{TooLarge}
use Rattle.steps.specs.declared.Refusal.{Refusal}
use Rattle.std.specs.Prelude.{Option, None, Some, Result, Ok, Err, ⊤}
use Rattle.tree.specs.declared.NodeId.{NodeId}
use mathlib.Core.Path.{◌≡◌, refl, ap, ◌∙◌}
use mathlib.Core.Bool.{Bool, true, false, cond}
use mathlib.Core.List.{List, [], ◌++◌, map}
use Prim.Native.Nat.{ℕ, ◌≤◌}
use native.Mathlib.Omega.{arith}
use lib.ListN.{length, drop, length-map}
use lib.Dec.{ltb}
use lib.Ieee.{Float}
use borrow.Author.Tests.{ltb-false}
use Rattle.tree.specs.Tree.{Tree}
use Rattle.steps.specs.Row.{Row}
use Rattle.steps.specs.Scan.{lowest}
use Rattle.steps.specs.Page.{nodes_in, page_of, cells_of}
use Rattle.steps.specs.Layout.{relaid, fresh}
use Rattle.steps.specs.Candidates.{Candidate, candidates, candidate_words, candidate_numbers, needed}
use Rattle.steps.specs.Noes.{bad_row, layout_tested, relayout_tested}
use Rattle.steps.specs.Results.{Reply, rows_out, listed, on_front, accepted, over_limit, replied, tested, layout_result, relayout_result}
use Rattle.steps.specs.declared.LayoutInput.{LayoutInput}
use Rattle.layout.specs.Public.{Replied}
use Rattle.records.specs.Records.{record_of, records_from, count_of, given_with}
use Rattle.records.specs.Results.{as_lent, within, layout_within, relayout_within, with_records, RecordsReplied, layout_records_result, relayout_records_result}
use Rattle.records.specs.declared.Record.{Record}
use Rattle.records.proofs.Few.{few_fresh, few_relaid}
use Rattle.records.proofs.Cut.{none-few}
use Rattle.records.proofs.Within.{at_most_5, layout_no_room, relayout_no_room}
use Rattle.records.proofs.Decode.{read_front}

-- the plain slices hold the records that an answer comes with, no more than k
pub record Holds (l : List Candidate) (k : ℕ) (a : Result ℕ Refusal) (cw : List ℕ) (cx : List Float) : Type 0 where
  pub fit : count_of a ≤ k
  pub read : records_from cw cx (count_of a) ≡ given_with a (map record_of l)
  pub count : length (given_with a (map record_of l)) ≡ count_of a

no_holds : (l : List Candidate) (k : ℕ) (a : Refusal) (cw : List ℕ) (cx : List Float) → Holds l k (Err a) cw cx
unfolding count_of given_with records_from
no_holds l k a cw cx = record { fit = omega arith; read = refl; count = refl }

done_holds : (l : List Candidate) (k : ℕ) (cw : List ℕ) (cx : List Float) → length l ≤ k → Holds l k (Ok (length l)) (on_front (listed candidate_words l) cw) (on_front (listed candidate_numbers l) cx)
unfolding count_of given_with
done_holds l k cw cx h = record { fit = h; read = read_front l cw cx; count = length-map l record_of }

module _ (k : ℕ) (rs : List Float) (ms cw : List ℕ) (cx : List Float) (t : Tree Row) where
  abbrev HeldBy : Reply → Type 0
  HeldBy r = Holds (candidates t) k r.answer r.words r.numbers

  found-holds : (f : Option NodeId) → length (candidates t) ≤ k → HeldBy (over_limit f t rs ms cw cx)
  unfolding over_limit accepted
  found-holds (Some i) h = no_holds (candidates t) k (TooLarge i) cw cx
  found-holds None h = done_holds (candidates t) k cw cx h

  tested-holds : (T : Result ⊤ Refusal) (n : ℕ) → length (candidates t) ≤ k → HeldBy (tested T (replied n t rs ms cw cx) rs ms cw cx)
  unfolding tested replied
  tested-holds (Ok _) n h = found-holds (lowest (bad_row (rows_out t)) n) h
  tested-holds (Err a) n h = no_holds (candidates t) k a cw cx

  within-holds : (need : ℕ) (T none : Result ⊤ Refusal) (n : ℕ) (r : Reply) → (ltb k need ≡ true → (a : Refusal) × (none ≡ Err a)) → length (candidates t) ≤ need
      → HeldBy (within k need (tested none r rs ms [] []).answer (tested T (replied n t rs ms cw cx) rs ms cw cx) rs ms cw cx)
  unfolding within tested
  within-holds need T none n r few c = go (ltb k need) refl
    where
      go : (b : Bool) → ltb k need ≡ b → HeldBy (cond b (as_lent (tested none r rs ms [] []).answer rs ms cw cx) (tested T (replied n t rs ms cw cx) rs ms cw cx))
      go true e =
          let f = few e in
          rw f.1 (no_holds (candidates t) k f.0 cw cx)
      go false e =
          let l = ltb-false k need e in
          tested-holds T n (omega (arith, l, c))

-- ---- the whole reply
replied_holds : (l : List Candidate) (k : ℕ) (r : Reply) (a : Result ℕ Refusal) (rs' : List Float) (ms' cw' : List ℕ) (cx' : List Float) → Replied r a rs' ms' cw' cx' → Holds l k r.answer r.words r.numbers → Holds l k a cw' cx'
replied_holds l k r a rs' ms' cw' cx' h g = rw (h.answer_is, h.words_are, h.numbers_are) g

stored_front : (l : List Candidate) (lent : List Record) (a : Result ℕ Refusal) (cw : List ℕ) (cx : List Float) (n : ℕ) → Holds l (length lent) a cw cx → n ≡ count_of a → records_from cw cx n ++ drop n lent ≡ on_front (given_with a (map record_of l)) lent
unfolding on_front
stored_front l lent a cw cx n g e = rw (e, g.read, g.count)

with_records_lem : (r : Reply) (l : List Candidate) (lent : List Record) (a : Result ℕ Refusal) (rs' : List Float) (ms' cw' : List ℕ) (cx' : List Float) (n : ℕ) (out : List Record)
    → Replied r a rs' ms' cw' cx' → Holds l (length lent) a cw' cx' → n ≡ count_of a → out ≡ records_from cw' cx' n ++ drop n lent → RecordsReplied (with_records r l lent) a rs' ms' cw' cx' out
unfolding with_records
with_records_lem r l lent a rs' ms' cw' cx' n out h g e o =
    record { plain_is = h; records_are = o ∙ stored_front l lent a cw' cx' n g e ∙ ap (λ (b : Result ℕ Refusal). on_front (given_with b (map record_of l)) lent) h.answer_is }

module _ (ws : List ℕ) (xs rs : List Float) (ms cw : List ℕ) (cx : List Float) (lent : List Record) (q : LayoutInput) (a : Result ℕ Refusal) (rs' : List Float) (ms' cw' : List ℕ) (cx' : List Float) where
  pub layout-holds : Replied (layout_within ws xs rs ms cw cx (length lent) q) a rs' ms' cw' cx' → Holds (candidates (fresh (page_of ws xs []) q).rows) (length lent) a cw' cx'
  unfolding layout_within layout_result
  layout-holds h =
      let d = at_most_5 ws xs rs ms q in
      let none : ltb (length lent) (needed (page_of ws xs [])) ≡ true → layout_tested ws xs rs ms [] [] q ≡ Err d.with = λ b. layout_no_room ws xs rs ms [] [] q (none-few ws xs cw cx (length lent) b) ∙ d.is in
      replied_holds _ _ _ a rs' ms' cw' cx' h
      (within-holds (length lent) rs ms cw cx (fresh (page_of ws xs []) q).rows (needed (page_of ws xs [])) (layout_tested ws xs rs ms cw cx q) (layout_tested ws xs rs ms [] [] q) (nodes_in ws) _
      (λ b. (d.with, none b)) (few_fresh ws xs q))

  pub layout-records-done : (n : ℕ) (out : List Record) → Replied (layout_within ws xs rs ms cw cx (length lent) q) a rs' ms' cw' cx' → n ≡ count_of a → out ≡ records_from cw' cx' n ++ drop n lent
      → RecordsReplied (layout_records_result ws xs rs ms cw cx lent q) a rs' ms' cw' cx' out
  unfolding layout_records_result
  layout-records-done n out h e o = with_records_lem _ _ lent a rs' ms' cw' cx' n out h (layout-holds h) e o

module _ (ws : List ℕ) (xs rs : List Float) (ms cw : List ℕ) (cx : List Float) (lent : List Record) (es : List ℕ) (q : LayoutInput) (a : Result ℕ Refusal) (rs' : List Float) (ms' cw' : List ℕ) (cx' : List Float) where
  pub relayout-holds : Replied (relayout_within ws xs rs ms cw cx (length lent) es q) a rs' ms' cw' cx' → Holds (candidates (relaid (cells_of ws xs rs ms es) q).rows) (length lent) a cw' cx'
  unfolding relayout_within relayout_result
  relayout-holds h =
      let d = at_most_5 ws xs rs ms q in
      let none : ltb (length lent) (needed (page_of ws xs [])) ≡ true → relayout_tested ws xs rs ms [] [] es q ≡ Err d.with = λ b. relayout_no_room ws xs rs ms [] [] es q (none-few ws xs cw cx (length lent) b) ∙ d.is in
      replied_holds _ _ _ a rs' ms' cw' cx' h
      (within-holds (length lent) rs ms cw cx (relaid (cells_of ws xs rs ms es) q).rows (needed (page_of ws xs [])) (relayout_tested ws xs rs ms cw cx es q) (relayout_tested ws xs rs ms [] [] es q) (nodes_in ws) _
      (λ b. (d.with, none b)) (few_relaid ws xs rs ms es q))

  pub relayout-records-done : (n : ℕ) (out : List Record) → Replied (relayout_within ws xs rs ms cw cx (length lent) es q) a rs' ms' cw' cx' → n ≡ count_of a → out ≡ records_from cw' cx' n ++ drop n lent
      → RecordsReplied (relayout_records_result ws xs rs ms cw cx lent es q) a rs' ms' cw' cx' out
  unfolding relayout_records_result
  relayout-records-done n out h e o = with_records_lem _ _ lent a rs' ms' cw' cx' n out h (relayout-holds h) e o
