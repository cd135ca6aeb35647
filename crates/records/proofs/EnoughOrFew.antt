-- What the number of lent records settles. With as many as the page needs, a call over records is the plain call, and its candidates stand at the front of the records:
--     layout-enough, layout-listed        relayout-enough, relayout-listed        layout_as_plain and relayout_as_plain say it of what the calls promise
-- With fewer it is refused, by the first of 1 to 4 that is due and else by 5, and all is as lent:
--     layout-few        relayout-few        room_due: where none of 1 to 4 is due it is 5
use Rattle.std.specs.Prelude.{Result, Ok, Err, ⊤}
use Rattle.steps.specs.declared.Refusal.TheVariants.{Lengths, Room}
use Rattle.steps.specs.declared.Refusal.{Refusal}
use mathlib.Core.Path.{◌≡◌, refl, sym, ap, ◌∙◌}
use mathlib.Core.Bool.{◌||◌}
use mathlib.Core.List.{List, [], ◌++◌, map}
use Prim.Native.Nat.{ℕ, ◌<◌, ◌≤◌}
use lib.ListN.{length, drop, length-map}
use lib.Ieee.{Float}
use borrow.Author.Tests.{lt-ltb, le-ltb}
use Rattle.steps.specs.Page.{page_of, cells_of}
use Rattle.steps.specs.Layout.{relaid, fresh}
use Rattle.steps.specs.Candidates.{Candidate, candidates, needed}
use Rattle.steps.specs.Noes.{paper, refusal_paper, bad_tables, bad_rows, refuse_if, and_then, page_tested}
use Rattle.steps.specs.Results.{Reply, on_front, tested, layout_result, relayout_result}
use Rattle.steps.specs.declared.LayoutInput.{LayoutInput}
use Rattle.layout.specs.Public.{Replied}
use Rattle.records.specs.Records.{record_of, count_of, given_with}
use Rattle.records.specs.Results.{RecordsReply, RecordsReplied, as_lent, within, layout_within, relayout_within, with_records, layout_records_result, relayout_records_result}
use Rattle.records.specs.declared.Record.{Record}
use Rattle.records.proofs.Cut.{none-few}
use Rattle.records.proofs.Within.{at_most5, at_most_5, layout_no_room, relayout_no_room}
use Rattle.records.proofs.Finish.{Holds, layout-holds, relayout-holds}

-- a reply is what it says
itself : (r : Reply) → Replied r r.answer r.rows r.marks r.words r.numbers
itself r = record { answer_is = refl; paper_is = refl; rows_are = refl; marks_are = refl; words_are = refl; numbers_are = refl }

within_enough : (k need : ℕ) (a : Result ℕ Refusal) (r : Reply) (rs : List Float) (ms cw : List ℕ) (cx : List Float) → need ≤ k → within k need a r rs ms cw cx ≡ r
unfolding within
within_enough k need a r rs ms cw cx h = rw (le-ltb k need h)

within_few : (k need : ℕ) (a : Result ℕ Refusal) (r : Reply) (rs : List Float) (ms cw : List ℕ) (cx : List Float) → k < need → within k need a r rs ms cw cx ≡ as_lent a rs ms cw cx
unfolding within
within_few k need a r rs ms cw cx h = rw (lt-ltb k need h)

-- an accepted reply: the count, and the list at the front
listed_at : (r : Reply) (l : List Candidate) (lent : List Record) (n : ℕ) → r.answer ≡ Ok n → Holds l (length lent) r.answer r.words r.numbers → (n ≡ length l) × ((with_records r l lent).records ≡ map record_of l ++ drop n lent)
unfolding with_records on_front given_with count_of
listed_at r l lent n e h =
    let c : length (map record_of l) ≡ n = rw e at h.count in
    let m : n ≡ length l = sym c ∙ length-map l record_of in
    (m, rw (e, c))

-- a refused one: all as lent
refused_at : (r : Reply) (l : List Candidate) (lent : List Record) (a : Refusal) (rs : List Float) (ms cw : List ℕ) (cx : List Float) → r ≡ as_lent (Err a) rs ms cw cx → with_records r l lent ≡ record { plain = as_lent (Err a) rs ms cw cx; records = lent }
unfolding with_records on_front given_with
refused_at r l lent a rs ms cw cx e = rw e

answer_of_lem : (t : Result ⊤ Refusal) (a : Refusal) (r : Reply) (rs : List Float) (ms cw : List ℕ) (cx : List Float) → t ≡ Err a → (tested t r rs ms cw cx).answer ≡ Err a
unfolding tested
answer_of_lem t a r rs ms cw cx e = rw e

-- the first of 1 to 4 that is due, else 5; and all as lent
pub record Scarce (ws : List ℕ) (xs rs : List Float) (ms cw : List ℕ) (cx : List Float) (lent : List Record) (q : LayoutInput) (r : RecordsReply) : Type 0 where
  pub answer : Refusal
  pub first_due : at_most5 ws xs rs ms q ≡ Err answer
  pub is_as_lent : r ≡ record { plain = as_lent (Err answer) rs ms cw cx; records = lent }

-- what is refused, and Room where nothing is
abbrev answer_in : Result ⊤ Refusal → Refusal
answer_in (Ok _) = Room
answer_in (Err a) = a

pub room_due : (ws : List ℕ) (xs rs : List Float) (ms cw : List ℕ) (cx : List Float) (lent : List Record) (q : LayoutInput) (r : RecordsReply) (s : Scarce ws xs rs ms cw cx lent q r)
    → refuse_if (bad_tables ws xs || bad_rows ws rs ms) Lengths ≡ Ok tt → page_tested ws xs q ≡ Ok tt → s.answer ≡ Room
unfolding and_then
room_due ws xs rs ms cw cx lent q r s e f = sym (ap answer_in s.first_due) ∙ rw (e, f)

-- ---- layout
module _ (ws : List ℕ) (xs rs : List Float) (ms cw : List ℕ) (cx : List Float) (lent : List Record) (q : LayoutInput) where
  layout-plain : needed (page_of ws xs []) ≤ length lent → layout_within ws xs rs ms cw cx (length lent) q ≡ layout_result ws xs rs ms cw cx q
  unfolding layout_within
  layout-plain h = within_enough (length lent) (needed (page_of ws xs [])) _ _ rs ms cw cx h

  pub layout-enough : needed (page_of ws xs []) ≤ length lent → (layout_records_result ws xs rs ms cw cx lent q).plain ≡ layout_result ws xs rs ms cw cx q
  unfolding layout_records_result with_records
  layout-enough h = layout-plain h

  pub layout_as_plain : (a : Result ℕ Refusal) (rs' : List Float) (ms' cw' : List ℕ) (cx' : List Float) (out : List Record) → RecordsReplied (layout_records_result ws xs rs ms cw cx lent q) a rs' ms' cw' cx' out → needed (page_of ws xs []) ≤ length lent
      → Replied (layout_result ws xs rs ms cw cx q) a rs' ms' cw' cx'
  layout_as_plain a rs' ms' cw' cx' out call h = rw (layout-enough h) at call.plain_is

  pub layout-listed : needed (page_of ws xs []) ≤ length lent → (n : ℕ) → (layout_result ws xs rs ms cw cx q).answer ≡ Ok n
      → (n ≡ length (candidates (fresh (page_of ws xs []) q).rows)) × ((layout_records_result ws xs rs ms cw cx lent q).records ≡ map record_of (candidates (fresh (page_of ws xs []) q).rows) ++ drop n lent)
  unfolding layout_records_result
  layout-listed h n e = listed_at _ _ lent n (ap (λ (r : Reply). r.answer) (layout-plain h) ∙ e) (layout-holds ws xs rs ms cw cx lent q _ _ _ _ _ (itself _))

  pub layout-few : length lent < needed (page_of ws xs []) → Scarce ws xs rs ms cw cx lent q (layout_records_result ws xs rs ms cw cx lent q)
  unfolding layout_records_result layout_within layout_result
  layout-few h =
      let d = at_most_5 ws xs rs ms q in
      let t = layout_no_room ws xs rs ms [] [] q (none-few ws xs cw cx (length lent) (lt-ltb _ _ h)) ∙ d.is in
      let a = ap (λ (b : Result ℕ Refusal). as_lent b rs ms cw cx) (answer_of_lem _ _ _ rs ms [] [] t) in
      record {
        answer = d.with;
        first_due = d.is;
        is_as_lent = refused_at _ _ lent d.with rs ms cw cx (within_few (length lent) _ _ _ rs ms cw cx h ∙ a);
      }

-- ---- relayout
module _ (ws : List ℕ) (xs rs : List Float) (ms cw : List ℕ) (cx : List Float) (lent : List Record) (es : List ℕ) (q : LayoutInput) where
  relayout-plain : needed (page_of ws xs []) ≤ length lent → relayout_within ws xs rs ms cw cx (length lent) es q ≡ relayout_result ws xs rs ms cw cx es q
  unfolding relayout_within
  relayout-plain h = within_enough (length lent) (needed (page_of ws xs [])) _ _ rs ms cw cx h

  pub relayout-enough : needed (page_of ws xs []) ≤ length lent → (relayout_records_result ws xs rs ms cw cx lent es q).plain ≡ relayout_result ws xs rs ms cw cx es q
  unfolding relayout_records_result with_records
  relayout-enough h = relayout-plain h

  pub relayout_as_plain : (a : Result ℕ Refusal) (rs' : List Float) (ms' cw' : List ℕ) (cx' : List Float) (out : List Record) → RecordsReplied (relayout_records_result ws xs rs ms cw cx lent es q) a rs' ms' cw' cx' out → needed (page_of ws xs []) ≤ length lent
      → Replied (relayout_result ws xs rs ms cw cx es q) a rs' ms' cw' cx'
  relayout_as_plain a rs' ms' cw' cx' out call h = rw (relayout-enough h) at call.plain_is

  pub relayout-listed : needed (page_of ws xs []) ≤ length lent → (n : ℕ) → (relayout_result ws xs rs ms cw cx es q).answer ≡ Ok n
      → (n ≡ length (candidates (relaid (cells_of ws xs rs ms es) q).rows)) × ((relayout_records_result ws xs rs ms cw cx lent es q).records ≡ map record_of (candidates (relaid (cells_of ws xs rs ms es) q).rows) ++ drop n lent)
  unfolding relayout_records_result
  relayout-listed h n e = listed_at _ _ lent n (ap (λ (r : Reply). r.answer) (relayout-plain h) ∙ e) (relayout-holds ws xs rs ms cw cx lent es q _ _ _ _ _ (itself _))

  pub relayout-few : length lent < needed (page_of ws xs []) → Scarce ws xs rs ms cw cx lent q (relayout_records_result ws xs rs ms cw cx lent es q)
  unfolding relayout_records_result relayout_within relayout_result
  relayout-few h =
      let d = at_most_5 ws xs rs ms q in
      let t = relayout_no_room ws xs rs ms [] [] es q (none-few ws xs cw cx (length lent) (lt-ltb _ _ h)) ∙ d.is in
      let a = ap (λ (b : Result ℕ Refusal). as_lent b rs ms cw cx) (answer_of_lem _ _ _ rs ms [] [] t) in
      record {
        answer = d.with;
        first_due = d.is;
        is_as_lent = refused_at _ _ lent d.with rs ms cw cx (within_few (length lent) _ _ _ rs ms cw cx h ∙ a);
      }
