-- The whole result of a layout and of a relayout over records, for any lent input.
use Rattle.steps.specs.declared.Refusal.{Refusal}
use Rattle.std.specs.Prelude.{◌≡◌, cond, List, [], map, ℕ, length, ltb, Float, Result}
use Rattle.steps.specs.Page.{page_of, cells_of}
use Rattle.steps.specs.Layout.{relaid, fresh}
use Rattle.steps.specs.Candidates.{Candidate, candidates, needed}
use Rattle.steps.specs.Results.{Reply, on_front, layout_result, relayout_result}
use Rattle.steps.specs.declared.LayoutInput.{LayoutInput}
use Rattle.layout.specs.Public.{Replied}
use Rattle.records.specs.Records.{record_of, given_with}
use Rattle.records.specs.declared.Record.{Record}

-- the plain reply, and the lent records at exit
pub record RecordsReply : Type 0 where
  pub plain : Reply
  pub records : List Record

-- an answer with memory as it came
abbrev pub as_lent : Result ℕ Refusal → List Float → List ℕ → List ℕ → List Float → Reply
as_lent a rs ms cw cx = record { answer = a; rows = rs; marks = ms; words = cw; numbers = cx }

-- the plain reply of a call that is lent k records too: with fewer than needed, the answer that no room at all gives, which is 5 or an earlier no, and all as lent
unfoldable pub within : ℕ → ℕ → Result ℕ Refusal → Reply → List Float → List ℕ → List ℕ → List Float → Reply
within k need noRoom r rs ms cw cx = cond (ltb k need) (as_lent noRoom rs ms cw cx) r

-- the plain reply of a layout that is lent k records too
unfoldable pub layout_within : List ℕ → List Float → List Float → List ℕ → List ℕ → List Float → ℕ → LayoutInput → Reply
layout_within ws xs rs ms cw cx k q =
    within k (needed (page_of ws xs [])) (layout_result ws xs rs ms [] [] q).answer (layout_result ws xs rs ms cw cx q) rs ms cw cx

-- and of a relayout
unfoldable pub relayout_within : List ℕ → List Float → List Float → List ℕ → List ℕ → List Float → ℕ → List ℕ → LayoutInput → Reply
relayout_within ws xs rs ms cw cx k es q =
    within k (needed (page_of ws xs [])) (relayout_result ws xs rs ms [] [] es q).answer (relayout_result ws xs rs ms cw cx es q) rs ms cw cx

-- the records of a list at the front of what was lent, if the answer is 0; else all as lent
unfoldable pub with_records : Reply → List Candidate → List Record → RecordsReply
with_records r l lent = record { plain = r; records = on_front (given_with r.answer (map record_of l)) lent }

-- layout: the arguments of `layout_result`, and the lent records before the question
unfoldable pub layout_records_result : List ℕ → List Float → List Float → List ℕ → List ℕ → List Float → List Record → LayoutInput → RecordsReply
layout_records_result ws xs rs ms cw cx lent q =
    with_records (layout_within ws xs rs ms cw cx (length lent) q) (candidates (fresh (page_of ws xs []) q).rows) lent

-- relayout: the same with the edit list, from the rows as lent
unfoldable pub relayout_records_result : List ℕ → List Float → List Float → List ℕ → List ℕ → List Float → List Record → List ℕ → LayoutInput → RecordsReply
relayout_records_result ws xs rs ms cw cx lent es q =
    with_records (relayout_within ws xs rs ms cw cx (length lent) es q) (candidates (relaid (cells_of ws xs rs ms es) q).rows) lent

-- what the public calls promise: the answer and every word of lent memory are the definition's
pub record RecordsReplied (want : RecordsReply) (answer : Result ℕ Refusal) (rows : List Float) (marks : List ℕ) (pairs : List ℕ) (triples : List Float) (records : List Record) : Type 0 where
  pub plain_is : Replied want.plain answer rows marks pairs triples
  pub records_are : records ≡ want.records
