-- A day of a display: what one event answers and leaves, and a trace of events one after the other.
use Rattle.steps.specs.declared.Refusal.{Refusal}
use Rattle.geometry.specs.declared.Size.{Size}
use Rattle.std.specs.Prelude.{◌≡◌, Bool, cond, List, [], ◌∷◌, ℕ, take, eqb, Float, Option, Result, Ok, Err}
use Rattle.length.specs.declared.AvailableSpace.{AvailableSpace}
use Rattle.steps.specs.Noes.{paper}
use Rattle.steps.specs.Question.{root_input}
use Rattle.steps.specs.Results.{Reply, layout_result, relayout_result}
use Rattle.steps.specs.declared.Question.{Question}
use Rattle.sheet.specs.Sheet.{Sheet, sheet, number_edit, word_edit}
use Rattle.day.specs.declared.Ask.{Ask}
use Rattle.day.specs.declared.Ask.TheVariants.{Width, Height, Parent, Available}
use Rattle.day.specs.declared.Event.{Event}
use Rattle.day.specs.declared.Event.TheVariants as event
use Rattle.day.specs.declared.State.{State}
use Rattle.day.specs.declared.Turn.{Turn}

-- all that a replay holds: the page with its list, the question, and what the last calls left
pub record Day : Type 0 where
  pub page : Sheet
  pub question : Question
  pub rows : List Float
  pub marks : List ℕ
  pub pairs : List ℕ
  pub triples : List Float

-- what an event answers, and the day after it
pub record Outcome : Type 0 where
  pub answer : Result ℕ Refusal
  pub after : Day

-- lent memory as a day, and what a call leaves there
abbrev pub day : State → List ℕ → List Float → List Float → List ℕ → List ℕ → List Float → List ℕ → Day
day s ws xs rs ms cw cx l = record { page = sheet ws xs l s.count; question = s.question; rows = rs; marks = ms; pairs = cw; triples = cx }

abbrev pub left : Turn → List ℕ → List Float → List Float → List ℕ → List ℕ → List Float → List ℕ → Outcome
left t ws xs rs ms cw cx l = record { answer = t.answer; after = day t.state ws xs rs ms cw cx l }

-- the question with other numbers and the same flags
unfoldable pub with_numbers : Question → Size (Option Float) → Float → AvailableSpace → Question
with_numbers q k p a =
    record {
      known = k;
      parent = p;
      definiteHeight = q.definiteHeight;
      available = a;
      collapseStart = q.collapseStart;
      collapseEnd = q.collapseEnd;
    }

-- one number of the question anew
unfoldable pub asked : Ask → Question → Question
asked (Width w) q = with_numbers q (record { width = w; height = q.known.height }) q.parent q.available
asked (Height h) q = with_numbers q (record { width = q.known.width; height = h }) q.parent q.available
asked (Parent p) q = with_numbers q q.known p q.available
asked (Available a) q = with_numbers q q.known q.parent a

-- an edit answers 0
abbrev pub done_turn : Question → ℕ → Turn
done_turn q c = record { answer = Ok 0; state = record { question = q; count = c } }

unfoldable pub edit_event : Sheet → Question → Day → Outcome
edit_event s q d = record { answer = Ok 0; after = record { page = s; question = q; rows = d.rows; marks = d.marks; pairs = d.pairs; triples = d.triples } }

-- an accepted call empties the list, a refused one leaves it
unfoldable pub count_after : Result ℕ Refusal → ℕ → ℕ
count_after (Ok n) c = 0
count_after (Err a) c = c

-- a layout or a relayout: its answer, and what it leaves in lent memory
unfoldable pub call_event : Reply → Day → Outcome
call_event r d =
    record {
      answer = r.answer;
      after =
          record {
            page = sheet d.page.words d.page.numbers d.page.list (count_after r.answer d.page.count);
            question = d.question;
            rows = r.rows;
            marks = r.marks;
            pairs = r.words;
            triples = r.numbers;
          };
    }

-- the edits that a relayout is given
abbrev pub edits_of : Sheet → List ℕ
edits_of s = take s.count s.list

abbrev pub layout_of : Day → Reply
layout_of d = layout_result d.page.words d.page.numbers d.rows d.marks d.pairs d.triples (root_input d.question)

abbrev pub relayout_of : Day → Reply
relayout_of d = relayout_result d.page.words d.page.numbers d.rows d.marks d.pairs d.triples (edits_of d.page) (root_input d.question)

abbrev pub layout_event : Day → Outcome
layout_event d = call_event (layout_of d) d

abbrev pub relayout_event : Day → Outcome
relayout_event d = call_event (relayout_of d) d

-- one event
unfoldable pub event_result : Event → Day → Outcome
event_result (event.Number x) d = edit_event (number_edit x d.page) d.question d
event_result (event.Word x) d = edit_event (word_edit x d.page) d.question d
event_result (event.Ask a) d = edit_event d.page (asked a d.question) d
event_result event.Relayout d = relayout_event d
event_result event.Layout d = layout_event d

-- what one event promises: its answer, by its number and place too, and all that it leaves are the definition's
pub record EventReplied (want : Outcome) (t : Turn) (ws : List ℕ) (xs rs : List Float) (ms cw : List ℕ) (cx : List Float) (l : List ℕ) : Type 0 where
  pub left_is : left t ws xs rs ms cw cx l ≡ want
  pub paper_is : paper t.answer ≡ paper want.answer

-- the day after some events
unfoldable pub day_after : List Event → Day → Day
day_after [] d = d
day_after (e ∷ es) d = day_after es (event_result e d).after

-- the answer of each event
unfoldable pub answers_of : List Event → Day → List (Result ℕ Refusal)
answers_of [] d = []
answers_of (e ∷ es) d = (event_result e d).answer ∷ answers_of es (event_result e d).after
