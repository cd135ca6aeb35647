-- Two panels over one node table: what one event of one of them answers and leaves, and events one after the other.
use Rattle.steps.specs.declared.Refusal.{Refusal}
use Rattle.std.specs.Prelude.{◌≡◌, Bool, true, false, cond, ◌||◌, List, [], ◌∷◌, ℕ, Float, Result}
use Rattle.steps.specs.Noes.{paper}
use Rattle.steps.specs.declared.Question.{Question}
use Rattle.sheet.specs.Sheet.{Sheet, sheet, number_edit, word_edit}
use Rattle.day.specs.Day.{Day, Outcome, day, event_result}
use Rattle.day.specs.declared.Event.{Event}
use Rattle.day.specs.declared.Event.TheVariants as event
use Rattle.panels.specs.declared.PanelTurn.{PanelTurn}

-- ---- one event

-- what the other panel sees of an event: an edit of the table enters its list
unfoldable pub seen : Event → Sheet → Sheet
seen (event.Number x) o = number_edit x o
seen (event.Word x) o = word_edit x o
seen (event.Ask a) o = o
seen event.Relayout o = o
seen event.Layout o = o

-- the day of the event's panel after it, and the table with the other's list
pub record Both : Type 0 where
  pub own : Outcome
  pub other : Sheet

-- one event: of its own panel's day, and of the table with the other's list
unfoldable pub panel_result : Event → Day → Sheet → Both
panel_result e d o = record { own = event_result e d; other = seen e o }

-- a list and how many edits it holds
abbrev pub listed : Sheet → List ℕ × ℕ
listed s = (s.list, s.count)

-- what a call leaves in lent memory
abbrev pub panel_left : PanelTurn → List ℕ → List Float → List Float → List ℕ → List ℕ → List Float → List ℕ → List ℕ → Both
panel_left t ws xs rs ms cw cx l o = record { own = record { answer = t.answer; after = day t.state ws xs rs ms cw cx l }; other = sheet ws xs o t.other }

-- what the call promises: the answer, by its number and place too, and all that it leaves are the definition's
pub record PanelReplied (want : Both) (t : PanelTurn) (ws : List ℕ) (xs rs : List Float) (ms cw : List ℕ) (cx : List Float) (l o : List ℕ) : Type 0 where
  pub left_is : panel_left t ws xs rs ms cw cx l o ≡ want
  pub paper_is : paper t.answer ≡ paper want.own.answer

-- ---- two panels

-- the two; which is called what does not matter
pub data Which : Type 0 where
  hall : Which
  kitchen : Which

unfoldable pub other : Which → Which
other hall = kitchen
other kitchen = hall

-- what is a panel's own: its question, its list of edits, and what its last calls left
pub record Panel : Type 0 where
  pub question : Question
  pub list : List ℕ
  pub count : ℕ
  pub rows : List Float
  pub marks : List ℕ
  pub pairs : List ℕ
  pub triples : List Float

-- one node table, and two panels
pub record Panels : Type 0 where
  pub words : List ℕ
  pub numbers : List Float
  pub in_hall : Panel
  pub in_kitchen : Panel

unfoldable pub panel_of : Which → Panels → Panel
panel_of hall s = s.in_hall
panel_of kitchen s = s.in_kitchen

-- the day of a display: the table, and what is a panel's own
abbrev pub day_of : List ℕ → List Float → Panel → Day
day_of ws xs p = record { page = sheet ws xs p.list p.count; question = p.question; rows = p.rows; marks = p.marks; pairs = p.pairs; triples = p.triples }

-- a panel as it stands
unfoldable pub view : Which → Panels → Day
view w s = day_of s.words s.numbers (panel_of w s)

-- a day without its table
abbrev pub own_of : Day → Panel
own_of d = record { question = d.question; list = d.page.list; count = d.page.count; rows = d.rows; marks = d.marks; pairs = d.pairs; triples = d.triples }

-- a panel with another list, all else as it was
abbrev pub with_list : Panel → Sheet → Panel
with_list p o = record { question = p.question; list = o.list; count = o.count; rows = p.rows; marks = p.marks; pairs = p.pairs; triples = p.triples }

-- both panels: the one that is named, then the other
unfoldable pub together : Which → Sheet → Panel → Panel → Panels
together hall t p o = record { words = t.words; numbers = t.numbers; in_hall = p; in_kitchen = o }
together kitchen t p o = record { words = t.words; numbers = t.numbers; in_hall = o; in_kitchen = p }

-- an event and the panel it is of; an edit of the table may be of either
pub record PanelEvent : Type 0 where
  pub panel : Which
  pub event : Event

abbrev pub of : Which → Event → PanelEvent
of w e = record { panel = w; event = e }

-- the event of one panel, with the list of the other
unfoldable pub both_of : PanelEvent → Panels → Both
both_of t s = panel_result t.event (view t.panel s) (view (other t.panel) s).page

-- both panels after one event
unfoldable pub panels_next : PanelEvent → Panels → Panels
panels_next t s = together t.panel (both_of t s).own.after.page (own_of (both_of t s).own.after) (with_list (panel_of (other t.panel) s) (both_of t s).other)

-- both panels after some events
unfoldable pub panels_after : List PanelEvent → Panels → Panels
panels_after [] s = s
panels_after (t ∷ ts) s = panels_after ts (panels_next t s)

-- ---- what a panel hears: its own events, and every edit of the table

-- a number or a word of a node
unfoldable pub table_edit : Event → Bool
table_edit (event.Number x) = true
table_edit (event.Word x) = true
table_edit (event.Ask a) = false
table_edit event.Relayout = false
table_edit event.Layout = false

-- one and the same panel
unfoldable pub same : Which → Which → Bool
same hall hall = true
same hall kitchen = false
same kitchen hall = false
same kitchen kitchen = true

-- does a panel hear of an event?
unfoldable pub heard : Which → PanelEvent → Bool
heard w t = same w t.panel || table_edit t.event

-- of all events those that it hears of
unfoldable pub own : Which → List PanelEvent → List Event
own w [] = []
own w (t ∷ ts) = cond (heard w t) (t.event ∷ own w ts) (own w ts)

-- the answers of these events
unfoldable pub answers_to : Which → List PanelEvent → Panels → List (Result ℕ Refusal)
answers_to w [] s = []
answers_to w (t ∷ ts) s = cond (heard w t) ((both_of t s).own.answer ∷ answers_to w ts (panels_next t s)) (answers_to w ts (panels_next t s))
