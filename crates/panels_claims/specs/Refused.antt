-- A table that fails 1 to 4 is refused to both panels, with one number and place, until it is mended. 4 at place n is a panel's own.
use Rattle.steps.specs.declared.Refusal.TheVariants.{Lengths, Numbers}
use Rattle.steps.specs.declared.Refusal.{Refusal}
use Rattle.std.specs.Prelude.{◌≡◌, refl, Bool, true, false, ◌||◌, List, [], ◌∷◌, ℕ, ◌*◌, length, Float, Result, Ok, Err, ⊤}
use Rattle.std.proofs.Common.{◌∙◌, true≢false, eq-eqb}
use Rattle.limits.specs.Bools.{or_left, or_right}
use Rattle.steps.specs.Scan.{lowest}
use Rattle.steps.specs.Page.{nodes_in}
use Rattle.steps.specs.Noes.{refuse_if, and_then, at_fault, bad_tables, bad_rows, bad_numbers, bad_question, no2, no3, no4, no5, page_tested, layout_tested}
use Rattle.steps.specs.Results.{Reply}
use Rattle.steps.specs.declared.LayoutInput.{LayoutInput}
use Rattle.day.specs.Day.{Day, edit_event, call_event, event_result}
use Rattle.day.specs.declared.Event.{Event}
use Rattle.day.specs.declared.Event.TheVariants as event
use Rattle.panels.specs.Panels.{Which, hall, kitchen, Panels, view, together, PanelEvent, of, panel_result, both_of, panels_next, panels_after, table_edit}
use Rattle.panels.specs.Alone.{table}

-- 1 to 4 by the node table alone
unfoldable pub table_tested : List ℕ → List Float → Result ⊤ Refusal
table_tested ws xs = and_then (refuse_if (bad_tables ws xs) Lengths) (and_then (no2 ws) (and_then (no3 ws xs) (at_fault Numbers (lowest (bad_numbers ws xs) (nodes_in ws)))))

regroup : (x y z u v w : Result ⊤ Refusal) → and_then x (and_then (and_then y (and_then z (and_then u v))) w) ≡ and_then (and_then x (and_then y (and_then z u))) (and_then v w)
unfolding and_then
regroup (Err a) y z u v w = refl
regroup (Ok _) (Err a) z u v w = refl
regroup (Ok _) (Ok _) (Err a) u v w = refl
regroup (Ok _) (Ok _) (Ok _) (Err a) v w = refl
regroup (Ok _) (Ok _) (Ok _) (Ok _) v w = refl

or_false : (b c : Bool) → c ≡ false → b || c ≡ b
or_false true c e = refl
or_false false c e = e

fitting : (ws : List ℕ) (rs : List Float) (ms : List ℕ) → length rs ≡ 16 * nodes_in ws → length ms ≡ 2 * nodes_in ws → bad_rows ws rs ms ≡ false
unfolding bad_rows
fitting ws rs ms lr lm = rw (eq-eqb (length rs) (16 * nodes_in ws) lr, eq-eqb (length ms) (2 * nodes_in ws) lm)

-- The tests of a layout whose rows fit: those of the table, then the panel's own question, then its own room.
pub tests_in_order : (ws : List ℕ) (xs rs : List Float) (ms cw : List ℕ) (cx : List Float) (q : LayoutInput) → length rs ≡ 16 * nodes_in ws → length ms ≡ 2 * nodes_in ws
    → layout_tested ws xs rs ms cw cx q ≡ and_then (table_tested ws xs) (and_then (refuse_if (bad_question q) (Numbers (nodes_in ws))) (no5 ws xs cw cx))
unfolding layout_tested page_tested no4 table_tested
tests_in_order ws xs rs ms cw cx q lr lm =
    rw (or_false (bad_tables ws xs) (bad_rows ws rs ms) (fitting ws rs ms lr lm))
    (regroup (refuse_if (bad_tables ws xs) Lengths) (no2 ws) (no3 ws xs) (at_fault Numbers (lowest (bad_numbers ws xs) (nodes_in ws))) (refuse_if (bad_question q) (Numbers (nodes_in ws))) (no5 ws xs cw cx))

-- a call that these tests refuse: the answer is theirs, and all stays as lent
abbrev pub AsLent : Refusal → Day → Reply
AsLent a d = record { answer = Err a; rows = d.rows; marks = d.marks; words = d.pairs; numbers = d.triples }

pub table_first : (a : Refusal) (x y : Result ⊤ Refusal) → x ≡ Err a → and_then x y ≡ Err a
unfolding and_then
table_first a x y e = rw e

pub question_first : (a : Refusal) (x : Result ⊤ Refusal) (b : Bool) → x ≡ Ok tt → b ≡ true → and_then x (refuse_if b a) ≡ Err a
unfolding and_then
question_first a x b e h = rw (e, h)

-- ---- both panels

-- a layout or a relayout
unfoldable pub is_call : Event → Bool
is_call (event.Number x) = false
is_call (event.Word x) = false
is_call (event.Ask a) = false
is_call event.Relayout = true
is_call event.Layout = true

-- the answer of one more event
abbrev pub answer_of : Which → Event → Panels → Result ℕ Refusal
answer_of w e s = (both_of (of w e) s).own.answer

-- ---- until it is mended

-- is there an edit of the table among these events?
unfoldable pub edit_in : List PanelEvent → Bool
edit_in [] = false
edit_in (t ∷ ts) = table_edit t.event || edit_in ts

event_table : (e : Event) (d : Day) → table_edit e ≡ false → table (event_result e d).after.page ≡ table d.page
unfolding table_edit event_result edit_event call_event
event_table (event.Number x) d n = absurd (true≢false n)
event_table (event.Word x) d n = absurd (true≢false n)
event_table (event.Ask a) d n = refl
event_table event.Relayout d n = refl
event_table event.Layout d n = refl

abbrev pub both_table : Panels → List ℕ × List Float
both_table s = (s.words, s.numbers)

next_table : (v : Which) (e : Event) (s : Panels) → table_edit e ≡ false → both_table (panels_next (of v e) s) ≡ both_table s
unfolding panels_next together both_of panel_result view
next_table hall e s n = event_table e (view hall s) n
next_table kitchen e s n = event_table e (view kitchen s) n

pub table_stays : (ts : List PanelEvent) (s : Panels) → edit_in ts ≡ false → both_table (panels_after ts s) ≡ both_table s
unfolding panels_after edit_in
table_stays [] s n = refl
table_stays (t ∷ ts) s n = table_stays ts (panels_next t s) (or_right (table_edit t.event) (edit_in ts) n) ∙ next_table t.panel t.event s (or_left (table_edit t.event) (edit_in ts) n)
