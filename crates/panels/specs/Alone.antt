-- In any interleaving each panel answers and stands as the replay of its own events and of all edits of the table alone.
use Rattle.steps.specs.declared.Refusal.{Refusal}
use Rattle.std.specs.Prelude.{◌≡◌, Bool, cond, List, ◌∷◌, ℕ, Float, Result}
use Rattle.std.proofs.Math.Path.{refl, ap}
use Rattle.std.proofs.Common.{sym, true≢false}
use Rattle.std.proofs.Math.Bool.{true, false}
use Rattle.sheet.specs.Sheet.{Sheet, sheet, has_number, has_word, edit_of, number_edit, word_edit}
use Rattle.day.specs.Day.{Day, edit_event, call_event, event_result, day_after, answers_of}
use Rattle.sheet.specs.declared.NodeNumber.{NodeNumber}
use Rattle.sheet.specs.declared.NodeWord.{NodeWord}
use Rattle.day.specs.declared.Event.{Event}
use Rattle.day.specs.declared.Event.TheVariants as event
use Rattle.panels.specs.Panels.{seen, panel_result, Which, hall, kitchen, other, Panels, panel_of, view, with_list, together, of, both_of, panels_next, table_edit, same, heard}

abbrev pub table : Sheet → List ℕ × List Float
table s = (s.words, s.numbers)

-- an edit leaves one table, whichever list stands beside it
module _ (ws : List ℕ) (xs : List Float) (l k : List ℕ) (c m : ℕ) where
  number_by : (x : NodeNumber) (b : Bool) → has_number x (sheet ws xs l c) ≡ b → table (number_edit x (sheet ws xs l c)) ≡ table (number_edit x (sheet ws xs k m))
  unfolding number_edit has_number edit_of
  number_by x true e = rw e
  number_by x false e = rw e

  word-by : (x : NodeWord) (b : Bool) → has_word x (sheet ws xs l c) ≡ b → table (word_edit x (sheet ws xs l c)) ≡ table (word_edit x (sheet ws xs k m))
  unfolding word_edit has_word edit_of
  word-by x true e = rw e
  word-by x false e = rw e

-- the table that an event leaves is the one that the other panel sees
pub one_table : (e : Event) (d : Day) (l : List ℕ) (c : ℕ) → table (seen e (sheet d.page.words d.page.numbers l c)) ≡ table (event_result e d).after.page
unfolding seen event_result edit_event call_event
one_table (event.Number x) d l c = number_by d.page.words d.page.numbers l d.page.list c d.page.count x (has_number x (sheet d.page.words d.page.numbers l c)) refl
one_table (event.Word x) d l c = word-by d.page.words d.page.numbers l d.page.list c d.page.count x (has_word x (sheet d.page.words d.page.numbers l c)) refl
one_table (event.Ask a) d l c = refl
one_table event.Relayout d l c = refl
one_table event.Layout d l c = refl

pub next_answer : (w v : Which) (e : Event) (s : Panels) → heard w (of v e) ≡ true → (both_of (of v e) s).own.answer ≡ (event_result e (view w s)).answer
unfolding view both_of panel_result heard same table_edit panel_of other event_result edit_event
next_answer hall hall e s h = refl
next_answer hall kitchen (event.Number x) s h = refl
next_answer hall kitchen (event.Word x) s h = refl
next_answer hall kitchen (event.Ask a) s h = absurd (true≢false (sym h))
next_answer hall kitchen event.Relayout s h = absurd (true≢false (sym h))
next_answer hall kitchen event.Layout s h = absurd (true≢false (sym h))
next_answer kitchen hall (event.Number x) s h = refl
next_answer kitchen hall (event.Word x) s h = refl
next_answer kitchen hall (event.Ask a) s h = absurd (true≢false (sym h))
next_answer kitchen hall event.Relayout s h = absurd (true≢false (sym h))
next_answer kitchen hall event.Layout s h = absurd (true≢false (sym h))
next_answer kitchen kitchen e s h = refl

pub after_by : (b : Bool) (e : Event) (es : List Event) (d d' : Day) → d' ≡ cond b (event_result e d).after d → day_after es d' ≡ day_after (cond b (e ∷ es) es) d
unfolding day_after
after_by true e es d d' h = ap (day_after es) h
after_by false e es d d' h = ap (day_after es) h

pub answers_by : (b : Bool) (e : Event) (es : List Event) (d d' : Day) (a : Result ℕ Refusal) → d' ≡ cond b (event_result e d).after d → (b ≡ true → a ≡ (event_result e d).answer) → cond b (a ∷ answers_of es d') (answers_of es d') ≡ answers_of (cond b (e ∷ es) es) d
unfolding answers_of
answers_by true e es d d' a h g = rw (h, g refl)
answers_by false e es d d' a h g = rw h

-- both panels with an edit in their lists
abbrev edited : (Sheet → Sheet) → List ℕ × List Float → Panels → Panels
edited f t s =
    record {
      words = t.0;
      numbers = t.1;
      in_hall = with_list s.in_hall (f (view hall s).page);
      in_kitchen = with_list s.in_kitchen (f (view kitchen s).page);
    }

-- An edit of the table is the same event, whichever panel it is made by.
pub either_edits : (e : Event) (s : Panels) → table_edit e ≡ true → panels_next (of hall e) s ≡ panels_next (of kitchen e) s
unfolding table_edit panels_next together both_of panel_result view panel_of other seen event_result edit_event
either_edits (event.Number x) s h = ap (λ (t : List ℕ × List Float). edited (number_edit x) t s) (number_by s.words s.numbers s.in_hall.list s.in_kitchen.list s.in_hall.count s.in_kitchen.count x (has_number x (view hall s).page) refl)
either_edits (event.Word x) s h = ap (λ (t : List ℕ × List Float). edited (word_edit x) t s) (word-by s.words s.numbers s.in_hall.list s.in_kitchen.list s.in_hall.count s.in_kitchen.count x (has_word x (view hall s).page) refl)
either_edits (event.Ask a) s h = absurd (true≢false (sym h))
either_edits event.Relayout s h = absurd (true≢false (sym h))
either_edits event.Layout s h = absurd (true≢false (sym h))
