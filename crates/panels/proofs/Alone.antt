-- In any interleaving each panel answers and stands as the replay of its own events and of all edits of the table alone.
use Rattle.std.specs.Prelude.{◌≡◌, cond, List, [], ◌∷◌, ℕ, Float}
use Rattle.std.proofs.Math.Path.{refl, ap}
use Rattle.std.proofs.Common.{sym, ◌∙◌}
use Rattle.sheet.specs.Sheet.{Sheet, number_edit, word_edit}
use Rattle.day.specs.Day.{Day, edit_event, call_event, event_result, day_after, answers_of}
use Rattle.day.specs.declared.Event.{Event}
use Rattle.day.specs.declared.Event.TheVariants as event
use Rattle.panels.specs.Panels.{seen, panel_result, Which, hall, kitchen, other, Panel, Panels, panel_of, day_of, view, with_list, together, PanelEvent, of, both_of, panels_next, panels_after, table_edit, same, heard, own, answers_to}
use Rattle.panels.specs.Alone.{table, one_table, next_answer, after_by, answers_by}

-- what the other panel is after an event: that event too, if it edits the table, and else as it was
module _ (d : Day) (q : Panel) where
  abbrev o : Day
  o = day_of d.page.words d.page.numbers q

  abbrev with-table : Sheet → List ℕ × List Float → Day
  with-table s t = day_of t.0 t.1 (with_list q s)

  other-alone : (e : Event) → with-table (seen e o.page) (table (event_result e d).after.page) ≡ cond (table_edit e) (event_result e o).after o
  unfolding table_edit seen event_result edit_event call_event
  other-alone (event.Number x) = ap (with-table (number_edit x o.page)) (sym (one_table (event.Number x) d q.list q.count))
  other-alone (event.Word x) = ap (with-table (word_edit x o.page)) (sym (one_table (event.Word x) d q.list q.count))
  other-alone (event.Ask a) = refl
  other-alone event.Relayout = refl
  other-alone event.Layout = refl

-- one event, for either panel
next_alone : (w v : Which) (e : Event) (s : Panels) → view w (panels_next (of v e) s) ≡ cond (heard w (of v e)) (event_result e (view w s)).after (view w s)
unfolding view panels_next together both_of panel_result heard same panel_of other
next_alone hall hall e s = refl
next_alone hall kitchen e s = other-alone (view kitchen s) s.in_hall e
next_alone kitchen hall e s = other-alone (view hall s) s.in_kitchen e
next_alone kitchen kitchen e s = refl

-- After any events each panel stands as after its own and all edits of the table: page, question, list, rows, marks and candidates.
pub each_alone : (w : Which) (ts : List PanelEvent) (s : Panels) → view w (panels_after ts s) ≡ day_after (own w ts) (view w s)
unfolding panels_after own day_after
each_alone w [] s = refl
each_alone w (t ∷ ts) s = each_alone w ts (panels_next t s) ∙ after_by (heard w t) t.event (own w ts) (view w s) (view w (panels_next t s)) (next_alone w t.panel t.event s)

-- And it is answered so.
pub answered_alone : (w : Which) (ts : List PanelEvent) (s : Panels) → answers_to w ts s ≡ answers_of (own w ts) (view w s)
unfolding answers_to own answers_of
answered_alone w [] s = refl
answered_alone w (t ∷ ts) s =
    rw (answered_alone w ts (panels_next t s))
    (answers_by (heard w t) t.event (own w ts) (view w s) (view w (panels_next t s)) (both_of t s).own.answer (next_alone w t.panel t.event s) (next_answer w t.panel t.event s))

-- So nothing else of the other panel counts: not its question, its rows, its list, its room, nor its own events.
pub other_unseen : (w : Which) (ts ts' : List PanelEvent) (s s' : Panels) → own w ts ≡ own w ts' → view w s ≡ view w s' → (answers_to w ts s ≡ answers_to w ts' s') × (view w (panels_after ts s) ≡ view w (panels_after ts' s'))
other_unseen w ts ts' s s' e v = (
  answered_alone w ts s ∙ ap (λ (es : List Event). answers_of es (view w s)) e ∙ ap (answers_of (own w ts')) v ∙ sym (answered_alone w ts' s'),
  each_alone w ts s ∙ ap (λ (es : List Event). day_after es (view w s)) e ∙ ap (day_after (own w ts')) v ∙ sym (each_alone w ts' s'),
)
