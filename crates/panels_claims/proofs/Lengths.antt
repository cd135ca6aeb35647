-- No event changes how long rows and marks are, nor how many nodes there are.
use Rattle.std.specs.Prelude.{refl, List, [], ◌∷◌}
use Rattle.std.proofs.Math.Path.{sym}
use Rattle.std.proofs.Common.{subst}
use Rattle.sheet.specs.Sheet.{has_number, has_word}
use Rattle.day.specs.Day.{Day, edit_event, call_event, event_result, day_after}
use Rattle.day.specs.declared.Event.{Event}
use Rattle.day.specs.declared.Event.TheVariants as event
use Rattle.panels.specs.Panels.{Which, Panels, PanelEvent, view, own, panels_after}
use Rattle.panels.proofs.Alone.{each_alone}
use Rattle.panels_claims.specs.Lengths.{Fits, layout_long, relayout_long, number_nodes, word_nodes}

-- ---- events

event_fits : (e : Event) (d : Day) → Fits d → Fits (event_result e d).after
unfolding event_result edit_event call_event
event_fits (event.Number x) d f = let z = number_nodes x d.page (has_number x d.page) refl in record { rows = rw z f.rows; marks = rw z f.marks }
event_fits (event.Word x) d f = let z = word_nodes x d.page (has_word x d.page) refl in record { rows = rw z f.rows; marks = rw z f.marks }
event_fits (event.Ask a) d f = record { rows = f.rows; marks = f.marks }
event_fits event.Relayout d f = let z = relayout_long d f in record { rows = z.0; marks = z.1 }
event_fits event.Layout d f = let z = layout_long d f in record { rows = z.0; marks = z.1 }

day_fits : (es : List Event) (d : Day) → Fits d → Fits (day_after es d)
unfolding day_after
day_fits [] d f = f
day_fits (e ∷ es) d f = day_fits es (event_result e d).after (event_fits e d f)

-- A panel whose rows fit at the start has rows that fit after any events of both.
pub panels_fit : (w : Which) (s : Panels) → Fits (view w s) → (ts : List PanelEvent) → Fits (view w (panels_after ts s))
panels_fit w s f ts = subst Fits (sym (each_alone w ts s)) (day_fits (own w ts) (view w s) f)
