-- Demand 3 for each panel with its own list, whatever the other did in between.
use Rattle.std.specs.Prelude.{◌≡◌, List, ℕ, length, Float, Ok}
use Rattle.std.proofs.Common.{sym, subst}
use Rattle.steps.specs.Question.{root_input}
use Rattle.steps.specs.Results.{layout_result}
use Rattle.day.specs.Day.{Day, relayout_of}
use Rattle.day_claims.specs.Replay.{Starts}
use Rattle.day_claims.proofs.Replay.{replay_is_fresh}
use Rattle.panels.specs.Panels.{Which, Panels, PanelEvent, view, own, panels_after}
use Rattle.panels.proofs.Alone.{each_alone}

-- a relayout of this day that is accepted has the whole result of a layout of its page, whatever rows that layout is lent
abbrev pub IsFresh : Day → Type 0
IsFresh d = (k : ℕ) → (relayout_of d).answer ≡ Ok k → (rs : List Float) (ms : List ℕ) → length rs ≡ length d.rows → length ms ≡ length d.marks
    → relayout_of d ≡ layout_result d.page.words d.page.numbers rs ms d.pairs d.triples (root_input d.question)

-- From zero rows and an empty list, after any events of both panels: a panel's accepted relayout is a fresh layout of the table as all edits have made it, with its own question.
pub panel_is_fresh : (w : Which) (s : Panels) → Starts (view w s) → (ts : List PanelEvent) → IsFresh (view w (panels_after ts s))
panel_is_fresh w s h ts = subst IsFresh (sym (each_alone w ts s)) (replay_is_fresh (view w s) h (own w ts))
