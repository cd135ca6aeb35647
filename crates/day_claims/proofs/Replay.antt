-- A replay of a day: after each accepted relayout the rows, marks and candidates are those of a fresh layout of the page as the trace has made it by then.
use Rattle.std.specs.Prelude.{◌≡◌, List, [], ◌∷◌, ℕ, length, Float, Ok}
use Rattle.std.proofs.Common.{sym, ◌∙◌, ap}
use Rattle.steps.specs.Question.{root_input}
use Rattle.steps.specs.Results.{Reply, layout_result}
use Rattle.laws.specs.Answers.{relayout_accepted}
use Rattle.claims.specs.Claims.{relayout_is_layout}
use Rattle.claims.specs.Unread.{rows_unread}
use Rattle.sheet.specs.Sheet.{number_edit, word_edit}
use Rattle.day.specs.Day.{Day, edits_of, relayout_of, edit_event, event_result, day_after}
use Rattle.day.specs.declared.Event.{Event}
use Rattle.day.specs.declared.Event.TheVariants as event
use Rattle.day_claims.specs.Edited.{number_step, word-step}
use Rattle.day_claims.specs.Standing.{KeptDay, step_kept, layout_kept, relayout_kept, passing}
use Rattle.day_claims.specs.Replay.{Starts, start_kept}

-- every event keeps how the day stands
event_kept : (e : Event) (d : Day) → KeptDay d → KeptDay (event_result e d).after
unfolding event_result edit_event
event_kept (event.Number x) d k = step_kept d.page (number_edit x d.page) d.rows d.marks (number_step x d.page) k
event_kept (event.Word x) d k = step_kept d.page (word_edit x d.page) d.rows d.marks (word-step x d.page) k
event_kept (event.Ask a) d k = k
event_kept event.Relayout d k = relayout_kept d k
event_kept event.Layout d k = layout_kept d k

day_kept : (es : List Event) (d : Day) → KeptDay d → KeptDay (day_after es d)
unfolding day_after
day_kept [] d k = k
day_kept (e ∷ es) d k = day_kept es (event_result e d).after (event_kept e d k)

-- From zero rows and an empty list, after any events, refused ones included: a relayout that is accepted has the whole result of a layout of the page as the events have made it, whatever rows that layout is lent.
pub replay_is_fresh : (d : Day) → Starts d → (es : List Event) (k : ℕ) → (relayout_of (day_after es d)).answer ≡ Ok k → (rs : List Float) (ms : List ℕ) → length rs ≡ length (day_after es d).rows → length ms ≡ length (day_after es d).marks
    → relayout_of (day_after es d) ≡ layout_result (day_after es d).page.words (day_after es d).page.numbers rs ms (day_after es d).pairs (day_after es d).triples (root_input (day_after es d).question)
replay_is_fresh d s es k e rs ms lr lm = fresh_at (day_after es d) (day_kept es d (start_kept d s)) k e rs ms lr lm
  where
    fresh_at : (d : Day) → KeptDay d → (k : ℕ) → (relayout_of d).answer ≡ Ok k → (rs : List Float) (ms : List ℕ) → length rs ≡ length d.rows → length ms ≡ length d.marks
        → relayout_of d ≡ layout_result d.page.words d.page.numbers rs ms d.pairs d.triples (root_input d.question)
    fresh_at d kept k e rs ms lr lm =
        let ws = d.page.words in
        let xs = d.page.numbers in
        let es = edits_of d.page in
        let q = root_input d.question in
        let pass = (relayout_accepted ws xs d.rows d.marks d.pairs d.triples es q k e).passed in
        let w = passing d kept.standing pass in
        let z = relayout_is_layout w.words w.numbers w.asked d.rows d.marks ws xs d.pairs d.triples es q w.calls w.shape w.listed pass in
        z ∙ sym (rows_unread ws xs d.rows rs d.marks ms d.pairs d.triples q k lr lm (ap (λ (r : Reply). r.answer) (sym z) ∙ e))
