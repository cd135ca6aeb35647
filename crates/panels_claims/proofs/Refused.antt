-- A table that fails 1 to 4 is refused to both panels, with one number and place, until it is mended. 4 at place n is a panel's own.
use Rattle.steps.specs.declared.Refusal.TheVariants.{Numbers}
use Rattle.steps.specs.declared.Refusal.{Refusal}
use Rattle.std.specs.Prelude.{◌≡◌, true, List, ◌*◌, length, Result, Ok, Err, ⊤, ℕ}
use Rattle.std.proofs.Common.{sym, ◌∙◌, true≢false}
use Rattle.std.proofs.Math.Path.{ap}
use Rattle.steps.specs.Page.{nodes_in}
use Rattle.steps.specs.Noes.{refuse_if, and_then, bad_question, layout_tested, relayout_tested}
use Rattle.steps.specs.Question.{root_input}
use Rattle.steps.specs.Results.{Reply, tested, layout_result, relayout_result}
use Rattle.tables.proofs.Passing.{no_pass}
use Rattle.day.specs.Day.{Day, layout_of, relayout_of, call_event, event_result}
use Rattle.day.specs.declared.Event.{Event}
use Rattle.day.specs.declared.Event.TheVariants as event
use Rattle.panels.specs.Panels.{Which, Panels, panel_of, view, PanelEvent, panel_result, both_of, panels_after}
use Rattle.panels_claims.specs.Lengths.{Fits}
use Rattle.panels_claims.proofs.Lengths.{panels_fit}
use Rattle.panels_claims.specs.Refused.{table_tested, tests_in_order, AsLent, table_first, question_first, is_call, answer_of}

module _ (d : Day) (a : Refusal) (lr : length d.rows ≡ 16 * nodes_in d.page.words) (lm : length d.marks ≡ 2 * nodes_in d.page.words) where
  abbrev first-tests : Result ⊤ Refusal
  first-tests = and_then (table_tested d.page.words d.page.numbers) (refuse_if (bad_question (root_input d.question)) (Numbers (nodes_in d.page.words)))

  deeper : (x y z : Result ⊤ Refusal) → and_then x y ≡ Err a → and_then x (and_then y z) ≡ Err a
  unfolding and_then
  deeper (Ok _) (Ok _) z e = no_pass (sym e)
  deeper (Ok _) (Err b) z e = e
  deeper (Err b) y z e = e

  refused-first : first-tests ≡ Err a → layout_tested d.page.words d.page.numbers d.rows d.marks d.pairs d.triples (root_input d.question) ≡ Err a
  refused-first e = tests_in_order _ _ _ _ _ _ _ lr lm ∙ deeper _ _ _ e

  layout_refused : first-tests ≡ Err a → layout_of d ≡ AsLent a d
  unfolding layout_result tested
  layout_refused e = rw (refused-first e)

  relayout_refused : first-tests ≡ Err a → relayout_of d ≡ AsLent a d
  unfolding relayout_result relayout_tested tested and_then
  relayout_refused e = rw (refused-first e)

module _ (a : Refusal) (w : Which) (s : Panels) (f : Fits (view w s)) where
  abbrev own-tests : Result ⊤ Refusal
  own-tests = and_then (table_tested s.words s.numbers) (refuse_if (bad_question (root_input (panel_of w s).question)) (Numbers (nodes_in s.words)))

  call-refused : (e : Event) → is_call e ≡ true → own-tests ≡ Err a → answer_of w e s ≡ Err a
  unfolding is_call both_of panel_result view event_result call_event
  call-refused (event.Number x) c h = absurd (true≢false (sym c))
  call-refused (event.Word x) c h = absurd (true≢false (sym c))
  call-refused (event.Ask q) c h = absurd (true≢false (sym c))
  call-refused event.Relayout c h = ap (λ (r : Reply). r.answer) (relayout_refused (view w s) a f.rows f.marks h)
  call-refused event.Layout c h = ap (λ (r : Reply). r.answer) (layout_refused (view w s) a f.rows f.marks h)

-- After any events, a table that fails 1 to 4 by itself: each call of each panel is refused with that number and place, whatever its question, rows, list and room.
pub refused_to_both : (s : Panels) → ((w : Which) → Fits (view w s)) → (ts : List PanelEvent) (a : Refusal) → table_tested (panels_after ts s).words (panels_after ts s).numbers ≡ Err a → (w : Which) (e : Event) → is_call e ≡ true → answer_of w e (panels_after ts s) ≡ Err a
refused_to_both s f ts a h w e c = call-refused a w (panels_after ts s) (panels_fit w s (f w) ts) e c (table_first a _ _ h)

-- A question that fails 4 is refused at place n, to the panel that asks it.
pub own_question : (s : Panels) (w : Which) → Fits (view w s) → (ts : List PanelEvent) → table_tested (panels_after ts s).words (panels_after ts s).numbers ≡ Ok tt → bad_question (root_input (panel_of w (panels_after ts s)).question) ≡ true → (e : Event) → is_call e ≡ true → answer_of w e (panels_after ts s) ≡ Err (Numbers (nodes_in (panels_after ts s).words))
own_question s w f ts p q e c = call-refused (Numbers (nodes_in (panels_after ts s).words)) w (panels_after ts s) (panels_fit w s f ts) e c (question_first (Numbers (nodes_in (panels_after ts s).words)) _ _ p q)
