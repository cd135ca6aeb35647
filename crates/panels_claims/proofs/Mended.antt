-- A table that fails 1 to 4 is refused to both panels, with one number and place, until it is mended. 4 at place n is a panel's own.
use Rattle.steps.specs.declared.Refusal.{Refusal}
use Rattle.std.specs.Prelude.{◌≡◌, true, false, List, ℕ, Float, Result, Err}
use Rattle.std.proofs.Common.{◌∙◌}
use Rattle.std.proofs.Math.Path.{ap}
use Rattle.day.specs.declared.Event.{Event}
use Rattle.panels.specs.Panels.{Which, Panels, view, PanelEvent, panels_after}
use Rattle.panels_claims.specs.Lengths.{Fits}
use Rattle.panels_claims.specs.Refused.{table_tested, is_call, answer_of, edit_in, table_stays}
use Rattle.panels_claims.proofs.Refused.{refused_to_both}

-- So it goes on for every call of both, until a node is edited.
pub until_mended : (s : Panels) → ((w : Which) → Fits (view w s)) → (a : Refusal) → table_tested s.words s.numbers ≡ Err a → (ts : List PanelEvent) → edit_in ts ≡ false → (w : Which) (e : Event) → is_call e ≡ true → answer_of w e (panels_after ts s) ≡ Err a
until_mended s f a h ts n w e c = refused_to_both s f ts a (ap (λ (p : List ℕ × List Float). table_tested p.0 p.1) (table_stays ts s n) ∙ h) w e c
