use Rattle.std.proofs.Common.{◌≡◌, sym, ◌∙◌, ap, ℕ, ◌≤◌, ◌+◌, Result, Ok, Err, MatchResult, arith}
use Rattle.std.specs.Prelude.{⊤}
use Rattle.page.specs.declared.PageError.TheVariants.{BadLine}
use Rattle.page.specs.declared.PageError.{PageError}
use Rattle.trace.proofs.Lines.{bad-count, good-count}
use Rattle.trace.proofs.check.check_events.Goals as goal

-- what the lines past the first say is what all of them say
past_one : (r : Result ⊤ PageError) (k line bad : ℕ) → k ≡ bad → MatchResult r (λ _. k ≡ 0) (λ e. (e ≡ BadLine k) × (line + 1 ≤ k)) → MatchResult r (λ _. bad ≡ 0) (λ e. (e ≡ BadLine bad) × (line ≤ bad))
past_one (Ok u) k line bad h p = sym h ∙ p
past_one (Err e) k line bad h p = (p.0 ∙ ap (λ (n : ℕ). BadLine n) h, omega (arith, p.1))

pub returns-in-None : goal.returns-in-None
returns-in-None c = let a = c.args in
    let z = bad-count a.whole a.n a.line a.text.now c.piece_end-e.result c.piece_end-e.ensures (sym c.events_line.ensures ∙ c.in-None.is) in
    (ap (λ (n : ℕ). BadLine n) z, omega arith)

pub returns-in-Some : goal.returns-in-Some
returns-in-Some c = let a = c.args in
    past_one c.check_lines.result _ a.line _ (good-count a.whole a.n a.line a.text.now c.piece_end-e.result c.piece_end-e.ensures c.in-Some.count (sym c.events_line.ensures ∙ c.in-Some.is)) c.check_lines.ensures
