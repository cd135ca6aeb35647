-- One case of an answer, packed.
use mathlib.Core.Path.{◌≡◌, sym, ap, subst, ◌∙◌}
use Prim.Native.Nat.{ℕ}
use Rattle.asked.specs.Halves.{Halves}

pub by_case : {A : Type 0} (paper : A → ℕ × ℕ) {a b : A} {p : ℕ × ℕ} {r : ℕ} → a ≡ b → paper b ≡ p → Halves p r → Halves (paper a) r
by_case paper {a} {b} {p} {r} e f h = subst (λ (q : ℕ × ℕ). Halves q r) (sym (ap paper e ∙ f)) h
