-- The lowest of the first n places that a test takes.
use Rattle.tree.specs.declared.NodeId.{NodeId}
use Rattle.std.specs.Prelude.{Bool, true, false, cond, ◌||◌, ℕ, zero, suc, ◌+◌, Option, None, Some}

-- from place i on, n places
unfoldable pub scan : {A : Type 0} → (ℕ → Bool) → (ℕ → A) → A → ℕ → ℕ → A
scan p hit none i zero = none
scan p hit none i (suc n) = elim (p i) [ true ↦ hit i | false ↦ scan p hit none (i + 1) n ]

abbrev pub at_node : ℕ → Option NodeId
at_node i = Some (record { 0 = i })

-- the lowest node below n at fault
abbrev pub lowest : (ℕ → Bool) → ℕ → Option NodeId
lowest p n = scan p at_node None 0 n

-- the first index below n at fault
abbrev pub first_of : (ℕ → Bool) → ℕ → Option ℕ
first_of p n = scan p Some None 0 n

-- some place below n
abbrev pub some : (ℕ → Bool) → ℕ → Bool
some p n = scan p (λ _. true) false 0 n

-- how many places below n
unfoldable pub how_many : (ℕ → Bool) → ℕ → ℕ
how_many p zero = 0
how_many p (suc n) = cond (p n) (suc (how_many p n)) (how_many p n)
