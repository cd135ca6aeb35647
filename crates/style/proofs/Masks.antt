-- What a code stands for, where it is none of the first. Assumes nothing.
-- (That a mask is a remainder is `and_mask` of the toolchain's lib.Bits; the proofs of `code` and `flag` cite it.)
use mathlib.Core.Path.{◌≡◌, refl}
use Prim.Native.Nat.{ℕ, zero, suc}
use Rattle.style.specs.Codes.{pick4, distributed}
use Rattle.style.specs.declared.AlignContent.{AlignContent}
use Rattle.style.specs.declared.AlignContent.TheVariants.{Stretch}

pub pick4_rest : {A : Type 0} (k : ℕ) (a b c d : A) → (k ≡ 0 → ⊥) → (k ≡ 1 → ⊥) → (k ≡ 2 → ⊥) → d ≡ pick4 k a b c d
pick4_rest zero a b c d n0 n1 n2 = absurd (n0 refl)
pick4_rest (suc zero) a b c d n0 n1 n2 = absurd (n1 refl)
pick4_rest (suc (suc zero)) a b c d n0 n1 n2 = absurd (n2 refl)
pick4_rest (suc (suc (suc n))) a b c d n0 n1 n2 = refl

pub distributed_rest : (k : ℕ) (a : AlignContent) → (k ≡ 0 → ⊥) → (k ≡ 1 → ⊥) → (k ≡ 2 → ⊥) → (k ≡ 3 → ⊥) → Stretch ≡ distributed k a
unfolding distributed
distributed_rest zero a n0 n1 n2 n3 = absurd (n0 refl)
distributed_rest (suc zero) a n0 n1 n2 n3 = absurd (n1 refl)
distributed_rest (suc (suc zero)) a n0 n1 n2 n3 = absurd (n2 refl)
distributed_rest (suc (suc (suc zero))) a n0 n1 n2 n3 = absurd (n3 refl)
distributed_rest (suc (suc (suc (suc k)))) a n0 n1 n2 n3 = refl
