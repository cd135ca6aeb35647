-- What `lowest` and `first_of` say, exactly; the laws of `scan` that they rest on are passed on.
--     lowest-*, first-*        the lowest node at fault, the first index at fault
use Rattle.std.specs.Prelude.{Option, None, Some}
use mathlib.Core.Path.{◌≡◌, ap}
use mathlib.Core.Bool.{Bool}
use Prim.Native.Nat.{ℕ, ◌<◌}
use native.Mathlib.Omega.{arith}
use Rattle.steps.specs.Scan.{scan, at_node, lowest, first_of}
use Rattle.scans.specs.Scans.{is-hit, is_none, hit-is, none_is, at_inj, at_apart}
use Rattle.tables.specs.Refusals.{Lowest, Sound}
pub use Rattle.scans.specs.Scans.{none_left, next-no, next-yes, pass, here, over, start, never, is_none, some_is, not_some}

abbrev index_of : Option ℕ → ℕ
index_of None = 0
index_of (Some k) = k

spot_inj : (a b : ℕ) → Some a ≡ Some b → a ≡ b
spot_inj a b e = ap index_of e

spot_apart : (a : ℕ) → Some a ≡ None → ⊥
spot_apart a e =
    let z : ◌≡◌ {A = ℕ} 0 1 = cc in
    omega arith

module _ {A : Type 0} (hit : ℕ → A) (none : A) (inj : (a b : ℕ) → hit a ≡ hit b → a ≡ b) (apart : (a : ℕ) → hit a ≡ none → ⊥) (p : ℕ → Bool) (n : ℕ) where
  scan-at : (k : ℕ) → scan p hit none 0 n ≡ hit k → Lowest p n k
  scan-at k e =
      let h = hit-is p hit none inj apart n 0 k e in
      let a = h.high in
      record { within = omega arith; fault = h.takes; lower = λ j l. h.first j (omega arith) l }

  at-scan : (k : ℕ) → Lowest p n k → scan p hit none 0 n ≡ hit k
  at-scan k h = is-hit p hit none n 0 k (record { low = omega arith; high = let a = h.within in omega arith; takes = h.fault; first = λ j g l. h.lower j l })

  scan-nowhere : scan p hit none 0 n ≡ none → Sound p n
  scan-nowhere e j h = none_is p hit none inj apart n 0 e j (omega arith) (omega arith)

  nowhere-scan : Sound p n → scan p hit none 0 n ≡ none
  nowhere-scan c = is_none p hit none n 0 (λ j g h. c j (omega arith))

module _ (p : ℕ → Bool) (n : ℕ) where
  pub lowest-at : (k : ℕ) → lowest p n ≡ at_node k → Lowest p n k
  lowest-at = scan-at at_node None at_inj at_apart p n

  pub at-lowest : (k : ℕ) → Lowest p n k → lowest p n ≡ at_node k
  at-lowest = at-scan at_node None at_inj at_apart p n

  pub lowest-nowhere : lowest p n ≡ None → Sound p n
  lowest-nowhere = scan-nowhere at_node None at_inj at_apart p n

  pub nowhere-lowest : Sound p n → lowest p n ≡ None
  nowhere-lowest = nowhere-scan at_node None at_inj at_apart p n

  -- the same of an index
  pub first-at : (k : ℕ) → first_of p n ≡ Some k → Lowest p n k
  first-at = scan-at Some None spot_inj spot_apart p n

  pub at_first : (k : ℕ) → Lowest p n k → first_of p n ≡ Some k
  at_first = at-scan Some None spot_inj spot_apart p n

  pub first-nowhere : first_of p n ≡ None → Sound p n
  first-nowhere = scan-nowhere Some None spot_inj spot_apart p n

  pub nowhere-first : Sound p n → first_of p n ≡ None
  nowhere-first = nowhere-scan Some None spot_inj spot_apart p n
