-- A loop along children: the cursor counts no more than there are, and the rest is shorter at each turn.
use mathlib.Core.Path.{◌≡◌}
use Prim.Native.Nat.{ℕ, ◌+◌, ◌*◌, ◌-◌, ◌<◌, ◌≤◌}
use native.Mathlib.Omega.{arith}

pub counted_to : (a e n m n' m' : ℕ) → a < e → n ≤ a → m ≤ a → n' ≡ n + 1 → m' ≤ m + 1 → (n' ≤ e) × (m' ≤ e)
counted_to a e n m n' m' lt hn hm hn' hm' = (omega arith, omega arith)

pub shorter : (l a e : ℕ) → a < e → 4 * e ≤ l → l - e < l - a
shorter l a e lt le = omega arith
