-- Arithmetic of a row's bits, and flags that agree.
use Rattle.std.specs.Prelude.{is_some}
use mathlib.Core.Path.{◌≡◌, refl, sym, ap, ◌∙◌}
use mathlib.Core.Bool.{Bool, true, false, not, beq}
use mathlib.Core.List.{List, [], ◌∷◌, ◌++◌}
use Prim.Native.Nat.{ℕ, ◌+◌, ◌-◌, ◌*◌, ◌/◌, ◌%◌, ◌<◌, ◌≤◌}
use lib.ListN.{set, replicate, replicate-append-replicate}
use lib.Ieee.{Float}
use Rattle.geometry.specs.Geometry.{zero_f}
use Rattle.margin.specs.Margin.{no_margins}
use native.Mathlib.Omega.{arith}
use Rattle.length.specs.declared.AvailableSpace.{AvailableSpace}
use Rattle.steps.specs.Row.{Row, row_numbers, row_words, bare, aside_row, hidden_row, bit, available_kind, with_code, probe_code}
use Rattle.rows.specs.Store.{unlaid, probe_bits}
use Rattle.steps.specs.declared.ProbeInput.{ProbeInput}

pub beq_true : (b : Bool) → b ≡ beq true b
beq_true true = refl
beq_true false = refl

pub beq_false : (b : Bool) → not b ≡ beq false b
beq_false true = refl
beq_false false = refl

pub probe_bits_lem : (b : ℕ) (q : ProbeInput) → probe_bits b q.available (is_some q.height) ≡ with_code (unlaid b) (probe_code q)
unfolding probe_bits probe_code
probe_bits_lem b q = refl

pub clear_bits : (b : ℕ) → b % 16 + b / 256 * 256 ≡ with_code b 0
unfolding with_code
clear_bits b = omega arith

split_zeros : {A : Type 0} (z : A) (k n : ℕ) → k ≤ n → replicate n z ≡ replicate k z ++ replicate (n - k) z
split_zeros z k n h =
    let e : n ≡ k + (n - k) = omega arith in
    ap (λ (m : ℕ). replicate m z) e ∙ sym (replicate-append-replicate k (n - k) z)

-- a run that is cleared, and its first words
pub aside_rows : (n : ℕ) (a b c : Float) (o : ℕ) → 16 ≤ n → set (set (set (replicate n zero_f) 0 a) 1 b) 2 c ≡ row_numbers (aside_row a b c o) ++ replicate (n - 16) zero_f
unfolding aside_row bare no_margins
aside_rows n a b c o h = rw (split_zeros zero_f 16 n h)

pub aside_marks : (n : ℕ) (a b c : Float) (o : ℕ) → 2 ≤ n → set (set (replicate n 0) 0 o) 1 4 ≡ row_words (aside_row a b c o) ++ replicate (n - 2) 0
unfolding aside_row bare
aside_marks n a b c o h = rw (split_zeros {A = ℕ} 0 2 n h)

pub hidden_rows : (n o : ℕ) → 16 ≤ n → replicate n zero_f ≡ row_numbers (hidden_row o) ++ replicate (n - 16) zero_f
unfolding hidden_row bare no_margins
hidden_rows n o h = split_zeros zero_f 16 n h

pub hidden_marks : (n o : ℕ) → 2 ≤ n → set (replicate n 0) 0 o ≡ row_words (hidden_row o) ++ replicate (n - 2) 0
unfolding hidden_row bare
hidden_marks n o h = rw (split_zeros {A = ℕ} 0 2 n h)
