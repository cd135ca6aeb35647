-- Arithmetic of a row's bits: other probe bits leave the rest, and bit 0 taken away leaves all others.
use mathlib.Core.Path.{◌≡◌, sym, ap, ◌∙◌}
use mathlib.Core.Bool.{Bool, true, false, cond}
use Prim.Native.Nat.{ℕ, ◌/◌, ◌%◌, ◌<◌}
use native.Mathlib.Omega.{arith}
use lib.Dec.{eqb}
use Rattle.style.specs.Codes.{flag_at}
use Rattle.steps.specs.Row.{with_code}
use Rattle.steps.specs.Kept.{laid_bits}
use Rattle.rows.specs.Store.{unlaid}

pub code_back : (b c : ℕ) → c < 16 → with_code b c / 16 % 16 ≡ c
unfolding with_code
code_back b c h = omega arith

low : (b c : ℕ) → with_code b c % 2 ≡ b % 2
unfolding with_code
low b c = omega arith

second : (b c : ℕ) → with_code b c / 2 % 2 ≡ b / 2 % 2
unfolding with_code
second b c = omega arith

fourth : (b c : ℕ) → with_code b c / 8 % 2 ≡ b / 8 % 2
unfolding with_code
fourth b c = omega arith

high : (b c : ℕ) → c < 16 → with_code b c / 256 ≡ b / 256
unfolding with_code
high b c h = omega arith

second_left : (b : ℕ) → unlaid b / 2 % 2 ≡ b / 2 % 2
unfolding unlaid
second_left b = omega arith

fourth_left : (b : ℕ) → unlaid b / 8 % 2 ≡ b / 8 % 2
unfolding unlaid
fourth_left b = omega arith

high_left : (b : ℕ) → unlaid b / 256 ≡ b / 256
unfolding unlaid
high_left b = omega arith

low_gone : (b : ℕ) → unlaid b % 2 ≡ 0
unfolding unlaid
low_gone b = omega arith

one : (n : ℕ) → n / 1 % 2 ≡ n % 2
one n = omega arith

-- flags
pub flag_0 : (b c : ℕ) → flag_at (with_code b c) 0 ≡ flag_at b 0
flag_0 b c = ap (λ (n : ℕ). eqb n 1) (one (with_code b c) ∙ low b c ∙ sym (one b))

pub flag_1 : (b c : ℕ) → flag_at (with_code b c) 1 ≡ flag_at b 1
flag_1 b c = ap (λ (n : ℕ). eqb n 1) (second b c)

pub flag_3 : (b c : ℕ) → flag_at (with_code b c) 3 ≡ flag_at b 3
flag_3 b c = ap (λ (n : ℕ). eqb n 1) (fourth b c)

pub flag_8 : (b c : ℕ) → c < 16 → flag_at (with_code b c) 8 ≡ flag_at b 8
flag_8 b c h = ap (λ (n : ℕ). eqb (n % 2) 1) (high b c h)

half : (n : ℕ) → n / 512 % 2 ≡ n / 256 / 2 % 2
half n = omega arith

pub flag_9 : (b c : ℕ) → c < 16 → flag_at (with_code b c) 9 ≡ flag_at b 9
flag_9 b c h = ap (λ (n : ℕ). eqb n 1) (half (with_code b c) ∙ ap (λ (n : ℕ). n / 2 % 2) (high b c h) ∙ sym (half b))

pub flag_gone : (b c : ℕ) → flag_at (with_code (unlaid b) c) 0 ≡ false
flag_gone b c = ap (λ (n : ℕ). eqb n 1) (one (with_code (unlaid b) c) ∙ low (unlaid b) c ∙ low_gone b)

-- below a kept node
pub bits_below : (b c : ℕ) (v : Bool) → c < 16 → laid_bits (with_code (cond v (unlaid b) b) c) c ≡ laid_bits b c
unfolding laid_bits
bits_below b c true h = rw (second (unlaid b) c, fourth (unlaid b) c, high (unlaid b) c h, second_left b, fourth_left b, high_left b)
bits_below b c false h = rw (second b c, fourth b c, high b c h)
