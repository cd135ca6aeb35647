-- What an f32's bits say of its size in units of 2 ^ -149. Assumes nothing.
use Rattle.std.specs.Prelude.{◌≡◌, refl, Bool, true, false, ℕ, zero, suc, ◌+◌, ◌*◌, ◌-◌, ◌/◌, ◌^◌, ◌<◌, ◌≤◌, ltb, leb, ℤ, pos, neg_ℤ, nat_abs, Float}
use Rattle.std.proofs.Common.{sym, ap, ◌∙◌, subst, mod-lt, add_comm, arith, pow_pos, ltb-true, ltb-false, le-leb}
use Rattle.std.specs.Float.{binary32}
use Rattle.std.specs.Float.Ieee.{to_bits}
use Rattle.std.specs.Float.Ieee.Bits.{to_bits-lt}
use Rattle.std.proofs.lemmas.Bool.{lt-leb}
use Rattle.pixel.specs.Pixel.{signed, halves_up, whole_pixel}
use Rattle.pixel.specs.Floor.{shifted, shifted_in}
use Rattle.pixel.proofs.Floor.{tiny, shift_up, shift_down}
use Rattle.pixel.specs.Value.{field, digits, bulk, low_bulk, Edge, field_in, by_size, abs_neg}

pub under_half : (x : Float) → Edge x → field (to_bits binary32 x) < 126 → pos 0 ≡ whole_pixel x
under_half x g l =
    let b = to_bits binary32 x in
    sym (by_size x g ∙ tiny (leb 0x8000_0000 b) (bulk (field b) (digits b)) (low_bulk (field b) (digits b) (mod-lt b (pow_pos 23)) l))

-- a field from 126 to 150
by_shift : (f t : ℕ) → 126 ≤ f → f ≤ 150
    → (halves_up (pos (bulk f t)) ≡ pos (shifted (t + 0x80_0000) (150 - f) 0)) × (halves_up (neg_ℤ (pos (bulk f t))) ≡ neg_ℤ (pos (shifted (t + 0x80_0000) (150 - f) 1)))
by_shift zero t l h = absurd (not_so l)
  where
    not_so : 126 ≤ 0 → ⊥
    not_so l = omega arith
by_shift (suc k) t l h =
    let e : k + (150 - suc k) ≡ 149 = omega arith in (
      shift_up (0x80_0000 + t) k (150 - suc k) e ∙ ap (λ (q : ℕ). pos (shifted q (150 - suc k) 0)) (add_comm 0x80_0000 t),
      shift_down (0x80_0000 + t) k (150 - suc k) e ∙ ap (λ (q : ℕ). neg_ℤ (pos (shifted q (150 - suc k) 1))) (add_comm 0x80_0000 t),
    )

pub answer_up : (x : Float) (n : ℕ) → Edge x → 126 ≤ field (to_bits binary32 x) → to_bits binary32 x / 0x8000_0000 ≡ 0
    → n ≡ shifted (digits (to_bits binary32 x) + 0x80_0000) (150 - field (to_bits binary32 x)) (to_bits binary32 x / 0x8000_0000) → pos n ≡ whole_pixel x
answer_up x n g l z e =
    let b = to_bits binary32 x in
    let below : b < 0x8000_0000 = omega arith in
    let s : leb 0x8000_0000 b ≡ false = lt-leb 0x8000_0000 b below in
    ap pos (e ∙ ap (λ (i : ℕ). shifted (digits b + 0x80_0000) (150 - field b) i) z)
    ∙ sym (by_size x g ∙ ap (λ (i : Bool). halves_up (signed i (bulk (field b) (digits b)))) s ∙ (by_shift (field b) (digits b) l (field_in x g)).0)

pub answer_down : (x : Float) (n : ℕ) → Edge x → 126 ≤ field (to_bits binary32 x) → (to_bits binary32 x / 0x8000_0000 ≡ 0 → ⊥)
    → n ≡ shifted (digits (to_bits binary32 x) + 0x80_0000) (150 - field (to_bits binary32 x)) (to_bits binary32 x / 0x8000_0000) → neg_ℤ (pos n) ≡ whole_pixel x
answer_down x n g l z e =
    let b = to_bits binary32 x in
    let w : b < 2 * 0x8000_0000 = to_bits-lt binary32 x g.0 in
    let one : b / 0x8000_0000 ≡ 1 = only b w z in
    let s : leb 0x8000_0000 b ≡ true = le-leb 0x8000_0000 b (omega arith) in
    ap (λ (i : ℕ). neg_ℤ (pos i)) (e ∙ ap (λ (i : ℕ). shifted (digits b + 0x80_0000) (150 - field b) i) one)
    ∙ sym (by_size x g ∙ ap (λ (i : Bool). halves_up (signed i (bulk (field b) (digits b)))) s ∙ (by_shift (field b) (digits b) l (field_in x g)).1)
  where
    only : (b : ℕ) → b < 2 * 0x8000_0000 → (b / 0x8000_0000 ≡ 0 → ⊥) → b / 0x8000_0000 ≡ 1
    only b w z = omega arith

pub pixel_in : (x : Float) → Edge x → nat_abs (whole_pixel x) ≤ 2 ^ 24
pixel_in x g = go (ltb (field b) 126) (leb 0x8000_0000 b) refl refl
  where
    b : ℕ
    b = to_bits binary32 x

    q : ℕ
    q = digits b + 0x80_0000

    q-in : q < 2 ^ 24
    q-in = omega (arith, mod-lt b (pow_pos 23))

    go : (t s : Bool) → ltb (field b) 126 ≡ t → leb 0x8000_0000 b ≡ s → nat_abs (whole_pixel x) ≤ 2 ^ 24
    go true s e i = subst (λ (z : ℤ). nat_abs z ≤ 2 ^ 24) (under_half x g (ltb-true (field b) 126 e)) (omega arith)
    go false true e i =
        subst (λ (z : ℤ). nat_abs z ≤ 2 ^ 24) (sym (by_size x g ∙ ap (λ (u : Bool). halves_up (signed u (bulk (field b) (digits b)))) i ∙ (by_shift (field b) (digits b) (ltb-false (field b) 126 e) (field_in x g)).1))
        (subst (λ (n : ℕ). n ≤ 2 ^ 24) (sym (abs_neg (shifted q (150 - field b) 1))) (shifted_in q (150 - field b) 1 q-in))
    go false false e i =
        subst (λ (z : ℤ). nat_abs z ≤ 2 ^ 24) (sym (by_size x g ∙ ap (λ (u : Bool). halves_up (signed u (bulk (field b) (digits b)))) i ∙ (by_shift (field b) (digits b) (ltb-false (field b) 126 e) (field_in x g)).0))
        (shifted_in q (150 - field b) 0 q-in)
