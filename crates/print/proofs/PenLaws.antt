-- Texts written one after the other. Assumes nothing.
use mathlib.Core.Path.{◌≡◌, refl, sym, ◌∙◌, ap}
use mathlib.Core.Bool.{Bool, true, false}
use mathlib.Core.List.{List, [], ◌∷◌, ◌++◌, append-nil}
use Prim.Native.Nat.{ℕ, zero, suc, ◌+◌, ◌-◌, ◌/◌, ◌%◌, ◌<◌, ◌≤◌}
use native.Mathlib.Omega.{arith}
use native.Mathlib.Numerals.{add-one}
use native.Mathlib.Nat.{zero-add}
use lib.ListN.{length, length-append, set, length-set, drop, get_or, drop_of_length-le}
use lib.Seq.{drop-cons, set-append_seam, append_snoc}
use lib.Dec.{ltb}
use borrow.Author.Tests.{lt-ltb, le-ltb, ltb-true}
use Rattle.print.specs.Pen.{Pen, pen, put_byte, put_all}
use Rattle.print.specs.Text.{glyph, decimal, hex_text, each}

pub put_append : (l m : List ℕ) (p : Pen) → put_all (l ++ m) p ≡ put_all m (put_all l p)
unfolding put_all
put_append [] m p = refl
put_append (b ∷ l) m p = put_append l m (put_byte b p)

pub full : (b i : ℕ) (l : List ℕ) → length l ≤ i → pen l i ≡ put_all (b ∷ []) (pen l i)
unfolding put_all put_byte
full b i l h = rw (le-ltb i (length l) h)

pub room : (b i : ℕ) (l : List ℕ) → i < length l → pen (set l i b) (i + 1) ≡ put_all (b ∷ []) (pen l i)
unfolding put_all put_byte
room b i l h = rw (lt-ltb i (length l) h)

pub nothing : (p : Pen) → p ≡ put_all [] p
unfolding put_all
nothing p = refl

-- two texts in a row, and three
pub then : (l m : List ℕ) (p q r : Pen) → q ≡ put_all l p → r ≡ put_all m q → r ≡ put_all (l ++ m) p
then l m p q r e f = f ∙ ap (put_all m) e ∙ sym (put_append l m p)

-- one byte further in a text
pub text_step : (s : List ℕ) (i : ℕ) (p q : Pen) → i < length s → q ≡ put_all (get_or s i 0 ∷ []) p → put_all (drop i s) p ≡ put_all (drop (i + 1) s) q
unfolding put_all
text_step s i p q h e = rw (add-one i, drop-cons s i 0 h, e)

pub text_end : (s : List ℕ) (i : ℕ) (p : Pen) → length s ≤ i → put_all (drop i s) p ≡ p
unfolding put_all
text_end s i p h = rw (drop_of_length-le s h)

-- the digits
pub one_digit : (k n : ℕ) → 0 < k → n < 10 → decimal k n ≡ glyph n ∷ []
unfolding decimal
one_digit zero n h l = absurd (omega arith)
one_digit (suc k) n h l = rw (lt-ltb n 10 l)

pub more_digits : (k n : ℕ) → 0 < k → 10 ≤ n → decimal k n ≡ decimal (k - 1) (n / 10) ++ (glyph (n % 10) ∷ [])
unfolding decimal
more_digits zero n h l = absurd (omega arith)
more_digits (suc k) n h l =
    let z : suc k - 1 ≡ k = omega arith in
    rw (z, le-ltb n 10 l)

pub more_hex : (k w : ℕ) → 0 < k → hex_text k w ≡ hex_text (k - 1) (w / 16) ++ (glyph (w % 16) ∷ [])
unfolding hex_text
more_hex zero w h = absurd (omega arith)
more_hex (suc k) w h =
    let z : suc k - 1 ≡ k = omega arith in
    rw z

pub no_digits : (n : ℕ) → decimal 0 n ≡ []
unfolding decimal
no_digits n = refl

pub no_hex : (w : ℕ) → hex_text 0 w ≡ []
unfolding hex_text
no_hex w = refl

-- one line more
pub each_step : (f : ℕ → List ℕ) (i : ℕ) (p q r : Pen) → q ≡ put_all (each f i) p → r ≡ put_all (f i) q → r ≡ put_all (each f (i + 1)) p
unfolding each
each_step f i p q r e g = rw (add-one i) (then (each f i) (f i) p q r e g)

pub each_none : (f : ℕ → List ℕ) (p : Pen) → p ≡ put_all (each f 0) p
unfolding each
each_none f p = nothing p

within_by : (b : ℕ) (p : Pen) (e : Bool) → ltb p.at (length p.bytes) ≡ e → p.at ≤ length p.bytes → (put_byte b p).at ≤ length (put_byte b p).bytes
unfolding put_byte
within_by b p true e h = rw e (rw (length-set p.bytes p.at b) (omega (arith, ltb-true p.at (length p.bytes) e)))
within_by b p false e h = rw e h

-- the pen never leaves the buffer
pub stays_within : (l : List ℕ) (p : Pen) → p.at ≤ length p.bytes → (put_all l p).at ≤ length (put_all l p).bytes
unfolding put_all
stays_within [] p h = h
stays_within (b ∷ l) p h = stays_within l (put_byte b p) (within_by b p (ltb p.at (length p.bytes)) refl h)

put_from : (l p q : List ℕ) → length l ≤ length q → put_all l (pen (p ++ q) (length p)) ≡ pen ((p ++ l) ++ drop (length l) q) (length p + length l)
unfolding put_all put_byte
put_from [] p q h =
    let z : length p ≡ length p + 0 = omega arith in
    ap (λ (b : List ℕ). pen (b ++ q) (length p)) (sym (append-nil p)) ∙ ap (pen ((p ++ []) ++ q)) z
put_from (b ∷ l) p [] h = absurd (omega arith)
put_from (b ∷ l) p (y ∷ q) h =
    let t : length p < length (p ++ (y ∷ q)) = simp length-append (omega arith) in
    let e : length p + 1 ≡ length (p ++ (b ∷ [])) = simp length-append in
    let z : length (p ++ (b ∷ [])) + length l ≡ length p + suc (length l) = simp length-append (omega arith) in
    rw (lt-ltb (length p) (length (p ++ (y ∷ q))) t, set-append_seam p y q b, ← append_snoc p b q, e) (put_from l (p ++ (b ∷ [])) q (omega arith) ∙ rw (append_snoc p b l, z))

-- a text that has room stands at the front, and the rest is as it was
pub all_put : (l out : List ℕ) → length l ≤ length out → put_all l (pen out 0) ≡ pen (l ++ drop (length l) out) (length l)
all_put l out h = put_from l [] out h ∙ ap (pen (l ++ drop (length l) out)) (zero-add (length l))
