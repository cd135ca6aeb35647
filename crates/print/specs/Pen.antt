-- Bytes written one after the other into a lent buffer; what has no room is left out.
use Rattle.std.specs.Prelude.{cond, List, [], ◌∷◌, ℕ, ◌+◌, length, set, ltb}

-- a buffer and the place of the next byte
pub record Pen : Type 0 where
  pub bytes : List ℕ
  pub at : ℕ

abbrev pub pen : List ℕ → ℕ → Pen
pen l i = record { bytes = l; at = i }

unfoldable pub put_byte : ℕ → Pen → Pen
put_byte b p = cond (ltb p.at (length p.bytes)) (pen (set p.bytes p.at b) (p.at + 1)) p

unfoldable pub put_all : List ℕ → Pen → Pen
put_all [] p = p
put_all (b ∷ l) p = put_all l (put_byte b p)
