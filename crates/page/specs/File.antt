-- A whole page file: its head, its tables, and the first bad or missing line.
use Rattle.page.specs.declared.PageError.TheVariants.{BadLine}
use Rattle.page.specs.declared.PageError.{PageError}
use Rattle.std.specs.Prelude.{◌≡◌, Bool, List, ℕ, ◌/◌, min, length, take, drop, replicate, leb, Float, Err, Ok, Result}
use Rattle.geometry.specs.Geometry.{zero_f}
use Rattle.text.specs.Pieces.{lines_of}
use Rattle.page.specs.Head.{head_of}
use Rattle.page.specs.Body.{tables, Body, Wrong, Right, rest}
use Rattle.page.specs.declared.Head.{Head}

-- what reading leaves: the answer and both tables
pub record Read : Type 0 where
  pub file : Result Head PageError
  pub words : List ℕ
  pub numbers : List Float

-- 512 nodes at most, and no more than the lent tables take
unfoldable pub node_limit : ℕ → ℕ → ℕ
node_limit lw lx = min 512 (min (lw / 4) (lx / 28))

-- a bad line leaves zeros
unfoldable pub bad_file : ℕ → ℕ → ℕ → Read
bad_file lw lx k = record { file = Err (BadLine k); words = replicate lw 0; numbers = replicate lx zero_f }

unfoldable pub body_file : ℕ → ℕ → Head → Body → Read
body_file lw lx h (Wrong k) = bad_file lw lx k
body_file lw lx h (Right t) = record { file = Ok h; words = t.words; numbers = t.numbers }

-- with the head read: tables start as zeros, and the lines from 6 on fill them
unfoldable pub file_from : Bool → ℕ → ℕ → List ℕ → Result Head PageError → Read
file_from whole lw lx s (Err (BadLine k)) = bad_file lw lx k
file_from whole lw lx s (Ok h) =
    body_file lw lx h (rest whole h.count 6 (tables 0 (replicate lw 0) (replicate lx zero_f)) (drop 5 (lines_of s)))

unfoldable pub file_of : Bool → ℕ → ℕ → List ℕ → Read
file_of whole lw lx s = file_from whole lw lx s (head_of (node_limit lw lx) (lines_of s))

-- a page file for tables of lw words and lx numbers. Of a file over 262,143 bytes that much is read, and the line after it is missing.
unfoldable pub page_file : ℕ → ℕ → List ℕ → Read
page_file lw lx s = file_of (leb (length s) 262143) lw lx (take 262143 s)

pub record ReadAs (want : Read) (r : Result Head PageError) (ws : List ℕ) (xs : List Float) : Type 0 where
  pub file_is : r ≡ want.file
  pub words_are : ws ≡ want.words
  pub numbers_are : xs ≡ want.numbers

-- tables of zeros
pub record Blank (ws : List ℕ) (xs : List Float) : Type 0 where
  pub words_zero : ws ≡ replicate (length ws) 0
  pub numbers_zero : xs ≡ replicate (length xs) zero_f
