-- An edit of the page, case by case. Assumes nothing.
use mathlib.Core.Path.{◌≡◌}
use mathlib.Core.List.{List}
use Prim.Native.Nat.{ℕ, suc, ◌+◌, ◌*◌, ◌/◌, ◌<◌, ◌≤◌}
use native.Mathlib.Omega.{arith}
use native.Mathlib.Nat.{suc-mul, mul-le-mul_right, div-mul-le_self}
use lib.ListN.{length, set}
use lib.Ieee.{Float}
use borrow.Author.Tests.{lt-ltb, le-ltb, le-leb, lt-leb}
use Rattle.style.specs.Style.{number_place}
use Rattle.steps.specs.Page.{nodes_in}
use Rattle.sheet.specs.Sheet.{sheet, noted, edit_of, has_number, has_word, number_edit, word_edit}
use Rattle.sheet.specs.declared.NodeNumber.{NodeNumber}
use Rattle.sheet.specs.declared.NodeWord.{NodeWord}

-- the list takes an index, or is full
pub full : (i : ℕ) (l : List ℕ) (c : ℕ) → length l ≤ c → noted i l c ≡ (l, c)
unfolding noted
full i l c h = rw (le-ltb c (length l) h)

pub room : (i : ℕ) (l : List ℕ) (c : ℕ) → c < length l → noted i l c ≡ (set l c i, c + 1)
unfolding noted
room i l c h = rw (lt-ltb c (length l) h)

-- a number that a node has stands in the table
pub place_in : (n i f len : ℕ) → i < n → f < len / n → number_place n i f < len
place_in n i f len h g = omega (arith, suc-mul f n, mul-le-mul_right {m = suc f} {n = len / n} n g, div-mul-le_self len n)

module _ (x : NodeNumber) (ws : List ℕ) (xs : List Float) (l : List ℕ) (c : ℕ) where
  pub number-no-node : nodes_in ws ≤ x.node.0 → sheet ws xs l c ≡ number_edit x (sheet ws xs l c)
  unfolding number_edit has_number
  number-no-node h = rw (le-ltb x.node.0 (nodes_in ws) h)

  pub number-no-field : x.node.0 < nodes_in ws → length xs / nodes_in ws ≤ x.field → sheet ws xs l c ≡ number_edit x (sheet ws xs l c)
  unfolding number_edit has_number
  number-no-field h g = rw (lt-ltb x.node.0 (nodes_in ws) h, le-ltb x.field (length xs / nodes_in ws) g)

  pub number-edited : (l' : List ℕ) (c' : ℕ) → x.node.0 < nodes_in ws → x.field < length xs / nodes_in ws → noted x.node.0 l c ≡ (l', c')
      → sheet ws (set xs (number_place (nodes_in ws) x.node.0 x.field) x.value) l' c' ≡ number_edit x (sheet ws xs l c)
  unfolding number_edit has_number edit_of
  number-edited l' c' h g e = rw (lt-ltb x.node.0 (nodes_in ws) h, lt-ltb x.field (length xs / nodes_in ws) g, e)

module _ (x : NodeWord) (ws : List ℕ) (xs : List Float) (l : List ℕ) (c : ℕ) where
  pub word-no-node : nodes_in ws ≤ x.node.0 → sheet ws xs l c ≡ word_edit x (sheet ws xs l c)
  unfolding word_edit has_word
  word-no-node h = rw (le-ltb x.node.0 (nodes_in ws) h)

  pub word-zero : x.node.0 < nodes_in ws → x.word ≡ 0 → sheet ws xs l c ≡ word_edit x (sheet ws xs l c)
  unfolding word_edit has_word
  word-zero h e = rw (lt-ltb x.node.0 (nodes_in ws) h, e)

  pub word-large : x.node.0 < nodes_in ws → 0 < x.word → 3 < x.word → sheet ws xs l c ≡ word_edit x (sheet ws xs l c)
  unfolding word_edit has_word
  word-large h p g = rw (lt-ltb x.node.0 (nodes_in ws) h, lt-ltb 0 x.word p, lt-leb x.word 3 g)

  pub word-edited : (l' : List ℕ) (c' : ℕ) → x.node.0 < nodes_in ws → 0 < x.word → x.word ≤ 3 → noted x.node.0 l c ≡ (l', c')
      → sheet (set ws (x.node.0 * 4 + x.word) x.bits) xs l' c' ≡ word_edit x (sheet ws xs l c)
  unfolding word_edit has_word edit_of
  word-edited l' c' h p g e = rw (lt-ltb x.node.0 (nodes_in ws) h, lt-ltb 0 x.word p, le-leb x.word 3 g, e)
