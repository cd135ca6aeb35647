-- The page as it stands, and the list of the nodes that were edited since the last accepted call.
use Rattle.std.specs.Prelude.{Bool, cond, ◌&&◌, List, ℕ, ◌+◌, ◌*◌, ◌/◌, length, set, ltb, leb, Float}
use Rattle.style.specs.Style.{number_place}
use Rattle.steps.specs.Page.{nodes_in}
use Rattle.sheet.specs.declared.NodeNumber.{NodeNumber}
use Rattle.sheet.specs.declared.NodeWord.{NodeWord}

-- node words and numbers; the lent list, and how many edits it holds
pub record Sheet : Type 0 where
  pub words : List ℕ
  pub numbers : List Float
  pub list : List ℕ
  pub count : ℕ

abbrev pub sheet : List ℕ → List Float → List ℕ → ℕ → Sheet
sheet ws xs l c = record { words = ws; numbers = xs; list = l; count = c }

-- one more index at the end of the list; a full list stays, as more than 64 say all
unfoldable pub noted : ℕ → List ℕ → ℕ → List ℕ × ℕ
noted i l c = cond (ltb c (length l)) (set l c i, c + 1) (l, c)

-- the edit of a node, and its index in the list
unfoldable pub edit_of : ℕ → List ℕ → List Float → Sheet → Sheet
edit_of i ws xs s = sheet ws xs (noted i s.list s.count).0 (noted i s.list s.count).1

-- there is such a node, with such a number: a place in planes of n
unfoldable pub has_number : NodeNumber → Sheet → Bool
has_number x s = ltb x.node.0 (nodes_in s.words) && ltb x.field (length s.numbers / nodes_in s.words)

-- there is such a node, with such a word; word 0 is not edited
unfoldable pub has_word : NodeWord → Sheet → Bool
has_word x s = ltb x.node.0 (nodes_in s.words) && (ltb 0 x.word && leb x.word 3)

-- a number of a node; what does not exist is not edited
unfoldable pub number_edit : NodeNumber → Sheet → Sheet
number_edit x s =
    cond (has_number x s) (edit_of x.node.0 s.words (set s.numbers (number_place (nodes_in s.words) x.node.0 x.field) x.value) s) s

-- a word of a node
unfoldable pub word_edit : NodeWord → Sheet → Sheet
word_edit x s = cond (has_word x s) (edit_of x.node.0 (set s.words (x.node.0 * 4 + x.word) x.bits) s.numbers s) s
