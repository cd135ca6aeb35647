-- The finished rows over whole numbers as lists, as a call leaves them.
use Rattle.std.specs.Prelude.{List, [], ◌∷◌, ℕ, ℤ}
use Rattle.tree.specs.Tree.{Tree, flat_t}
use Rattle.integers.specs.Rows.{RowZ, row_numbers_z, row_words_z}
use Rattle.integers.specs.Candidates.{CandidateZ}

-- 16 numbers and two words of each row
unfoldable pub rows_out_z : Tree RowZ → List ℤ
rows_out_z t = flat_t (λ _ r. row_numbers_z r) t

unfoldable pub marks_out_z : Tree RowZ → List ℕ
marks_out_z t = flat_t (λ _ r. row_words_z r) t

-- two words and three numbers of each candidate
abbrev pub candidate_words_z : CandidateZ → List ℕ
candidate_words_z c = c.node ∷ c.order ∷ []

abbrev pub candidate_numbers_z : CandidateZ → List ℤ
candidate_numbers_z c = c.start ∷ c.end ∷ c.line ∷ []
