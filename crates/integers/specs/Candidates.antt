-- The candidate list of finished rows, over whole numbers.
use Rattle.std.specs.Prelude.{cond, List, [], ◌∷◌, ◌++◌, map, ℕ, suc, ◌+◌, ℤ, ◌+ℤ◌}
use Rattle.style.specs.Codes.{flag_at}
use Rattle.tree.specs.Tree.{Tree, Forest, node, none, more, count_t}
use Rattle.integers.specs.Rows.{RowZ}

pub record CandidateZ : Type 0 where
  pub node : ℕ
  pub order : ℕ
  pub start : ℤ
  pub end : ℤ
  pub line : ℤ

unfoldable pub candidate_of_z : ℕ → RowZ → CandidateZ
candidate_of_z b r = record { node = b; order = r.order; start = r.place.x; end = r.size.width; line = r.place.y }

-- a place is added: x to start and end, y to line
unfoldable pub moved_by_z : RowZ → CandidateZ → CandidateZ
moved_by_z r c =
    record { node = c.node; order = c.order; start = c.start +ℤ r.place.x; end = c.end +ℤ r.place.x; line = c.line +ℤ r.place.y }

unfoldable pub candidates_at_z : ℕ → RowZ → List CandidateZ → List CandidateZ
candidates_at_z b r below = cond (flag_at r.bits 0) (map (moved_by_z r) below) (cond (flag_at r.bits 2) (candidate_of_z b r ∷ []) [])

-- in preorder; b is the number of the first node
unfoldable mutual
  pub candidates_tz : ℕ → Tree RowZ → List CandidateZ
  candidates_tz b (node r ks) = candidates_at_z b r (candidates_fz (suc b) ks)

  pub candidates_fz : ℕ → Forest RowZ → List CandidateZ
  candidates_fz b none = []
  candidates_fz b (more t ts) = candidates_tz b t ++ candidates_fz (b + count_t t) ts

-- the page's list: the root's place is not added
unfoldable pub candidates_z : Tree RowZ → List CandidateZ
candidates_z (node r ks) = candidates_fz 1 ks
