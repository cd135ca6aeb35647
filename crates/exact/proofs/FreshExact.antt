-- The theorem on trees: a layout of a page of the profile is that over whole numbers, row by row. Assumes nothing.
use Rattle.std.specs.Prelude.{◌≤◌}
use Rattle.std.proofs.Common.{arith}
use Rattle.tree.specs.Tree.{Tree, count_t, depth_t}
use Rattle.steps.specs.Page.{Site}
use Rattle.steps.specs.Candidates.{candidates}
use Rattle.steps.specs.Layout.{fresh}
use Rattle.steps.specs.declared.LayoutInput.{LayoutInput}
use Rattle.integers.specs.Candidates.{candidates_z}
use Rattle.integers.specs.Layout.{fresh_z}
use Rattle.profile.specs.Page.{ProfilePage, ProfileQuestion}
use Rattle.exact.specs.Read.{input_z, page_z}
use Rattle.exact.specs.Trees.{RelT}
use Rattle.exact.specs.Rows.{Same}
use Rattle.exact.specs.Candidates.{CandsAre, cands_wide}
use Rattle.exact.proofs.Fresh.{fresh_at}
use Rattle.exact.specs.Fresh.{cands_of, rows_same}

-- A page of the profile, at most 1,024 nodes and 32 levels, asked a question of the profile: in every row of a layout each of the 16 numbers is the whole
-- number of the integer engine's row, and below 2 ^ 24 in size; order and bits are the same.
pub fresh_is_exact : (t : Tree Site) (q : LayoutInput) → ProfilePage t → ProfileQuestion q → count_t t ≤ 1024 → depth_t t ≤ 32 → RelT Same (fresh t q).rows (fresh_z (page_z t) (input_z q)).rows
fresh_is_exact t q p e u v = rows_same _ _ (fresh_at t q p e u v).rows

-- and the candidate list is the same: its words, and each number the same whole number
pub candidates_are_exact : (t : Tree Site) (q : LayoutInput) → ProfilePage t → ProfileQuestion q → count_t t ≤ 1024 → depth_t t ≤ 32 → CandsAre 16777215 16777215 (candidates (fresh t q).rows) (candidates_z (fresh_z (page_z t) (input_z q)).rows)
candidates_are_exact t q p e u v =
    let a = fresh_at t q p e u v in
    let s = a.out.sum in
    cands_wide (cands_of _ _ a.below) (omega arith) (omega arith)
