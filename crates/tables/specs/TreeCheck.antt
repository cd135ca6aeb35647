-- A table that passes the tests 1 and 2.
use Rattle.std.specs.Prelude.{◌≡◌, List, ℕ, ◌<◌, ◌≤◌, None}
use Rattle.steps.specs.Scan.{lowest}
use Rattle.steps.specs.Page.{nodes_in}
use Rattle.steps.specs.Noes.{bad_tree}

pub record GoodTable (ws : List ℕ) : Type 0 where
  pub some : 0 < nodes_in ws
  pub few : nodes_in ws ≤ 1024
  pub sound : lowest (bad_tree ws) (nodes_in ws) ≡ None
