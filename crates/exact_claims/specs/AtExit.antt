-- At exit of the public calls: what an exact call leaves in lent memory, and rows that any accepted calls left.
use Rattle.steps.specs.declared.Refusal.{Refusal}
use Rattle.std.specs.Prelude.{◌≡◌, List, ℕ, Float, None, Result, Ok}
use Rattle.tree.specs.Tree.{Tree}
use Rattle.steps.specs.Noes.{layout_tested}
use Rattle.steps.specs.Results.{Reply, layout_result}
use Rattle.steps.specs.declared.LayoutInput.{LayoutInput}
use Rattle.layout.specs.Public.{Replied}
use Rattle.whole.specs.Whole.{Whole}
use Rattle.integers.specs.Rows.{RowZ}
use Rattle.integers.specs.Results.{rows_out_z, marks_out_z}
use Rattle.profile.specs.Profile.{profile_spot}
use Rattle.exact.specs.Lists.{RelL}
use Rattle.exact.specs.OnTables.{rows_z, ExactReply}
use Rattle.exact.proofs.OnTables.{layout_is_exact}

-- answer and lent memory at exit
abbrev pub exit : Result ℕ Refusal → List Float → List ℕ → List ℕ → List Float → Reply
exit a rs ms cw cx = record { answer = a; rows = rs; marks = ms; words = cw; numbers = cx }

pub at_exit : (r : Reply) (a : Result ℕ Refusal) (rs : List Float) (ms cw : List ℕ) (cx : List Float) → Replied r a rs ms cw cx → exit a rs ms cw cx ≡ r
at_exit r a rs ms cw cx p = rw (p.answer_is, p.rows_are, p.marks_are, p.words_are, p.numbers_are)

-- ---- each call by itself
pub layout_leaves_exact : (ws : List ℕ) (xs rs : List Float) (ms cw : List ℕ) (cx : List Float) (q : LayoutInput) (a : Result ℕ Refusal) (rs' : List Float) (ms' cw' : List ℕ) (cx' : List Float)
    → Replied (layout_result ws xs rs ms cw cx q) a rs' ms' cw' cx' → layout_tested ws xs rs ms cw cx q ≡ Ok tt → profile_spot ws xs q ≡ None → ExactReply (exit a rs' ms' cw' cx') (rows_z ws xs q) cw cx
layout_leaves_exact ws xs rs ms cw cx q a rs' ms' cw' cx' c e s = rw (at_exit _ a rs' ms' cw' cx' c) (layout_is_exact ws xs rs ms cw cx q e s)

-- ---- rows that accepted calls left, plain, over records or from C, the last of them on a page and a question of the profile
pub record ExactRows (rs : List Float) (ms : List ℕ) (t : Tree RowZ) : Type 0 where
  pub rows : RelL Whole rs (rows_out_z t)
  pub marks : ms ≡ marks_out_z t

pub rows_in : (r : Reply) (t : Tree RowZ) (cw : List ℕ) (cx : List Float) → ExactReply r t cw cx → ExactRows r.rows r.marks t
rows_in r t cw cx e = record { rows = e.rows; marks = e.marks }
