-- A replay of a day: after each accepted relayout the rows, marks and candidates are those of a fresh layout of the page as the trace has made it by then.
use Rattle.std.specs.Prelude.{◌≡◌, ◌≤◌, length, replicate}
use Rattle.day.specs.Day.{Day}
use Rattle.day_claims.specs.Called.{zero_marks}
use Rattle.day_claims.specs.Standing.{unlaid, KeptDay}

-- the start of a day: zero rows, an empty list, and room in it for 65 edits
pub record Starts (d : Day) : Type 0 where
  pub marks_zero : d.marks ≡ replicate (length d.marks) 0
  pub empty : d.page.count ≡ 0
  pub room : 65 ≤ length d.page.list

pub start_kept : (d : Day) → Starts d → KeptDay d
start_kept d s = record { room = s.room; standing = unlaid d.page d.rows d.marks (zero_marks (length d.marks) d.marks s.marks_zero) }
