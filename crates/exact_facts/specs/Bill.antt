-- A bill in whole pixels, 14 nodes: title, two lines of what and amount, a chart, a sum with a total that is moved up and a stamp out of flow, the day it is due.
-- It is of the profile, and both engines give the same boxes; all computed.
use Rattle.std.specs.Prelude.{◌≡◌, refl, false, List, [], ◌∷◌, map, ℕ, replicate, ℤ, pos, Float, None, Some, Ok}
use Rattle.std.specs.Float.Ieee.{of_bits}
use Rattle.std.specs.Float.{binary32}
use Rattle.geometry.specs.Geometry.{zero_f}
use Rattle.length.specs.declared.AvailableSpace.TheVariants.{MaxContent}
use Rattle.tree.specs.Tree.{flat_t}
use Rattle.steps.specs.Row.{Row}
use Rattle.steps.specs.Page.{page_of}
use Rattle.steps.specs.Question.{root_input}
use Rattle.steps.specs.Layout.{fresh}
use Rattle.steps.specs.Noes.{layout_tested}
use Rattle.steps.specs.declared.LayoutInput.{LayoutInput}
use Rattle.steps.proofs.Computed.{steps, calls}
use Rattle.facts.specs.Pages.{Given, given, numbers_of}
use Rattle.whole.specs.Test.{number}
use Rattle.integers.specs.Rows.{RowZ}
use Rattle.integers.specs.Candidates.{candidates_z}
use Rattle.integers.specs.Results.{candidate_numbers_z}
use Rattle.integers.proofs.Computed.{wholes}
use Rattle.profile.specs.Profile.{whole_sizes, whole_sides, plain_style, profile_style, of_profile, outside, else_at, profile_spot}
use Rattle.exact.specs.Read.{style_z, input_z, page_z}
use Rattle.exact.specs.OnTables.{rows_z}

unfoldable pub bill_words : List ℕ
bill_words =
    0xe ∷ 0x0 ∷ 0x5555000 ∷ 0x55
    ∷ 0x1 ∷ 0x1 ∷ 0x5555000 ∷ 0x55
    ∷ 0x3 ∷ 0x0 ∷ 0x5555000 ∷ 0x55
    ∷ 0x1 ∷ 0x10001 ∷ 0x5555000 ∷ 0x55
    ∷ 0x1 ∷ 0x1 ∷ 0x5515001 ∷ 0x55
    ∷ 0x3 ∷ 0x0 ∷ 0x5555000 ∷ 0x55
    ∷ 0x1 ∷ 0x10001 ∷ 0x5555000 ∷ 0x55
    ∷ 0x1 ∷ 0x1 ∷ 0x5515001 ∷ 0x55
    ∷ 0x2 ∷ 0x21c00 ∷ 0x5555005 ∷ 0x55
    ∷ 0x1 ∷ 0x1 ∷ 0x5555000 ∷ 0x55
    ∷ 0x3 ∷ 0xc00 ∷ 0x5555040 ∷ 0x55
    ∷ 0x1 ∷ 0x11 ∷ 0x5555000 ∷ 0x155
    ∷ 0x1 ∷ 0x21 ∷ 0x5555000 ∷ 0x55
    ∷ 0x1 ∷ 0x1 ∷ 0x5555000 ∷ 0x55
    ∷ []

-- the numbers that are not 0: node, field, bits
unfoldable pub bill_given : List Given
bill_given =
    given 0 10 0x41000000 ∷ given 0 11 0x41000000 ∷ given 0 12 0x41000000 ∷ given 0 13 0x41000000 ∷ given 1 8 0x40c00000 ∷ given 1 25 0x42b40000
    ∷ given 1 26 0x41900000 ∷ given 2 10 0x40000000 ∷ given 2 12 0x40000000 ∷ given 2 16 0x3f800000 ∷ given 3 7 0x42d40000 ∷ given 3 25 0x42840000
    ∷ given 3 26 0x41400000 ∷ given 3 27 0x41100000 ∷ given 4 0 0x429e0000 ∷ given 4 25 0x41f00000 ∷ given 4 26 0x41400000 ∷ given 5 10 0x40000000
    ∷ given 5 12 0x40000000 ∷ given 5 16 0x3f800000 ∷ given 6 7 0x42d40000 ∷ given 6 25 0x42900000 ∷ given 6 26 0x41400000 ∷ given 6 27 0x41100000
    ∷ given 7 0 0x429e0000 ∷ given 7 25 0x41f00000 ∷ given 7 26 0x41400000 ∷ given 8 0 0x43460000 ∷ given 8 1 0x42040000 ∷ given 8 6 0x41200000
    ∷ given 8 8 0x41200000 ∷ given 8 9 0x42040000 ∷ given 8 14 0x3f800000 ∷ given 8 15 0x3f800000 ∷ given 8 16 0x3f800000 ∷ given 8 17 0x3f800000
    ∷ given 9 7 0x41000000 ∷ given 9 9 0x41000000 ∷ given 9 24 0x42700000 ∷ given 9 25 0x43340000 ∷ given 9 26 0x41a00000 ∷ given 10 3 0x42100000
    ∷ given 10 6 0x41400000 ∷ given 10 10 0x40800000 ∷ given 10 11 0x40800000 ∷ given 10 12 0x40800000 ∷ given 10 13 0x40800000 ∷ given 10 14 0x40000000
    ∷ given 10 15 0x40000000 ∷ given 10 16 0x40000000 ∷ given 10 17 0x40000000 ∷ given 11 18 0xc0000000 ∷ given 11 25 0x429a0000 ∷ given 11 26 0x41800000
    ∷ given 12 25 0x41a00000 ∷ given 12 26 0x41a00000 ∷ given 13 6 0x40c00000 ∷ given 13 8 0x40800000 ∷ given 13 25 0x43100000 ∷ given 13 26 0x41400000
    ∷ []

unfoldable pub bill_numbers : List Float
bill_numbers = numbers_of bill_given (replicate 392 zero_f)

-- asked a width of 280
unfoldable pub bill_question : LayoutInput
bill_question =
    root_input
    (record { known = record { width = Some (of_bits binary32 0x438c_0000); height = None }; parent = of_bits binary32 0x438c_0000; definiteHeight = false; available = MaxContent; collapseStart = false; collapseEnd = false })

-- x, y, width and height of each node; of the stamp, which is out of flow: start, line, end, 0
abbrev pub bill_boxes : List ℤ
bill_boxes =
    pos 0 ∷ pos 0 ∷ pos 280 ∷ pos 211
    ∷ pos 8 ∷ pos 8 ∷ pos 264 ∷ pos 18
    ∷ pos 8 ∷ pos 32 ∷ pos 264 ∷ pos 29
    ∷ pos 0 ∷ pos 2 ∷ pos 158 ∷ pos 12
    ∷ pos 185 ∷ pos 14 ∷ pos 79 ∷ pos 12
    ∷ pos 8 ∷ pos 61 ∷ pos 264 ∷ pos 29
    ∷ pos 0 ∷ pos 2 ∷ pos 158 ∷ pos 12
    ∷ pos 185 ∷ pos 14 ∷ pos 79 ∷ pos 12
    ∷ pos 41 ∷ pos 100 ∷ pos 198 ∷ pos 33
    ∷ pos 9 ∷ pos 12 ∷ pos 180 ∷ pos 20
    ∷ pos 8 ∷ pos 145 ∷ pos 264 ∷ pos 36
    ∷ pos 6 ∷ pos 12 ∷ pos 252 ∷ pos 16
    ∷ pos 6 ∷ pos 30 ∷ pos 258 ∷ pos 0
    ∷ pos 8 ∷ pos 187 ∷ pos 264 ∷ pos 12
    ∷ []

abbrev pub box_of : ℕ → Row → List ℤ
box_of n r = number r.place.x ∷ number r.place.y ∷ number r.answer.size.width ∷ number r.answer.size.height ∷ []

abbrev pub box_of_z : ℕ → RowZ → List ℤ
box_of_z n r = r.place.x ∷ r.place.y ∷ r.size.width ∷ r.size.height ∷ []

-- the bill is of the profile
pub bill_in_profile : profile_spot bill_words bill_numbers bill_question ≡ None
unfolding calls profile_spot else_at outside of_profile profile_style whole_sizes whole_sides plain_style bill_words bill_given bill_numbers bill_question numbers_of root_input
bill_in_profile = refl

-- the engine's boxes, read as numbers
pub bill_by_floats : flat_t box_of (fresh (page_of bill_words bill_numbers []) bill_question).rows ≡ bill_boxes
unfolding steps bill_words bill_given bill_numbers bill_question numbers_of root_input
bill_by_floats = refl

-- the integer engine's
pub bill_by_integers : flat_t box_of_z (rows_z bill_words bill_numbers bill_question) ≡ bill_boxes
unfolding steps wholes style_z input_z page_z bill_words bill_given bill_numbers bill_question numbers_of root_input
bill_by_integers = refl

-- the stamp is the one candidate: start, end and line on the page
pub bill_stamp : map candidate_numbers_z (candidates_z (rows_z bill_words bill_numbers bill_question)) ≡ (pos 14 ∷ pos 266 ∷ pos 175 ∷ []) ∷ []
unfolding steps wholes style_z input_z page_z bill_words bill_given bill_numbers bill_question numbers_of root_input
bill_stamp = refl

-- A layout of it that is lent one record passes the tests, so the theorem speaks of this page.
pub bill_tested : layout_tested bill_words bill_numbers (replicate 224 zero_f) (replicate 28 0) (replicate 2 0) (replicate 3 zero_f) bill_question ≡ Ok tt
unfolding calls bill_words bill_given bill_numbers bill_question numbers_of root_input
bill_tested = refl
