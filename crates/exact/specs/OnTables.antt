-- The theorem of lent tables: of a layout, of a relayout from rows that calls left, and of the size question.
use Rattle.steps.specs.declared.Refusal.TheVariants.{Lengths}
use Rattle.steps.specs.declared.Refusal.{Refusal}
use Rattle.tree.specs.declared.NodeId.{NodeId}
use Rattle.std.specs.Prelude.{◌≡◌, refl, false, ◌||◌, List, [], ℕ, ◌≤◌, length, Float, Option, None, Result, Ok, ⊤}
use Rattle.std.proofs.Common.{ap, arith}
use Rattle.geometry.specs.declared.Size.{Size}
use Rattle.limits.specs.Bools.{or_left}
use Rattle.tree.specs.Tree.{Tree, count_t, depth_t}
use Rattle.steps.specs.Row.{Row}
use Rattle.steps.specs.Scan.{lowest}
use Rattle.steps.specs.Page.{page_of}
use Rattle.steps.specs.Candidates.{candidates, candidate_numbers}
use Rattle.steps.specs.Noes.{bad_tables, bad_rows, bad_row, refuse_if, no5, page_tested, layout_tested}
use Rattle.steps.specs.Results.{Reply, rows_out, listed, on_front, accepted, over_limit, replied, tested, size_reply, size_by_test, size_result}
use Rattle.steps.specs.declared.LayoutInput.{LayoutInput}
use Rattle.steps.specs.declared.RequestedAxis.{RequestedAxis}
use Rattle.tables.specs.TreeCheck.{GoodTable}
use Rattle.tables.proofs.Passing.{sized, page_passes, then_pass_1, then_pass_2, if_pass}
use Rattle.tables.proofs.GoodPage.{good_page}
use Rattle.whole.specs.Whole.{Whole}
use Rattle.integers.specs.Numbers.{SizeZ}
use Rattle.integers.specs.Rows.{RowZ}
use Rattle.integers.specs.Layout.{fresh_z}
use Rattle.integers.specs.Candidates.{candidates_z}
use Rattle.integers.specs.Results.{rows_out_z, marks_out_z, candidate_words_z, candidate_numbers_z}
use Rattle.profile.specs.Profile.{profile_spot}
use Rattle.profile.specs.Exact.{yes_told}
use Rattle.profile.specs.Page.{ProfilePage, ProfileQuestion, question_in}
use Rattle.profile.proofs.Page.{page_in}
use Rattle.exact.specs.Read.{input_z, page_z}
use Rattle.exact.specs.Trees.{RelT}
use Rattle.exact.specs.Widths.{Holds}
use Rattle.exact.specs.Rows.{Same}
use Rattle.exact.specs.Candidates.{CandsAre}
use Rattle.exact.specs.Listed.{same_count, same_words, same_numbers}
use Rattle.exact.specs.Sizes.{SizeHolds}
use Rattle.exact.specs.Lists.{RelL, rel-weak, rows_out_lem, marks_out_lem, small_number}

-- the rows that the integer engine gives the page of these tables
abbrev pub rows_z : List ℕ → List Float → LayoutInput → Tree RowZ
rows_z ws xs q = (fresh_z (page_z (page_of ws xs [])) (input_z q)).rows

-- what the test of the profile and the tests before any write tell
pub record Told (ws : List ℕ) (xs : List Float) (q : LayoutInput) : Type 0 where
  pub page : ProfilePage (page_of ws xs [])
  pub question : ProfileQuestion q
  pub count : count_t (page_of ws xs []) ≤ 1024
  pub depth : depth_t (page_of ws xs []) ≤ 32

pub told : (ws : List ℕ) (xs : List Float) (q : LayoutInput) → bad_tables ws xs ≡ false → page_tested ws xs q ≡ Ok tt → profile_spot ws xs q ≡ None → Told ws xs q
told ws xs q b t e =
    let z = sized ws xs b in
    let p = page_passes ws xs q t in
    let s = yes_told ws xs q e in
    let good : GoodTable ws = record { some = z.some; few = z.few; sound = p.tree } in
    let g = good_page ws good xs [] in
    let c = g.count in
    let f = z.few in
    record {
      page = page_in ws xs z.some s.0;
      question = question_in q s.1;
      count = omega arith;
      depth = g.shallow;
    }

-- ---- a layout
-- The reply of an exact call: it is accepted, so refusal 8 is not given; every number of every row and of every candidate is, as a number, the integer
-- engine's; row words and candidate words are the same, and memory past the list is as lent.
pub record ExactReply (r : Reply) (t : Tree RowZ) (cw : List ℕ) (cx : List Float) : Type 0 where
  pub answer : r.answer ≡ Ok (length (candidates_z t))
  pub rows : RelL Whole r.rows (rows_out_z t)
  pub marks : r.marks ≡ marks_out_z t
  pub words : r.words ≡ on_front (listed candidate_words_z (candidates_z t)) cw
  pub list : List Float
  pub front : r.numbers ≡ on_front list cx
  pub numbers : RelL Whole list (listed candidate_numbers_z (candidates_z t))

limit_reply : (w : Option NodeId) (t : Tree Row) (rs : List Float) (ms cw : List ℕ) (cx : List Float) → w ≡ None → over_limit w t rs ms cw cx ≡ accepted t cw cx
unfolding over_limit
limit_reply w t rs ms cw cx e = rw e

pub passed_reply : (u : Result ⊤ Refusal) (n : ℕ) (t : Tree Row) (rs : List Float) (ms cw : List ℕ) (cx : List Float) → u ≡ Ok tt → lowest (bad_row (rows_out t)) n ≡ None → tested u (replied n t rs ms cw cx) rs ms cw cx ≡ accepted t cw cx
unfolding tested replied
passed_reply u n t rs ms cw cx p e = rw p (limit_reply (lowest (bad_row (rows_out t)) n) t rs ms cw cx e)

pub exact_reply : (t : Tree Row) (u : Tree RowZ) (cw : List ℕ) (cx : List Float) → RelT Same t u → CandsAre 16777215 16777215 (candidates t) (candidates_z u) → ExactReply (accepted t cw cx) u cw cx
unfolding accepted
exact_reply t u cw cx p q =
    record {
      answer = ap Ok (same_count q);
      rows = rel-weak Holds Whole (λ x k h. h.whole) _ _ (rows_out_lem t u p);
      marks = marks_out_lem t u p;
      words = ap (λ (l : List ℕ). on_front l cw) (same_words q);
      list = listed candidate_numbers (candidates t);
      front = refl;
      numbers = rel-weak Holds Whole (λ x k h. h.whole) _ _ (same_numbers _ _ q);
    }

pub layout_told : (ws : List ℕ) (xs rs : List Float) (ms cw : List ℕ) (cx : List Float) (q : LayoutInput) → layout_tested ws xs rs ms cw cx q ≡ Ok tt → profile_spot ws xs q ≡ None → Told ws xs q
unfolding layout_tested
layout_told ws xs rs ms cw cx q e s =
    let b = or_left (bad_tables ws xs) _ (if_pass (bad_tables ws xs || bad_rows ws rs ms) Lengths (then_pass_1 (refuse_if (bad_tables ws xs || bad_rows ws rs ms) Lengths) _ e)) in
    told ws xs q b (then_pass_1 (page_tested ws xs q) (no5 ws xs cw cx) (then_pass_2 (refuse_if (bad_tables ws xs || bad_rows ws rs ms) Lengths) _ e)) s

-- ---- the size question
pub record ExactSize (ws : List ℕ) (xs : List Float) (q : LayoutInput) (a : RequestedAxis) (z : SizeZ) : Type 0 where
  pub size : Size Float
  pub answer : size_result ws xs q a ≡ Ok size
  pub width : Whole size.width z.width
  pub height : Whole size.height z.height

size_small : (s : Size Float) (z : SizeZ) → SizeHolds s z → size_reply s ≡ Ok s
unfolding size_reply
size_small s z p = rw (small_number p.width, small_number p.height)

pub by_test_lem : (t : Result ⊤ Refusal) (s : Size Float) (z : SizeZ) → t ≡ Ok tt → SizeHolds s z → size_by_test t (size_reply s) ≡ Ok s
unfolding size_by_test
by_test_lem t s z e p = rw e (size_small s z p)
