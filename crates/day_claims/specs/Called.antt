-- What a layout or a relayout leaves: all as lent, zero rows, or an answer of 0.
use Rattle.steps.specs.declared.Refusal.TheVariants.{Lengths, Edits, NotLaid, TooLarge}
use Rattle.steps.specs.declared.Refusal.{Refusal}
use Rattle.std.specs.Prelude.{◌≡◌, refl, Bool, true, false, not, ◌||◌, List, [], ℕ, zero, suc, ◌+◌, ◌*◌, ◌/◌, ◌<◌, ◌≤◌, min, length, get_or, replicate, eqb, ltb, Float, Option, None, Some, Result, Ok, Err, ⊤}
use Rattle.std.proofs.Common.{sym, ◌∙◌, ap, arith}
use borrow.Author.Tests.{ltb-false, not-false}
use Rattle.geometry.specs.Geometry.{zero_f}
use Rattle.style.specs.Codes.{flag_at}
use Rattle.style.specs.Style.{plane_of}
use Rattle.tree.specs.Tree.{Tree}
use Rattle.steps.specs.Row.{Row}
use Rattle.steps.specs.Scan.{lowest, first_of}
use Rattle.steps.specs.Page.{nodes_in, page_of, cells_of}
use Rattle.steps.specs.Layout.{relaid, fresh}
use Rattle.steps.specs.Noes.{paper, refuse_if, and_then, at_spot, bad_tables, bad_rows, bad_row, bad_edit, no5, no6, no7, page_tested, layout_tested, relayout_tested}
use Rattle.steps.specs.Results.{Reply, rows_out, accepted, over_limit, replied, tested, layout_result, relayout_result}
use Rattle.steps.specs.declared.LayoutInput.{LayoutInput}
use Rattle.tree.specs.declared.NodeId.{NodeId}
use Rattle.tables.proofs.Passing.{then_pass_1, then_pass_2, if_pass, sized}

-- a reply to tests that gave t
pub data Kind (t : Result ⊤ Refusal) (rs : List Float) (ms cw : List ℕ) (cx : List Float) (r : Reply) : Type 0 where
  is_as_lent : (a : Refusal) → t ≡ Err a → r ≡ record { answer = Err a; rows = rs; marks = ms; words = cw; numbers = cx } → Kind t rs ms cw cx r
  zeroed : (i : NodeId) → t ≡ Ok tt → r.answer ≡ Err (TooLarge i) → r.marks ≡ replicate (length ms) 0 → Kind t rs ms cw cx r
  done : (k : ℕ) → r.answer ≡ Ok k → Kind t rs ms cw cx r

over_kind : (w : Option NodeId) (t : Tree Row) (rs : List Float) (ms cw : List ℕ) (cx : List Float) → Kind (Ok tt) rs ms cw cx (over_limit w t rs ms cw cx)
unfolding over_limit accepted
over_kind None t rs ms cw cx = done _ refl
over_kind (Some i) t rs ms cw cx = zeroed i refl refl refl

tested_kind : (x : Result ⊤ Refusal) (n : ℕ) (t : Tree Row) (rs : List Float) (ms cw : List ℕ) (cx : List Float) → Kind x rs ms cw cx (tested x (replied n t rs ms cw cx) rs ms cw cx)
unfolding tested replied
tested_kind (Ok _) n t rs ms cw cx = over_kind (lowest (bad_row (rows_out t)) n) t rs ms cw cx
tested_kind (Err a) n t rs ms cw cx = is_as_lent a refl refl

module _ (ws : List ℕ) (xs rs : List Float) (ms cw : List ℕ) (cx : List Float) where
  pub layout-kind : (q : LayoutInput) → Kind (layout_tested ws xs rs ms cw cx q) rs ms cw cx (layout_result ws xs rs ms cw cx q)
  unfolding layout_result
  layout-kind q = tested_kind (layout_tested ws xs rs ms cw cx q) (nodes_in ws) (fresh (page_of ws xs []) q).rows rs ms cw cx

  pub relayout-kind : (es : List ℕ) (q : LayoutInput) → Kind (relayout_tested ws xs rs ms cw cx es q) rs ms cw cx (relayout_result ws xs rs ms cw cx es q)
  unfolding relayout_result
  relayout-kind es q = tested_kind (relayout_tested ws xs rs ms cw cx es q) (nodes_in ws) (relaid (cells_of ws xs rs ms es) q).rows rs ms cw cx

  or_left : (a b : Bool) → a || b ≡ false → a ≡ false
  or_left true b e = e
  or_left false b e = refl

  -- tables that pass have a number of each node in a plane
  pub planes-pass : (q : LayoutInput) → layout_tested ws xs rs ms cw cx q ≡ Ok tt → plane_of xs ≡ nodes_in ws
  unfolding layout_tested
  planes-pass q e =
      let f = if_pass (bad_tables ws xs || bad_rows ws rs ms) Lengths (then_pass_1 (refuse_if (bad_tables ws xs || bad_rows ws rs ms) Lengths) _ e) in
      omega (arith, (sized ws xs (or_left (bad_tables ws xs) (bad_rows ws rs ms) f)).numbers)

  module _ (es : List ℕ) (q : LayoutInput) (e : relayout_tested ws xs rs ms cw cx es q ≡ Ok tt) where
    tail-pass : and_then (no6 es (nodes_in ws)) (no7 ms) ≡ Ok tt
    unfolding relayout_tested
    tail-pass = then_pass_2 (layout_tested ws xs rs ms cw cx q) _ e

    -- a relayout that passes has at most 64 edits
    pub few-edits : length es ≤ 64
    unfolding no6
    few-edits =
        ltb-false 64 (length es)
        (if_pass (ltb 64 (length es)) (Edits 64)
        (then_pass_2 (at_spot (first_of (bad_edit es (nodes_in ws)) (min 64 (length es)))) _ (then_pass_1 (no6 es (nodes_in ws)) (no7 ms) tail-pass)))

    -- and a root that is laid
    pub root_laid : flag_at (get_or ms 1 0) 0 ≡ true
    unfolding no7
    root_laid = not-false (flag_at (get_or ms 1 0) 0) (if_pass (not (flag_at (get_or ms 1 0) 0)) NotLaid (then_pass_2 (no6 es (nodes_in ws)) (no7 ms) tail-pass))

zeros : (n i : ℕ) → ◌≡◌ {A = ℕ} (get_or (replicate n 0) i 0) 0
zeros zero i = refl
zeros (suc n) zero = refl
zeros (suc n) (suc i) = zeros n i

-- zero marks have no laid root
pub zero_marks : (n : ℕ) (ms : List ℕ) → ms ≡ replicate n 0 → flag_at (get_or ms 1 0) 0 ≡ false
zero_marks n ms e = rw (e, zeros n 1)
