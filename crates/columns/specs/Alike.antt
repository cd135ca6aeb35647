-- Readers of as many numbers that agree on the 28 fields of every node, at least where the lengths pass, give one result.
use Rattle.steps.specs.declared.Refusal.TheVariants.{Lengths, Numbers, Room}
use Rattle.steps.specs.declared.Refusal.{Refusal}
use Rattle.geometry.specs.declared.Size.{Size}
use Rattle.std.specs.Prelude.{◌≡◌, refl, Bool, true, ◌||◌, List, [], ltb, Float, Result, Ok, Err, ⊤}
use Rattle.std.proofs.Common.{sym, ◌∙◌, arith}
use Rattle.std.proofs.Math.Path.{ap, fun_ext}
use Rattle.std.proofs.Math.Bool.{false}
use Prim.Native.Nat.{ℕ, zero, suc, ◌+◌, ◌<◌}
use Rattle.limits.specs.Bools.{or_left}
use Rattle.style.specs.Codes.{unit_of}
use Rattle.style.specs.Style.{word_at}
use Rattle.tree.specs.Tree.{Tree}
use Rattle.tree.specs.Table.{Entry, parse_t}
use Rattle.steps.specs.Scan.{scan, lowest, some}
use Rattle.steps.specs.Page.{Site, Cell, nodes_in}
use Rattle.steps.specs.Candidates.{needed}
use Rattle.steps.specs.Layout.{relaid, fresh}
use Rattle.steps.specs.SizeQuestion.{size_of}
use Rattle.steps.specs.Noes.{refuse_if, and_then, bad_rows, bad_field, bad_question, records_in, at_fault, no2, no3_by, no6, no7}
use Rattle.steps.specs.Results.{Reply, replied, tested, size_reply, size_by_test}
use Rattle.steps.specs.declared.LayoutInput.{LayoutInput}
use Rattle.steps.specs.declared.RequestedAxis.{RequestedAxis}
use Rattle.tables.proofs.ScanLaws.{next-yes, next-no}
use Rattle.tables.proofs.Passing.{then_pass_1, if_pass}
use Rattle.columns.specs.Reader.{Reader, length_with, size_with, rect_with, measure_with, style_with, site_with, cell_with, page_with, cells_with, bad_tables_with, bad_style_with, bad_numbers_with, no4_with, no5_with, page_tested_with, layout_tested_with, relayout_tested_with, size_tested_with, layout_with, relayout_with, size_result_with}

-- the 28 numbers of every node are the same
abbrev pub Alike : Reader → Reader → Type 0
Alike r s = (i f : ℕ) → f < 28 → r.number i f ≡ s.number i f

-- a scan over what agrees as far as it goes
scan_same : {A : Type 0} (p t : ℕ → Bool) (hit : ℕ → A) (none : A) (i n : ℕ) → ((k : ℕ) → k < i + n → p k ≡ t k) → scan p hit none i n ≡ scan t hit none i n
unfolding scan
scan_same p t hit none i zero h = refl
scan_same p t hit none i (suc n) h = go (t i) refl (scan_same p t hit none (i + 1) n (λ k l. h k (omega arith)))
  where
    go : (b : Bool) → t i ≡ b → scan p hit none (i + 1) n ≡ scan t hit none (i + 1) n → scan p hit none i (suc n) ≡ scan t hit none i (suc n)
    go true e rest = next-yes p hit none i n (h i (omega arith) ∙ e) ∙ sym (next-yes t hit none i n e)
    go false e rest = next-no p hit none i n (h i (omega arith) ∙ e) ∙ rest ∙ sym (next-no t hit none i n e)

-- ---- numbers that agree: the same styles, pages and tests
module _ (r s : Reader) (alike : Alike r s) (ws : List ℕ) where
  same_style : (i j : ℕ) → style_with r ws i j ≡ style_with s ws i j
  unfolding style_with size_with rect_with measure_with length_with
  same_style i j =
      let x = alike j in
      simp (x 0 (omega arith), x 1 (omega arith), x 2 (omega arith), x 3 (omega arith), x 4 (omega arith), x 5 (omega arith), x 6 (omega arith), x 7 (omega arith), x 8 (omega arith), x 9 (omega arith), x 10 (omega arith), x 11 (omega arith), x 12 (omega arith), x 13 (omega arith), x 14 (omega arith), x 15 (omega arith), x 16 (omega arith), x 17 (omega arith), x 18 (omega arith), x 19 (omega arith), x 20 (omega arith), x 21 (omega arith), x 22 (omega arith), x 23 (omega arith), x 24 (omega arith), x 25 (omega arith), x 26 (omega arith), x 27 (omega arith))

  same_site : (es : List ℕ) (k : ℕ) → site_with r ws es k ≡ site_with s ws es k
  unfolding site_with
  same_site es k = rw (same_style k (0 + k))

  pub same-page : (es : List ℕ) → page_with r ws es ≡ page_with s ws es
  unfolding page_with
  same-page es = ap (λ (f : ℕ → Entry Site). parse_t f (nodes_in ws)) (fun_ext (same_site es))

  same_cell : (rs : List Float) (ms es : List ℕ) (i : ℕ) → cell_with r ws rs ms es i ≡ cell_with s ws rs ms es i
  unfolding cell_with
  same_cell rs ms es i = rw (same_site es i)

  pub same-cells : (rs : List Float) (ms es : List ℕ) → cells_with r ws rs ms es ≡ cells_with s ws rs ms es
  unfolding cells_with
  same-cells rs ms es = ap (λ (f : ℕ → Entry Cell). parse_t f (nodes_in ws)) (fun_ext (same_cell rs ms es))

  same-bad-style : (i : ℕ) → bad_style_with r ws i ≡ bad_style_with s ws i
  unfolding bad_style_with
  same-bad-style i = rw (alike i 22 (omega arith))

  same-bad-numbers : (i : ℕ) → bad_numbers_with r ws i ≡ bad_numbers_with s ws i
  unfolding bad_numbers_with
  same-bad-numbers i =
      let x = alike i in
      let unit : ℕ → ℕ = unit_of (word_at ws i 2) (word_at ws i 3) in
      let fields : some (λ f. bad_field f (unit f) (r.number i f)) 22 ≡ some (λ f. bad_field f (unit f) (s.number i f)) 22 = scan_same (λ f. bad_field f (unit f) (r.number i f)) (λ f. bad_field f (unit f) (s.number i f)) (λ _. true) false 0 22 (λ k l. ap (bad_field k (unit k)) (x k (omega arith))) in
      simp (fields, x 22 (omega arith), x 23 (omega arith), x 24 (omega arith), x 25 (omega arith), x 26 (omega arith), x 27 (omega arith))

  same-page-tests : (q : LayoutInput) → page_tested_with r ws q ≡ page_tested_with s ws q
  unfolding page_tested_with no4_with
  same-page-tests q =
      ap (λ (bad : ℕ → Bool). and_then (no2 ws) (and_then (no3_by bad ws) (no4_with r ws q))) (fun_ext same-bad-style)
      ∙ ap (λ (bad : ℕ → Bool). and_then (no2 ws) (and_then (no3_by (bad_style_with s ws) ws) (and_then (at_fault Numbers (lowest bad (nodes_in ws))) (refuse_if (bad_question q) (Numbers (nodes_in ws)))))) (fun_ext same-bad-numbers)

  same-room : (cw : List ℕ) (cx : List Float) → no5_with r ws cw cx ≡ no5_with s ws cw cx
  unfolding no5_with
  same-room cw cx = ap (λ (t : Tree Site). refuse_if (ltb (records_in cw cx) (needed t)) Room) (same-page [])

-- ---- a refusal by 1 asks for nothing of the numbers
past_lengths : (b : Bool) (x y : Result ⊤ Refusal) → (b ≡ false → x ≡ y) → and_then (refuse_if b Lengths) x ≡ and_then (refuse_if b Lengths) y
unfolding and_then
past_lengths true x y h = refl
past_lengths false x y h = h refl

past_tests : (t : Result ⊤ Refusal) (a b : Reply) (rs : List Float) (ms cw : List ℕ) (cx : List Float) → (t ≡ Ok tt → a ≡ b) → tested t a rs ms cw cx ≡ tested t b rs ms cw cx
unfolding tested
past_tests (Ok _) a b rs ms cw cx h = h refl
past_tests (Err e) a b rs ms cw cx h = refl

past_size_tests : (t : Result ⊤ Refusal) (a b : Result (Size Float) Refusal) → (t ≡ Ok tt → a ≡ b) → size_by_test t a ≡ size_by_test t b
unfolding size_by_test
past_size_tests (Ok _) a b h = h refl
past_size_tests (Err e) a b h = refl

-- ---- the calls
module _ (r s : Reader) (ws : List ℕ) (lent : r.lent ≡ s.lent) (alike : bad_tables_with r ws ≡ false → Alike r s) where
  same-lengths : bad_tables_with r ws ≡ bad_tables_with s ws
  unfolding bad_tables_with
  same-lengths = rw lent

  module _ (rs : List Float) (ms cw : List ℕ) (cx : List Float) (q : LayoutInput) where
    layout-tests : layout_tested_with r ws rs ms cw cx q ≡ layout_tested_with s ws rs ms cw cx q
    unfolding layout_tested_with
    layout-tests =
        rw (← same-lengths) (past_lengths (bad_tables_with r ws || bad_rows ws rs ms) (and_then (page_tested_with r ws q) (no5_with r ws cw cx)) (and_then (page_tested_with s ws q) (no5_with s ws cw cx)) (λ e. rw (same-page-tests r s (alike (or_left (bad_tables_with r ws) (bad_rows ws rs ms) e)) ws q, same-room r s (alike (or_left (bad_tables_with r ws) (bad_rows ws rs ms) e)) ws cw cx)))

    -- tests that pass: the numbers agree
    layout-agrees : layout_tested_with s ws rs ms cw cx q ≡ Ok tt → Alike r s
    unfolding layout_tested_with
    layout-agrees e = alike (same-lengths ∙ or_left (bad_tables_with s ws) (bad_rows ws rs ms) (if_pass (bad_tables_with s ws || bad_rows ws rs ms) Lengths (then_pass_1 (refuse_if (bad_tables_with s ws || bad_rows ws rs ms) Lengths) (and_then (page_tested_with s ws q) (no5_with s ws cw cx)) e)))

    pub same_layout : layout_with r ws rs ms cw cx q ≡ layout_with s ws rs ms cw cx q
    unfolding layout_with
    same_layout =
        rw layout-tests (past_tests (layout_tested_with s ws rs ms cw cx q) _ _ rs ms cw cx (λ e. ap (λ (t : Tree Site). replied (nodes_in ws) (fresh t q).rows rs ms cw cx) (same-page r s (layout-agrees e) ws [])))

    pub same-relayout : (es : List ℕ) → relayout_with r ws rs ms cw cx es q ≡ relayout_with s ws rs ms cw cx es q
    unfolding relayout_with relayout_tested_with
    same-relayout es =
        rw layout-tests (past_tests (and_then (layout_tested_with s ws rs ms cw cx q) (and_then (no6 es (nodes_in ws)) (no7 ms))) _ _ rs ms cw cx (λ e. ap (λ (t : Tree Cell). replied (nodes_in ws) (relaid t q).rows rs ms cw cx) (same-cells r s (layout-agrees (then_pass_1 (layout_tested_with s ws rs ms cw cx q) (and_then (no6 es (nodes_in ws)) (no7 ms)) e)) ws rs ms es)))

  module _ (q : LayoutInput) where
    size-tests : size_tested_with r ws q ≡ size_tested_with s ws q
    unfolding size_tested_with
    size-tests = rw (← same-lengths) (past_lengths (bad_tables_with r ws) (page_tested_with r ws q) (page_tested_with s ws q) (λ e. same-page-tests r s (alike e) ws q))

    size-agrees : size_tested_with s ws q ≡ Ok tt → Alike r s
    unfolding size_tested_with
    size-agrees e = alike (same-lengths ∙ if_pass (bad_tables_with s ws) Lengths (then_pass_1 (refuse_if (bad_tables_with s ws) Lengths) (page_tested_with s ws q) e))

    pub same_size : (a : RequestedAxis) → size_result_with r ws q a ≡ size_result_with s ws q a
    unfolding size_result_with
    same_size a =
        rw size-tests (past_size_tests (size_tested_with s ws q) _ _ (λ e. ap (λ (t : Tree Site). size_reply (size_of t q a)) (same-page r s (size-agrees e) ws [])))
