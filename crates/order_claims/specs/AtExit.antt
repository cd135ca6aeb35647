-- Rows keep their order at exit of every public call that leaves rows: plain, over records, from C; a layout, and a relayout after any chain of calls.
use Rattle.std.specs.Prelude.{◌≡◌, refl, Bool, true, false, List, ℕ, ◌/◌, ◌^◌, Float, Ok}
use Rattle.std.proofs.Common.{sym, ap, ◌∙◌, arith}
use Rattle.steps.specs.Row.{bit}
use Rattle.steps.specs.Results.{Reply, layout_result, relayout_result}
use Rattle.steps.specs.declared.LayoutInput.{LayoutInput}
use Rattle.laws.specs.Tables.{SameShape, Named, Calls, laid_out, laid_again}
use Rattle.laws.specs.Answers.{relayout_accepted}
use Rattle.layout.specs.Public.{Replied}
use Rattle.face.specs.Answered.{Answered}
use Rattle.records.specs.Results.{layout_records_result, relayout_records_result, RecordsReplied}
use Rattle.records.specs.declared.Record.{Record}
use Rattle.claims.specs.Claims.{relayout_is_layout}
use Rattle.claims.specs.EveryCall.{Left, by_layout, by_layout_records, by_layout_from_c, by_relayout, by_relayout_records, by_relayout_from_c, left_calls}
use Rattle.order.specs.Class.{keeps_order}
use Rattle.order.specs.Rows.{RowsInOrder}
use Rattle.order.proofs.Accepted.{layout-keeps-order}

-- a relayout that passes the tests has the result of a layout
calls_keep_order : (ws : List ℕ) (xs : List Float) (q : LayoutInput) (rs : List Float) (ms : List ℕ) → Calls ws xs q rs ms → keeps_order ws xs ≡ true → RowsInOrder ws rs ms
calls_keep_order _ _ _ _ _ (laid_out ws xs rs ms cw cx q k e) s = layout-keeps-order ws xs rs ms cw cx q k e s
calls_keep_order _ _ _ _ _ (laid_again ws xs q rs ms ws' xs' cw cx es p k before shape named e) s =
    let z = relayout_is_layout ws xs q rs ms ws' xs' cw cx es p before shape named (relayout_accepted ws' xs' rs ms cw cx es p k e).passed in
    rw z (layout-keeps-order ws' xs' rs ms cw cx p k (sym (ap (λ (r : Reply). r.answer) z) ∙ e) s)

-- Rows that any accepted calls left, the last of them on a page that keeps order.
pub rows_keep_order : (ws : List ℕ) (xs : List Float) (q : LayoutInput) (rs : List Float) (ms : List ℕ) → Left ws xs q rs ms → keeps_order ws xs ≡ true → RowsInOrder ws rs ms
rows_keep_order ws xs q rs ms left s = calls_keep_order ws xs q rs ms (left_calls ws xs q rs ms left) s

-- what C is told: 1 for yes
yes : (b : Bool) → bit b ≡ 1 → b ≡ true
yes true e = refl
yes false e = absurd (omega arith)

-- ---- a layout
module _ (ws : List ℕ) (xs rs : List Float) (ms cw : List ℕ) (cx : List Float) (q : LayoutInput) (rs' : List Float) (ms' cw' : List ℕ) (cx' : List Float) where
  pub layout-leaves-order : (k : ℕ) → keeps_order ws xs ≡ true → Replied (layout_result ws xs rs ms cw cx q) (Ok k) rs' ms' cw' cx' → RowsInOrder ws rs' ms'
  layout-leaves-order k s c = rows_keep_order ws xs q rs' ms' (by_layout ws xs rs ms cw cx q k rs' ms' cw' cx' c) s

  pub records-layout-leaves-order : (k : ℕ) (lent out : List Record) → keeps_order ws xs ≡ true → RecordsReplied (layout_records_result ws xs rs ms cw cx lent q) (Ok k) rs' ms' cw' cx' out → RowsInOrder ws rs' ms'
  records-layout-leaves-order k lent out s c = rows_keep_order ws xs q rs' ms' (by_layout_records ws xs rs ms cw cx lent q k rs' ms' cw' cx' out c) s

  -- y is what mearrasot_keeps_order answers, r what mearrasot_layout does
  pub c-layout-leaves-order : (y r : ℕ) → y ≡ bit (keeps_order ws xs) → y ≡ 1 → Answered (layout_result ws xs rs ms cw cx q) r rs' ms' cw' cx' → r / 2 ^ 32 ≡ 0 → RowsInOrder ws rs' ms'
  c-layout-leaves-order y r a one c z = rows_keep_order ws xs q rs' ms' (by_layout_from_c ws xs rs ms cw cx q r rs' ms' cw' cx' c z) (yes (keeps_order ws xs) (sym a ∙ one))

-- ---- a relayout, from rows that calls left, of the same shape, with every changed node named
module _ (ws : List ℕ) (xs : List Float) (q : LayoutInput) (rs : List Float) (ms : List ℕ) (ws' : List ℕ) (xs' : List Float) (cw : List ℕ) (cx : List Float) (es : List ℕ) (p : LayoutInput) (rs' : List Float) (ms' cw' : List ℕ) (cx' : List Float)
    (left : Left ws xs q rs ms) (shape : SameShape ws ws') (named : Named es ws xs ws' xs') where
  pub relayout-leaves-order : (k : ℕ) → keeps_order ws' xs' ≡ true → Replied (relayout_result ws' xs' rs ms cw cx es p) (Ok k) rs' ms' cw' cx' → RowsInOrder ws' rs' ms'
  relayout-leaves-order k s c = rows_keep_order ws' xs' p rs' ms' (by_relayout ws xs q rs ms ws' xs' cw cx es p k rs' ms' cw' cx' left shape named c) s

  pub records-relayout-leaves-order : (k : ℕ) (lent out : List Record) → keeps_order ws' xs' ≡ true → RecordsReplied (relayout_records_result ws' xs' rs ms cw cx lent es p) (Ok k) rs' ms' cw' cx' out → RowsInOrder ws' rs' ms'
  records-relayout-leaves-order k lent out s c = rows_keep_order ws' xs' p rs' ms' (by_relayout_records ws xs q rs ms ws' xs' cw cx lent es p k rs' ms' cw' cx' out left shape named c) s

  pub c-relayout-leaves-order : (y r : ℕ) → y ≡ bit (keeps_order ws' xs') → y ≡ 1 → Answered (relayout_result ws' xs' rs ms cw cx es p) r rs' ms' cw' cx' → r / 2 ^ 32 ≡ 0 → RowsInOrder ws' rs' ms'
  c-relayout-leaves-order y r a one c z = rows_keep_order ws' xs' p rs' ms' (by_relayout_from_c ws xs q rs ms ws' xs' cw cx es p r rs' ms' cw' cx' left shape named c z) (yes (keeps_order ws' xs') (sym a ∙ one))
