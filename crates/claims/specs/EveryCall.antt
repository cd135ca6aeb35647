-- Demand 3 at exit of every call that does it: plain, over records, from C; and chains that mix them.
use Rattle.steps.specs.declared.Refusal.TheVariants.{Lengths, Tree, Codes, Numbers, Room, Edits, NotLaid, TooLarge}
use Rattle.steps.specs.declared.Refusal.{Refusal}
use Rattle.std.specs.Prelude.{◌≡◌, refl, Bool, List, [], ℕ, ◌/◌, ◌^◌, ◌≤◌, length, ltb, Float, Result, Ok, Err}
use Rattle.std.proofs.Math.Path.{sym}
use Rattle.std.proofs.Common.{◌∙◌, arith}
use Rattle.std.proofs.Math.Bool.{true, false}
use borrow.Author.Tests.{ltb-true, ltb-false}
use Rattle.steps.specs.Page.{page_of}
use Rattle.steps.specs.Candidates.{needed}
use Rattle.steps.specs.Noes.{paper, refusal_paper}
use Rattle.steps.specs.Results.{layout_result, relayout_result}
use Rattle.steps.specs.declared.LayoutInput.{LayoutInput}
use Rattle.laws.specs.Tables.{SameShape, Named, Calls, laid_out, laid_again}
use Rattle.layout.specs.Public.{Replied}
use Rattle.face.specs.Answered.{Answered}
use Rattle.records.specs.Results.{layout_records_result, relayout_records_result, RecordsReplied}
use Rattle.records.specs.declared.Record.{Record}
use Rattle.records.proofs.EnoughOrFew.{layout_as_plain, relayout_as_plain}
use Rattle.outcomes.specs.Layout.{LayoutGiven}
use Rattle.outcomes.specs.Relayout.{RelayoutGiven}
use Rattle.outcomes.specs.Records.{GivenIn}
use Rattle.outcomes.proofs.Records.{layout-records-gives, relayout-records-gives}

-- Rows and marks at exit of accepted calls of any kind, each relayout given them unaltered, the same shape and a list that names every changed node.
pub data Left : List ℕ → List Float → LayoutInput → List Float → List ℕ → Type 0 where
  by_layout : (ws : List ℕ) (xs rs : List Float) (ms cw : List ℕ) (cx : List Float) (q : LayoutInput) (k : ℕ) (rs' : List Float) (ms' cw' : List ℕ) (cx' : List Float)
      → Replied (layout_result ws xs rs ms cw cx q) (Ok k) rs' ms' cw' cx' → Left ws xs q rs' ms'
  by_layout_records : (ws : List ℕ) (xs rs : List Float) (ms cw : List ℕ) (cx : List Float) (lent : List Record) (q : LayoutInput) (k : ℕ) (rs' : List Float) (ms' cw' : List ℕ) (cx' : List Float) (out : List Record)
      → RecordsReplied (layout_records_result ws xs rs ms cw cx lent q) (Ok k) rs' ms' cw' cx' out → Left ws xs q rs' ms'
  by_layout_from_c : (ws : List ℕ) (xs rs : List Float) (ms cw : List ℕ) (cx : List Float) (q : LayoutInput) (r : ℕ) (rs' : List Float) (ms' cw' : List ℕ) (cx' : List Float)
      → Answered (layout_result ws xs rs ms cw cx q) r rs' ms' cw' cx' → r / 2 ^ 32 ≡ 0 → Left ws xs q rs' ms'
  by_relayout : (ws : List ℕ) (xs : List Float) (q : LayoutInput) (rs : List Float) (ms : List ℕ) (ws' : List ℕ) (xs' : List Float) (cw : List ℕ) (cx : List Float) (es : List ℕ) (p : LayoutInput) (k : ℕ) (rs' : List Float) (ms' cw' : List ℕ) (cx' : List Float)
      → Left ws xs q rs ms → SameShape ws ws' → Named es ws xs ws' xs' → Replied (relayout_result ws' xs' rs ms cw cx es p) (Ok k) rs' ms' cw' cx' → Left ws' xs' p rs' ms'
  by_relayout_records : (ws : List ℕ) (xs : List Float) (q : LayoutInput) (rs : List Float) (ms : List ℕ) (ws' : List ℕ) (xs' : List Float) (cw : List ℕ) (cx : List Float) (lent : List Record) (es : List ℕ) (p : LayoutInput) (k : ℕ) (rs' : List Float) (ms' cw' : List ℕ) (cx' : List Float) (out : List Record)
      → Left ws xs q rs ms → SameShape ws ws' → Named es ws xs ws' xs' → RecordsReplied (relayout_records_result ws' xs' rs ms cw cx lent es p) (Ok k) rs' ms' cw' cx' out → Left ws' xs' p rs' ms'
  by_relayout_from_c : (ws : List ℕ) (xs : List Float) (q : LayoutInput) (rs : List Float) (ms : List ℕ) (ws' : List ℕ) (xs' : List Float) (cw : List ℕ) (cx : List Float) (es : List ℕ) (p : LayoutInput) (r : ℕ) (rs' : List Float) (ms' cw' : List ℕ) (cx' : List Float)
      → Left ws xs q rs ms → SameShape ws ws' → Named es ws xs ws' xs' → Answered (relayout_result ws' xs' rs ms cw cx es p) r rs' ms' cw' cx' → r / 2 ^ 32 ≡ 0 → Left ws' xs' p rs' ms'

-- ---- each kind seen as a plain call
laid_at_lem : (ws : List ℕ) (xs rs : List Float) (ms cw : List ℕ) (cx : List Float) (q : LayoutInput) (k : ℕ) (rs' : List Float) (ms' : List ℕ) → (layout_result ws xs rs ms cw cx q).answer ≡ Ok k
    → rs' ≡ (layout_result ws xs rs ms cw cx q).rows → ms' ≡ (layout_result ws xs rs ms cw cx q).marks → Calls ws xs q rs' ms'
laid_at_lem ws xs rs ms cw cx q k rs' ms' e r m = rw (r, m) (laid_out ws xs rs ms cw cx q k e)

again_at : (ws : List ℕ) (xs : List Float) (q : LayoutInput) (rs : List Float) (ms : List ℕ) (ws' : List ℕ) (xs' : List Float) (cw : List ℕ) (cx : List Float) (es : List ℕ) (p : LayoutInput) (k : ℕ) (rs' : List Float) (ms' : List ℕ) → Calls ws xs q rs ms → SameShape ws ws'
    → Named es ws xs ws' xs' → (relayout_result ws' xs' rs ms cw cx es p).answer ≡ Ok k → rs' ≡ (relayout_result ws' xs' rs ms cw cx es p).rows → ms' ≡ (relayout_result ws' xs' rs ms cw cx es p).marks → Calls ws' xs' p rs' ms'
again_at ws xs q rs ms ws' xs' cw cx es p k rs' ms' before shape named e r m = rw (r, m) (laid_again ws xs q rs ms ws' xs' cw cx es p k before shape named e)

-- number 0 is accepted
number_0 : (a : Result ℕ Refusal) → (paper a).0 ≡ 0 → a ≡ Ok (paper a).1
unfolding paper refusal_paper
number_0 (Ok k) e = refl
number_0 (Err Lengths) e = absurd (omega arith)
number_0 (Err (Tree i)) e = absurd (omega arith)
number_0 (Err (Codes i)) e = absurd (omega arith)
number_0 (Err (Numbers k)) e = absurd (omega arith)
number_0 (Err Room) e = absurd (omega arith)
number_0 (Err (Edits k)) e = absurd (omega arith)
number_0 (Err NotLaid) e = absurd (omega arith)
number_0 (Err (TooLarge i)) e = absurd (omega arith)

-- an accepted call over records was lent enough of them
enough_layout : (ws : List ℕ) (xs rs : List Float) (ms cw : List ℕ) (cx : List Float) (q : LayoutInput) (k n : ℕ) (v : Bool) → ltb n (needed (page_of ws xs [])) ≡ v
    → GivenIn v (LayoutGiven ws xs rs ms [] [] q) (LayoutGiven ws xs rs ms cw cx q) (Ok k) → needed (page_of ws xs []) ≤ n
enough_layout ws xs rs ms cw cx q k n true e g =
    let l = ltb-true n (needed (page_of ws xs [])) e in
    let h = g.0.room in
    absurd (omega (arith, l, h))
enough_layout ws xs rs ms cw cx q k n false e g = ltb-false n (needed (page_of ws xs [])) e

enough_relayout : (ws : List ℕ) (xs rs : List Float) (ms cw : List ℕ) (cx : List Float) (es : List ℕ) (q : LayoutInput) (k n : ℕ) (v : Bool) → ltb n (needed (page_of ws xs [])) ≡ v
    → GivenIn v (RelayoutGiven ws xs rs ms [] [] es q) (RelayoutGiven ws xs rs ms cw cx es q) (Ok k) → needed (page_of ws xs []) ≤ n
enough_relayout ws xs rs ms cw cx es q k n true e g =
    let l = ltb-true n (needed (page_of ws xs [])) e in
    let h = g.0.0.room in
    absurd (omega (arith, l, h))
enough_relayout ws xs rs ms cw cx es q k n false e g = ltb-false n (needed (page_of ws xs [])) e

-- rows that calls of any kind left are rows that plain calls left
pub left_calls : (ws : List ℕ) (xs : List Float) (q : LayoutInput) (rs : List Float) (ms : List ℕ) → Left ws xs q rs ms → Calls ws xs q rs ms
left_calls _ _ _ _ _ (by_layout ws xs rs ms cw cx q k rs' ms' cw' cx' c) = laid_at_lem ws xs rs ms cw cx q k rs' ms' (sym c.answer_is) c.rows_are c.marks_are
left_calls _ _ _ _ _ (by_layout_records ws xs rs ms cw cx lent q k rs' ms' cw' cx' out c) =
    let h = enough_layout ws xs rs ms cw cx q k (length lent) _ refl ((layout-records-gives ws xs rs ms cw cx lent q _ rs' ms' cw' cx' out c (Ok k)).only refl) in
    let p = layout_as_plain ws xs rs ms cw cx lent q _ rs' ms' cw' cx' out c h in
    laid_at_lem ws xs rs ms cw cx q k rs' ms' (sym p.answer_is) p.rows_are p.marks_are
left_calls _ _ _ _ _ (by_layout_from_c ws xs rs ms cw cx q r rs' ms' cw' cx' c z) = laid_at_lem ws xs rs ms cw cx q _ rs' ms' (number_0 _ (sym c.answer_is.number_is ∙ z)) c.rows_are c.marks_are
left_calls _ _ _ _ _ (by_relayout ws xs q rs ms ws' xs' cw cx es p k rs' ms' cw' cx' before shape named c) =
    again_at ws xs q rs ms ws' xs' cw cx es p k rs' ms' (left_calls ws xs q rs ms before) shape named (sym c.answer_is) c.rows_are c.marks_are
left_calls _ _ _ _ _ (by_relayout_records ws xs q rs ms ws' xs' cw cx lent es p k rs' ms' cw' cx' out before shape named c) =
    let h = enough_relayout ws' xs' rs ms cw cx es p k (length lent) _ refl ((relayout-records-gives ws' xs' rs ms cw cx lent es p _ rs' ms' cw' cx' out c (Ok k)).only refl) in
    let d = relayout_as_plain ws' xs' rs ms cw cx lent es p _ rs' ms' cw' cx' out c h in
    again_at ws xs q rs ms ws' xs' cw cx es p k rs' ms' (left_calls ws xs q rs ms before) shape named (sym d.answer_is) d.rows_are d.marks_are
left_calls _ _ _ _ _ (by_relayout_from_c ws xs q rs ms ws' xs' cw cx es p r rs' ms' cw' cx' before shape named c z) =
    again_at ws xs q rs ms ws' xs' cw cx es p _ rs' ms' (left_calls ws xs q rs ms before) shape named (number_0 _ (sym c.answer_is.number_is ∙ z)) c.rows_are c.marks_are
