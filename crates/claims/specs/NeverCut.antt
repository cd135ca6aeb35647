-- What the page program prints fits the 131,072 bytes that it lends, whatever it reads, so nothing of it is ever cut.
use Rattle.page.specs.declared.PageError.TheVariants.{BadLine}
use Rattle.page.specs.declared.PageError.{PageError}
use Rattle.steps.specs.declared.Refusal.TheVariants.{Lengths, Room}
use Rattle.steps.specs.declared.Refusal.{Refusal}
use Rattle.tree.specs.declared.NodeId.{NodeId}
use Rattle.std.specs.Prelude.{◌≡◌, refl, Bool, true, false, cond, ◌||◌, List, [], ◌∷◌, ◌++◌, ℕ, zero, suc, ◌+◌, ◌*◌, ◌/◌, ◌≤◌, ◌<◌, min, length, take, drop, replicate, eqb, ltb, Float, Option, None, Some, Result, Ok, Err, ⊤}
use Rattle.std.proofs.Common.{sym, ◌∙◌, ap, true≢false, arith, ltb-false, eqb-true}
use Rattle.std.proofs.lemmas.List.{length-replicate}
use Rattle.geometry.specs.Geometry.{zero_f}
use Rattle.tree.specs.Tree.{Tree}
use Rattle.steps.specs.Row.{Row}
use Rattle.steps.specs.Scan.{lowest}
use Rattle.steps.specs.Page.{nodes_in, page_of}
use Rattle.steps.specs.Layout.{fresh}
use Rattle.steps.specs.Candidates.{candidates, needed}
use Rattle.steps.specs.Noes.{paper, refusal_paper, bad_tables, bad_rows, bad_row, records_in, refuse_if, and_then, page_tested, no5, layout_tested}
use Rattle.steps.specs.Question.{root_input}
use Rattle.steps.specs.Results.{Reply, rows_out, on_front, accepted, over_limit, replied, tested, layout_result}
use Rattle.steps.specs.declared.LayoutInput.{LayoutInput}
use Rattle.tables.proofs.Passing.{then_pass_2, if_pass}
use Rattle.answers.specs.Settled.{no_zero}
use Rattle.records.proofs.Few.{few_fresh}
use Rattle.page.specs.File.{page_file, node_limit}
use Rattle.page.specs.declared.Head.{Head}
use Rattle.page.proofs.HeadFits.{page_fits}
use Rattle.print.specs.Pen.{Pen, pen, put_all}
use Rattle.print.proofs.PenLaws.{all_put}
use Rattle.print.specs.Sizes.{page_short, bad_short}
use Rattle.pages.specs.Output.{reply_text, laid_page_text, file_text, output_text, Shown}

-- tests that pass leave room for the records that are needed
room_left : (ws : List ℕ) (xs rs : List Float) (ms cw : List ℕ) (cx : List Float) (q : LayoutInput) → layout_tested ws xs rs ms cw cx q ≡ Ok tt → needed (page_of ws xs []) ≤ records_in cw cx
unfolding layout_tested no5
room_left ws xs rs ms cw cx q e =
    let f = then_pass_2 (page_tested ws xs q) (refuse_if (ltb (records_in cw cx) (needed (page_of ws xs []))) Room) (then_pass_2 (refuse_if (bad_tables ws xs || bad_rows ws rs ms) Lengths) _ e) in
    ltb-false (records_in cw cx) (needed (page_of ws xs [])) (if_pass (ltb (records_in cw cx) (needed (page_of ws xs []))) Room f)

laid_few : (x : Option NodeId) (t : Tree Row) (k : ℕ) (rs : List Float) (ms cw : List ℕ) (cx : List Float) → length (candidates t) ≤ k → eqb (paper (over_limit x t rs ms cw cx).answer).0 0 ≡ true → (paper (over_limit x t rs ms cw cx).answer).1 ≤ k
unfolding over_limit accepted paper refusal_paper
laid_few None t k rs ms cw cx h e = h
laid_few (Some i) t k rs ms cw cx h e = absurd (true≢false (sym e))

-- a refusal has no number 0
no_number : (a : Refusal) → eqb (paper (Err a)).0 0 ≡ true → ⊥
unfolding paper
no_number a e = no_zero a (refusal_paper a).1 (let z : (refusal_paper a).0 ≡ 0 = eqb-true _ _ e in λ i. (z i, (refusal_paper a).1))

tested_few : (x : Result ⊤ Refusal) (r : Reply) (k : ℕ) (rs : List Float) (ms cw : List ℕ) (cx : List Float) → (x ≡ Ok tt → eqb (paper r.answer).0 0 ≡ true → (paper r.answer).1 ≤ k) → eqb (paper (tested x r rs ms cw cx).answer).0 0 ≡ true → (paper (tested x r rs ms cw cx).answer).1 ≤ k
unfolding tested
tested_few (Ok _) r k rs ms cw cx h e = h refl e
tested_few (Err a) r k rs ms cw cx h e = absurd (no_number a e)

-- an accepted layout has no more candidates than records are lent
pub count_few : (ws : List ℕ) (xs rs : List Float) (ms cw : List ℕ) (cx : List Float) (q : LayoutInput) → eqb (paper (layout_result ws xs rs ms cw cx q).answer).0 0 ≡ true → (paper (layout_result ws xs rs ms cw cx q).answer).1 ≤ records_in cw cx
unfolding layout_result replied
count_few ws xs rs ms cw cx q e =
    tested_few (layout_tested ws xs rs ms cw cx q) (replied (nodes_in ws) (fresh (page_of ws xs []) q).rows rs ms cw cx) (records_in cw cx) rs ms cw cx
    (λ p. laid_few (lowest (bad_row (rows_out (fresh (page_of ws xs []) q).rows)) (nodes_in ws)) (fresh (page_of ws xs []) q).rows (records_in cw cx) rs ms cw cx (omega (arith, few_fresh ws xs q, room_left ws xs rs ms cw cx q p)))
    e

laid_fits : (h : Head) (ws : List ℕ) (xs : List Float) → h.count ≤ 512 → length (laid_page_text h ws xs) ≤ 131072
unfolding laid_page_text reply_text
laid_fits h ws xs few =
    let n = h.count in
    let cw : List ℕ = replicate (2 * n) 0 in
    let cx : List Float = replicate (3 * n) zero_f in
    let r = layout_result (take (4 * n) ws) (take (28 * n) xs) (replicate (16 * n) zero_f) (replicate (2 * n) 0) cw cx (root_input h.question) in
    let a : length cw ≡ 2 * n = length-replicate (2 * n) 0 in
    let b : length cx ≡ 3 * n = length-replicate (3 * n) zero_f in
    let k : records_in cw cx ≤ n = omega arith in
    let s = page_short r.answer n n r.rows r.marks r.words r.numbers (λ e. omega (arith, k, count_few (take (4 * n) ws) (take (28 * n) xs) (replicate (16 * n) zero_f) (replicate (2 * n) 0) cw cx (root_input h.question) e)) in
    omega (arith, s)

file_fits : (f : Result Head PageError) (ws : List ℕ) (xs : List Float) → ((h : Head) → f ≡ Ok h → h.count ≤ 512) → length (file_text f ws xs) ≤ 131072
unfolding file_text
file_fits (Err (BadLine k)) ws xs h = omega (arith, bad_short k)
file_fits (Ok h) ws xs few = laid_fits h ws xs (few h refl)

512_nodes : (s : List ℕ) (h : Head) → (page_file 2048 14336 s).file ≡ Ok h → h.count ≤ 512
unfolding node_limit
512_nodes s h e = omega (arith, page_fits 2048 14336 s h e)

-- whatever is read, the output has at most 131,072 bytes
pub output_fits : (s : List ℕ) → length (output_text s) ≤ 131072
unfolding output_text
output_fits s = file_fits (page_file 2048 14336 s).file (page_file 2048 14336 s).words (page_file 2048 14336 s).numbers (512_nodes s)

-- what is shown in such a buffer is the whole output, with the rest as it was
pub never_cut : (s out out' : List ℕ) (r : ℕ) → length out ≡ 131072 → Shown (output_text s) out out' r → (r ≡ length (output_text s)) × (out' ≡ output_text s ++ drop (length (output_text s)) out)
never_cut s out out' r l h =
    let e = h.written ∙ all_put (output_text s) out (omega (arith, output_fits s)) in
    (ap (λ (p : Pen). p.at) e, ap (λ (p : Pen). p.bytes) e)
