-- No event changes how long rows and marks are, nor how many nodes there are.
use Rattle.steps.specs.declared.Refusal.TheVariants.{Lengths}
use Rattle.steps.specs.declared.Refusal.{Refusal}
use Rattle.tree.specs.declared.NodeId.{NodeId}
use Rattle.std.specs.Prelude.{◌≡◌, refl, Bool, true, false, ◌||◌, List, [], ℕ, ◌+◌, ◌*◌, ◌/◌, length, Float, Option, None, Some, Result, Ok, Err, ⊤}
use Rattle.std.proofs.Math.Path.{sym, ap}
use Rattle.std.proofs.Common.{◌∙◌, length-set}
use Rattle.std.proofs.Math.ListN.{length-replicate}
use Rattle.geometry.specs.Geometry.{zero_f}
use Rattle.limits.specs.Bools.{or_left}
use Rattle.tree.specs.Tree.{Tree, count_t}
use Rattle.tree.proofs.Laws.{length-flatT, count_map_t}
use Rattle.steps.specs.Scan.{lowest}
use Rattle.steps.specs.Row.{Row, row_numbers, row_words}
use Rattle.steps.specs.Page.{nodes_in, page_of, cells_of}
use Rattle.steps.specs.Layout.{relaid, fresh}
use Rattle.steps.specs.Noes.{refuse_if, and_then, bad_tables, bad_rows, bad_row, no5, no6, no7, page_tested, layout_tested, relayout_tested}
use Rattle.steps.specs.Question.{root_input}
use Rattle.steps.specs.Results.{rows_out, marks_out, accepted, over_limit, replied, tested, layout_result, relayout_result}
use Rattle.steps.specs.declared.LayoutInput.{LayoutInput}
use Rattle.steps.proofs.Shape.{mute}
use Rattle.tables.proofs.Passing.{then_pass_1, then_pass_2, if_pass, good_table}
use Rattle.tables.proofs.GoodPage.{good_page, good-cells}
use Rattle.laws.specs.Shape.{relaid_shape, fresh_shape}
use Rattle.sheet.specs.Sheet.{Sheet, has_number, has_word, edit_of, number_edit, word_edit}
use Rattle.day.specs.Day.{Day, edits_of, layout_of, relayout_of}
use Rattle.sheet.specs.declared.NodeNumber.{NodeNumber}
use Rattle.sheet.specs.declared.NodeWord.{NodeWord}

-- rows and marks as long as the node table asks for
pub record Fits (d : Day) : Type 0 where
  pub rows : length d.rows ≡ 16 * nodes_in d.page.words
  pub marks : length d.marks ≡ 2 * nodes_in d.page.words

-- ---- a call

-- rows and marks of n nodes
abbrev pub Long : ℕ → List Float → List ℕ → Type 0
Long n rs ms = (length rs ≡ 16 * n) × (length ms ≡ 2 * n)

out_long : (t : Tree Row) (n : ℕ) → count_t t ≡ n → Long n (rows_out t) (marks_out t)
unfolding rows_out marks_out
out_long t n e = (length-flatT (λ _ (r : Row). row_numbers r) 16 (λ _ _. refl) t ∙ ap (λ (k : ℕ). 16 * k) e, length-flatT (λ _ (r : Row). row_words r) 2 (λ _ _. refl) t ∙ ap (λ (k : ℕ). 2 * k) e)

module _ (n : ℕ) (t : Tree Row) (rs : List Float) (ms cw : List ℕ) (cx : List Float) (l : Long n rs ms) where
  over-long : (f : Option NodeId) → count_t t ≡ n → let r = over_limit f t rs ms cw cx in Long n r.rows r.marks
  unfolding over_limit accepted
  over-long None e = out_long t n e
  over-long (Some i) e = (length-replicate (length rs) zero_f ∙ l.0, length-replicate (length ms) 0 ∙ l.1)

  reply-long : (x : Result ⊤ Refusal) → (x ≡ Ok tt → count_t t ≡ n) → let r = tested x (replied n t rs ms cw cx) rs ms cw cx in Long n r.rows r.marks
  unfolding tested replied
  reply-long (Ok _) h = over-long (lowest (bad_row (rows_out t)) n) (h refl)
  reply-long (Err a) h = l

module _ (ws : List ℕ) (xs rs : List Float) (ms cw : List ℕ) (cx : List Float) (q : LayoutInput) where
  lent-good : layout_tested ws xs rs ms cw cx q ≡ Ok tt → (bad_tables ws xs ≡ false) × (page_tested ws xs q ≡ Ok tt)
  unfolding layout_tested
  lent-good e =
      let lengths = refuse_if (bad_tables ws xs || bad_rows ws rs ms) Lengths in
      (or_left (bad_tables ws xs) (bad_rows ws rs ms) (if_pass (bad_tables ws xs || bad_rows ws rs ms) Lengths (then_pass_1 lengths _ e)), then_pass_1 (page_tested ws xs q) (no5 ws xs cw cx) (then_pass_2 lengths _ e))

  fresh_count : layout_tested ws xs rs ms cw cx q ≡ Ok tt → count_t (fresh (page_of ws xs []) q).rows ≡ nodes_in ws
  fresh_count e =
      let g = lent-good e in
      sym (count_map_t mute (fresh (page_of ws xs []) q).rows) ∙ ap count_t (fresh_shape (page_of ws xs []) q) ∙ count_map_t mute (page_of ws xs []) ∙ (good_page ws (good_table ws xs q g.0 g.1) xs []).count

  relaid_count : (es : List ℕ) → relayout_tested ws xs rs ms cw cx es q ≡ Ok tt → count_t (relaid (cells_of ws xs rs ms es) q).rows ≡ nodes_in ws
  unfolding relayout_tested
  relaid_count es e =
      let g = lent-good (then_pass_1 (layout_tested ws xs rs ms cw cx q) (and_then (no6 es (nodes_in ws)) (no7 ms)) e) in
      sym (count_map_t mute (relaid (cells_of ws xs rs ms es) q).rows) ∙ ap count_t (relaid_shape (cells_of ws xs rs ms es) q) ∙ count_map_t mute (cells_of ws xs rs ms es) ∙ (good-cells ws (good_table ws xs q g.0 g.1) xs rs ms es).count

pub layout_long : (d : Day) → Fits d → Long (nodes_in d.page.words) (layout_of d).rows (layout_of d).marks
unfolding layout_result
layout_long d f = reply-long _ _ d.rows d.marks d.pairs d.triples (f.rows, f.marks) (layout_tested d.page.words d.page.numbers d.rows d.marks d.pairs d.triples (root_input d.question)) (fresh_count d.page.words d.page.numbers d.rows d.marks d.pairs d.triples (root_input d.question))

pub relayout_long : (d : Day) → Fits d → Long (nodes_in d.page.words) (relayout_of d).rows (relayout_of d).marks
unfolding relayout_result
relayout_long d f = reply-long _ _ d.rows d.marks d.pairs d.triples (f.rows, f.marks) (relayout_tested d.page.words d.page.numbers d.rows d.marks d.pairs d.triples (edits_of d.page) (root_input d.question)) (relaid_count d.page.words d.page.numbers d.rows d.marks d.pairs d.triples (root_input d.question) (edits_of d.page))

-- ---- an edit

pub number_nodes : (x : NodeNumber) (s : Sheet) (b : Bool) → has_number x s ≡ b → nodes_in (number_edit x s).words ≡ nodes_in s.words
unfolding number_edit edit_of
number_nodes x s true e = rw e
number_nodes x s false e = rw e

pub word_nodes : (x : NodeWord) (s : Sheet) (b : Bool) → has_word x s ≡ b → nodes_in (word_edit x s).words ≡ nodes_in s.words
unfolding word_edit edit_of
word_nodes x s true e = rw e (ap (λ (n : ℕ). n / 4) (length-set s.words (x.node.0 * 4 + x.word) x.bits))
word_nodes x s false e = rw e
