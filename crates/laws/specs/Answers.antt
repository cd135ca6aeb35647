-- What an answer of 0 says of the tests and of the rows.
use Rattle.steps.specs.declared.Refusal.TheVariants.{Lengths, Tree, Codes, Numbers, Room, Edits, NotLaid, TooLarge}
use Rattle.steps.specs.declared.Refusal.{Refusal}
use Rattle.tree.specs.declared.NodeId.{NodeId}
use Rattle.std.specs.Prelude.{◌≡◌, refl, Bool, true, false, not, ◌||◌, List, [], ℕ, min, length, get_or, ltb, Float, Option, None, Some, Result, Ok, Err, ⊤}
use Rattle.std.proofs.Common.{ap}
use Rattle.style.specs.Codes.{flag_at}
use Rattle.tree.specs.Tree as tree
use Rattle.steps.specs.Candidates.{needed}
use Rattle.steps.specs.Row.{Row}
use Rattle.steps.specs.Page.{nodes_in, page_of, cells_of}
use Rattle.steps.specs.Layout.{relaid, fresh}
use Rattle.steps.specs.Scan.{lowest, first_of}
use Rattle.steps.specs.Noes.{refuse_if, and_then, at_fault, at_spot, no2, no3, no4, no5, no6, no7, page_tested, layout_tested, relayout_tested, bad_tables, bad_rows, bad_tree, bad_style, bad_numbers, bad_question, records_in, bad_edit, bad_row}
use Rattle.steps.specs.Results.{Reply, rows_out, marks_out, accepted, over_limit, replied, tested, layout_result, relayout_result}
use Rattle.steps.specs.declared.LayoutInput.{LayoutInput}
use Rattle.laws.specs.Trees.{false_true}

-- what passes the tests of a relayout passes those of a layout
then_pass : (s t : Result ⊤ Refusal) → and_then s t ≡ Ok tt → s ≡ Ok tt
unfolding and_then
then_pass (Ok _) t e = refl
then_pass (Err a) t e = e

pub relayout_layout : (ws : List ℕ) (xs rs : List Float) (ms cw : List ℕ) (cx : List Float) (es : List ℕ) (q : LayoutInput) → relayout_tested ws xs rs ms cw cx es q ≡ Ok tt → layout_tested ws xs rs ms cw cx q ≡ Ok tt
unfolding relayout_tested
relayout_layout ws xs rs ms cw cx es q e = then_pass (layout_tested ws xs rs ms cw cx q) _ e

-- an accepted reply
pub record Accepted (t : Result ⊤ Refusal) (rows : tree.Tree Row) (r : Reply) : Type 0 where
  pub passed : t ≡ Ok tt
  pub rows_are : r.rows ≡ rows_out rows
  pub marks_are : r.marks ≡ marks_out rows

over_limit_lem : (w : Option NodeId) (rows : tree.Tree Row) (rs : List Float) (ms cw : List ℕ) (cx : List Float) (k : ℕ) → (over_limit w rows rs ms cw cx).answer ≡ Ok k → Accepted (Ok tt) rows (over_limit w rows rs ms cw cx)
unfolding over_limit accepted
over_limit_lem None rows rs ms cw cx k e = record { passed = refl; rows_are = refl; marks_are = refl }
over_limit_lem (Some i) rows rs ms cw cx k e = cc

done_reply : (t : Result ⊤ Refusal) (n : ℕ) (rows : tree.Tree Row) (rs : List Float) (ms cw : List ℕ) (cx : List Float) (k : ℕ) → (tested t (replied n rows rs ms cw cx) rs ms cw cx).answer ≡ Ok k
    → Accepted t rows (tested t (replied n rows rs ms cw cx) rs ms cw cx)
unfolding tested replied
done_reply (Ok _) n rows rs ms cw cx k e = over_limit_lem (lowest (bad_row (rows_out rows)) n) rows rs ms cw cx k e
done_reply (Err a) n rows rs ms cw cx k e = cc

pub layout_accepted : (ws : List ℕ) (xs rs : List Float) (ms cw : List ℕ) (cx : List Float) (q : LayoutInput) (k : ℕ) → (layout_result ws xs rs ms cw cx q).answer ≡ Ok k
    → Accepted (layout_tested ws xs rs ms cw cx q) (fresh (page_of ws xs []) q).rows (layout_result ws xs rs ms cw cx q)
unfolding layout_result
layout_accepted ws xs rs ms cw cx q k e = done_reply _ (nodes_in ws) _ rs ms cw cx k e

pub relayout_accepted : (ws : List ℕ) (xs rs : List Float) (ms cw : List ℕ) (cx : List Float) (es : List ℕ) (q : LayoutInput) (k : ℕ) → (relayout_result ws xs rs ms cw cx es q).answer ≡ Ok k
    → Accepted (relayout_tested ws xs rs ms cw cx es q) (relaid (cells_of ws xs rs ms es) q).rows (relayout_result ws xs rs ms cw cx es q)
unfolding relayout_result
relayout_accepted ws xs rs ms cw cx es q k e = done_reply _ (nodes_in ws) _ rs ms cw cx k e
