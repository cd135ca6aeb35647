-- A layout reads nothing of the rows it is lent but their lengths.
use Rattle.steps.specs.declared.Refusal.{Refusal}
use Rattle.tree.specs.declared.NodeId.{NodeId}
use Rattle.std.specs.Prelude.{◌≡◌, refl, List, [], ℕ, length, Float, Option, None, Some, Result, Ok, ⊤}
use Rattle.std.proofs.Common.{sym, ap, ◌∙◌, arith}
use Rattle.tree.specs.Tree.{Tree}
use Rattle.steps.specs.Scan.{lowest}
use Rattle.steps.specs.Row.{Row}
use Rattle.steps.specs.Page.{nodes_in, page_of}
use Rattle.steps.specs.Layout.{fresh}
use Rattle.steps.specs.Noes.{bad_rows, bad_row, layout_tested}
use Rattle.steps.specs.Results.{rows_out, accepted, over_limit, replied, tested, layout_result}
use Rattle.steps.specs.declared.LayoutInput.{LayoutInput}
use Rattle.laws.specs.Answers.{layout_accepted}

same_tests : (ws : List ℕ) (xs rs rs₂ : List Float) (ms ms₂ cw : List ℕ) (cx : List Float) (q : LayoutInput) → length rs₂ ≡ length rs → length ms₂ ≡ length ms → layout_tested ws xs rs₂ ms₂ cw cx q ≡ layout_tested ws xs rs ms cw cx q
unfolding layout_tested bad_rows
same_tests ws xs rs rs₂ ms ms₂ cw cx q e f = rw (e, f)

over_same : (w : Option NodeId) (t : Tree Row) (rs rs₂ : List Float) (ms ms₂ cw : List ℕ) (cx : List Float) (k : ℕ) → (over_limit w t rs ms cw cx).answer ≡ Ok k → over_limit w t rs₂ ms₂ cw cx ≡ over_limit w t rs ms cw cx
unfolding over_limit
over_same None t rs rs₂ ms ms₂ cw cx k e = refl
over_same (Some i) t rs rs₂ ms ms₂ cw cx k e = let z : ◌≡◌ {A = ℕ} 0 1 = cc in absurd (apart z)
  where
    apart : ◌≡◌ {A = ℕ} 0 1 → ⊥
    apart z = omega arith

at_pass : (u v : Result ⊤ Refusal) (n : ℕ) (t : Tree Row) (rs rs₂ : List Float) (ms ms₂ cw : List ℕ) (cx : List Float) (k : ℕ) → u ≡ Ok tt → v ≡ u → (tested u (replied n t rs ms cw cx) rs ms cw cx).answer ≡ Ok k
    → tested v (replied n t rs₂ ms₂ cw cx) rs₂ ms₂ cw cx ≡ tested u (replied n t rs ms cw cx) rs ms cw cx
unfolding tested replied
at_pass u v n t rs rs₂ ms ms₂ cw cx k p e a =
    let h : (over_limit (lowest (bad_row (rows_out t)) n) t rs ms cw cx).answer ≡ Ok k = rw p at a in
    rw (e, p) (over_same (lowest (bad_row (rows_out t)) n) t rs rs₂ ms ms₂ cw cx k h)

-- an accepted layout has one result, whatever rows and marks of these lengths it was lent
pub rows_unread : (ws : List ℕ) (xs rs rs₂ : List Float) (ms ms₂ cw : List ℕ) (cx : List Float) (q : LayoutInput) (k : ℕ) → length rs₂ ≡ length rs → length ms₂ ≡ length ms
    → (layout_result ws xs rs ms cw cx q).answer ≡ Ok k → layout_result ws xs rs₂ ms₂ cw cx q ≡ layout_result ws xs rs ms cw cx q
unfolding layout_result
rows_unread ws xs rs rs₂ ms ms₂ cw cx q k e f a =
    at_pass _ _ (nodes_in ws) (fresh (page_of ws xs []) q).rows rs rs₂ ms ms₂ cw cx k (layout_accepted ws xs rs ms cw cx q k a).passed (same_tests ws xs rs rs₂ ms ms₂ cw cx q e f) a
