-- Demand 3: what is promised of a relayout, in trees and of the public calls. The proofs are in the other files.
-- What is supposed stands in Pages (one page as it was and as it is), Below (two pages, and what lies below kept nodes) and Tables (lent tables, chains of calls).
use Rattle.std.specs.Prelude.{◌≡◌, List, [], ℕ, ◌<◌, Float, Ok}
use Rattle.tree.specs.Tree.{Tree, map_t}
use Rattle.steps.specs.Page.{Site, nodes_in, page_of}
use Rattle.steps.specs.Layout.{relaid, fresh}
use Rattle.steps.specs.Noes.{relayout_tested}
use Rattle.steps.specs.Results.{rows_out, marks_out, layout_result, relayout_result}
use Rattle.steps.specs.declared.LayoutInput.{LayoutInput}
use Rattle.laws.specs.Trees.{AllT}
use Rattle.laws.specs.Pages.{Both, was_site, now_site, old_of, again, Honest, LeavesT}
use Rattle.laws.specs.Below.{Two, page1, page2, below_of, Agree, below_kept}
use Rattle.laws.specs.Tables.{SameShape, Named, Checks, Calls, AgreeAt, below_at}
use Rattle.laws.proofs.Relayout as relayout
use Rattle.laws.proofs.Learns as learns
use Rattle.laws.proofs.Public as public

-- 1. Relayout is fresh. `was` was laid out at q and left the old rows; the edit marks name every node that differs; `now` is asked at any p.
pub relayout_is_fresh : (t : Tree Both) (q p : LayoutInput) → map_t old_of t ≡ (fresh (map_t was_site t) q).rows → AllT Honest t → LeavesT (map_t now_site t)
    → relaid (map_t again t) p ≡ fresh (map_t now_site t) p
relayout_is_fresh t q p rows honest leaves = relayout.relayout_fresh t q p rows honest leaves

-- 3. It learns nothing. Two pages with the same rows (any rows), edits and question agree but in styles strictly below nodes that the relayout keeps,
-- where they agree in kind and position: one result.
pub it_learns_nothing : (t : Tree Two) (q : LayoutInput) → map_t below_of t ≡ below_kept (map_t page1 t) q → AllT Agree t → relaid (map_t page1 t) q ≡ relaid (map_t page2 t) q
it_learns_nothing t q below agree = learns.learns_nothing t q below agree

-- 4. The public calls. `checks`: tables that pass the tests are a page; this is for the crate of the tests to give.
module _ (checks : Checks) where
  -- Rows left by an accepted layout and any accepted relayouts are those of a fresh layout of the last tables at the last question.
  pub calls-are-fresh : (ws : List ℕ) (xs : List Float) (q : LayoutInput) (rs : List Float) (ms : List ℕ) → Calls ws xs q rs ms → (rs ≡ rows_out (fresh (page_of ws xs []) q).rows) × (ms ≡ marks_out (fresh (page_of ws xs []) q).rows)
  calls-are-fresh ws xs q rs ms calls = let f = public.calls-fresh checks ws xs q rs ms calls in (f.rows, f.marks)

  -- From such rows, tables of the same shape and an edit list that names every node that differs: a relayout that passes the tests has the whole result of a
  -- layout: answer and place (refusal 8 too), rows, marks, candidates.
  pub relayout_is_layout : (ws : List ℕ) (xs : List Float) (q : LayoutInput) (rs : List Float) (ms : List ℕ) (ws' : List ℕ) (xs' : List Float) (cw : List ℕ) (cx : List Float) (es : List ℕ) (p : LayoutInput)
      → Calls ws xs q rs ms → SameShape ws ws' → Named es ws xs ws' xs' → relayout_tested ws' xs' rs ms cw cx es p ≡ Ok tt → relayout_result ws' xs' rs ms cw cx es p ≡ layout_result ws' xs' rs ms cw cx p
  relayout_is_layout ws xs q rs ms ws' xs' cw cx es p calls shape named pass = public.relayout-layout-same checks ws xs q rs ms ws' xs' cw cx es p (public.calls-fresh checks ws xs q rs ms calls) shape named pass

  -- Two pages of one shape that agree but below kept nodes, both passing the tests, with the same rows (any rows), edits, question and room: one whole result.
  pub relayouts_agree : (ws : List ℕ) (xs : List Float) (ws' : List ℕ) (xs' : List Float) (rs : List Float) (ms cw : List ℕ) (cx : List Float) (es : List ℕ) (q : LayoutInput) → SameShape ws ws'
      → ((i : ℕ) → i < nodes_in ws → AgreeAt ws xs ws' xs' (below_at ws xs rs ms es q i) i) → relayout_tested ws xs rs ms cw cx es q ≡ Ok tt → relayout_tested ws' xs' rs ms cw cx es q ≡ Ok tt
      → relayout_result ws xs rs ms cw cx es q ≡ relayout_result ws' xs' rs ms cw cx es q
  relayouts_agree ws xs ws' xs' rs ms cw cx es q shape agree pass pass' = public.relayouts_same checks ws xs ws' xs' rs ms cw cx es q shape agree pass pass'
