-- A call on memory cut to the records lent replies what `layout_within` and `relayout_within` say.
use Rattle.std.specs.Prelude.{Result, Ok, Err, ⊤}
use Rattle.steps.specs.declared.Refusal.TheVariants.{Lengths, Room}
use Rattle.steps.specs.declared.Refusal.{Refusal}
use mathlib.Core.Path.{◌≡◌, refl, ◌∙◌}
use mathlib.Core.Bool.{Bool, true, false, cond, ◌||◌}
use mathlib.Core.List.{List, [], ◌++◌}
use Prim.Native.Nat.{ℕ, ◌*◌, ◌/◌, ◌≤◌, min}
use native.Mathlib.Omega.{arith}
use lib.ListN.{length, take, drop, take-append-drop}
use lib.Dec.{ltb}
use lib.Ieee.{Float}
use borrow.Author.Tests.{ltb-false}
use Rattle.tree.specs.Tree.{Tree}
use Rattle.steps.specs.Row.{Row}
use Rattle.steps.specs.Page.{nodes_in, page_of, cells_of}
use Rattle.steps.specs.Layout.{relaid, fresh}
use Rattle.steps.specs.Candidates.{candidates, needed}
use Rattle.steps.specs.Noes.{bad_tables, bad_rows, refuse_if, and_then, no5, page_tested, layout_tested, relayout_tested}
use Rattle.steps.specs.Results.{Reply, replied, tested, layout_result, relayout_result}
use Rattle.steps.specs.declared.LayoutInput.{LayoutInput}
use Rattle.layout.specs.Public.{Replied}
use Rattle.layout.proofs.Accepted.{passes, again_passes}
use Rattle.records.specs.Results.{as_lent, within, layout_within, relayout_within}
use Rattle.records.proofs.Few.{few_fresh, few_relaid}
use Rattle.records.proofs.Cut.{whole, tested-whole, replied-whole, lent_records, cut-few, none-few, cut-enough}

-- ---- tests that end in a refusal
-- what they answer: the first no, else the last
pub record Ends (t : Result ⊤ Refusal) : Type 0 where
  pub with : Refusal
  pub is : t ≡ Err with

ends_then : (t u : Result ⊤ Refusal) → Ends u → Ends (and_then t u)
unfolding and_then
ends_then (Ok _) u e = e
ends_then (Err a) u e = record { with = a; is = refl }

-- the first of 1 to 4 that is due, and else 5
abbrev pub at_most5 : List ℕ → List Float → List Float → List ℕ → LayoutInput → Result ⊤ Refusal
at_most5 ws xs rs ms q = and_then (refuse_if (bad_tables ws xs || bad_rows ws rs ms) Lengths) (and_then (page_tested ws xs q) (Err Room))

pub at_most_5 : (ws : List ℕ) (xs rs : List Float) (ms : List ℕ) (q : LayoutInput) → Ends (at_most5 ws xs rs ms q)
at_most_5 ws xs rs ms q = ends_then _ _ (ends_then _ _ (record { with = Room; is = refl }))

pub layout_no_room : (ws : List ℕ) (xs rs : List Float) (ms cw : List ℕ) (cx : List Float) (q : LayoutInput) → no5 ws xs cw cx ≡ Err Room → layout_tested ws xs rs ms cw cx q ≡ at_most5 ws xs rs ms q
unfolding layout_tested
layout_no_room ws xs rs ms cw cx q e = rw e

pub relayout_no_room : (ws : List ℕ) (xs rs : List Float) (ms cw : List ℕ) (cx : List Float) (es : List ℕ) (q : LayoutInput) → no5 ws xs cw cx ≡ Err Room → relayout_tested ws xs rs ms cw cx es q ≡ at_most5 ws xs rs ms q
unfolding relayout_tested and_then
relayout_no_room ws xs rs ms cw cx es q e = rw (layout_no_room ws xs rs ms cw cx q e, (at_most_5 ws xs rs ms q).is)

-- the tests see the candidate memory by 5 alone
layout_by_room : (ws : List ℕ) (xs rs : List Float) (ms cw cw' : List ℕ) (cx cx' : List Float) (q : LayoutInput) → no5 ws xs cw cx ≡ no5 ws xs cw' cx' → layout_tested ws xs rs ms cw cx q ≡ layout_tested ws xs rs ms cw' cx' q
unfolding layout_tested
layout_by_room ws xs rs ms cw cw' cx cx' q e = rw e

relayout_by_room : (ws : List ℕ) (xs rs : List Float) (ms cw cw' : List ℕ) (cx cx' : List Float) (es : List ℕ) (q : LayoutInput) → no5 ws xs cw cx ≡ no5 ws xs cw' cx' → relayout_tested ws xs rs ms cw cx es q ≡ relayout_tested ws xs rs ms cw' cx' es q
unfolding relayout_tested
relayout_by_room ws xs rs ms cw cw' cx cx' es q e = rw (layout_by_room ws xs rs ms cw cw' cx cx' q e)

-- ---- one call, with its tests on all of memory, on the cut, and on none
module _ (ws : List ℕ) (xs rs : List Float) (ms cw : List ℕ) (cx : List Float) (k : ℕ) (T cut none : Result ⊤ Refusal) (n : ℕ) (t : Tree Row) (r : Reply) where
  abbrev need : ℕ
  need = needed (page_of ws xs [])

  abbrev m : ℕ
  m = lent_records ws xs cw cx k

  refused-whole : (r' : Reply) (a : Refusal) → cut ≡ Err a → none ≡ Err a
      → whole m rs ms cw cx (tested cut r' rs ms (take (2 * m) cw) (take (3 * m) cx)) ≡ as_lent (tested none r rs ms [] []).answer rs ms cw cx
  unfolding tested
  refused-whole r' a e f = rw (e, f, take-append-drop (2 * m) cw, take-append-drop (3 * m) cx)

  call-whole : (ltb k need ≡ true → (a : Refusal) × ((cut ≡ Err a) × (none ≡ Err a))) → (ltb k need ≡ false → cut ≡ T) → (T ≡ Ok tt → need ≤ min (length cw / 2) (length cx / 3)) → length (candidates t) ≤ need
      → whole m rs ms cw cx (tested cut (replied n t rs ms (take (2 * m) cw) (take (3 * m) cx)) rs ms (take (2 * m) cw) (take (3 * m) cx))
      ≡ within k need (tested none r rs ms [] []).answer (tested T (replied n t rs ms cw cx) rs ms cw cx) rs ms cw cx
  unfolding within
  call-whole few enough room c = go (ltb k need) refl
    where
      go : (b : Bool) → ltb k need ≡ b
          → whole m rs ms cw cx (tested cut (replied n t rs ms (take (2 * m) cw) (take (3 * m) cx)) rs ms (take (2 * m) cw) (take (3 * m) cx))
          ≡ cond b (as_lent (tested none r rs ms [] []).answer rs ms cw cx) (tested T (replied n t rs ms cw cx) rs ms cw cx)
      go true e = let f = few e in refused-whole _ f.0 f.1.0 f.1.1
      go false e =
          let l = ltb-false k need e in
          rw (enough e) (tested-whole m rs ms cw cx T n t (λ p. let h = room p in omega (arith, l, h, c)))

-- ---- the two calls
module _ (ws : List ℕ) (xs rs : List Float) (ms cw : List ℕ) (cx : List Float) (k : ℕ) where
  abbrev cut_words : List ℕ
  cut_words = take (2 * lent_records ws xs cw cx k) cw

  abbrev cut_numbers : List Float
  cut_numbers = take (3 * lent_records ws xs cw cx k) cx

  pub layout-cut : (q : LayoutInput) (a : Result ℕ Refusal) (rs' : List Float) (ms' cw' : List ℕ) (cx' : List Float) → Replied (layout_result ws xs rs ms cut_words cut_numbers q) a rs' ms' cw' cx'
      → Replied (layout_within ws xs rs ms cw cx k q) a rs' ms' (cw' ++ drop (2 * lent_records ws xs cw cx k) cw) (cx' ++ drop (3 * lent_records ws xs cw cx k) cx)
  unfolding layout_result layout_within
  layout-cut q a rs' ms' cw' cx' h =
      let d = at_most_5 ws xs rs ms q in
      let e = call-whole ws xs rs ms cw cx k (layout_tested ws xs rs ms cw cx q) (layout_tested ws xs rs ms cut_words cut_numbers q) (layout_tested ws xs rs ms [] [] q) (nodes_in ws) (fresh (page_of ws xs []) q).rows
      (replied (nodes_in ws) (fresh (page_of ws xs []) q).rows rs ms [] [])
      (λ b. (d.with, (layout_no_room ws xs rs ms cut_words cut_numbers q (cut-few ws xs cw cx k b) ∙ d.is, layout_no_room ws xs rs ms [] [] q (none-few ws xs cw cx k b) ∙ d.is)))
      (λ b. layout_by_room ws xs rs ms cut_words cw cut_numbers cx q (cut-enough ws xs cw cx k b)) (λ p. (passes ws xs rs ms cw cx q p).room) (few_fresh ws xs q) in
      rw e at (replied-whole (lent_records ws xs cw cx k) rs ms cw cx _ a rs' ms' cw' cx' h)

  pub relayout-cut : (es : List ℕ) (q : LayoutInput) (a : Result ℕ Refusal) (rs' : List Float) (ms' cw' : List ℕ) (cx' : List Float) → Replied (relayout_result ws xs rs ms cut_words cut_numbers es q) a rs' ms' cw' cx'
      → Replied (relayout_within ws xs rs ms cw cx k es q) a rs' ms' (cw' ++ drop (2 * lent_records ws xs cw cx k) cw) (cx' ++ drop (3 * lent_records ws xs cw cx k) cx)
  unfolding relayout_result relayout_within
  relayout-cut es q a rs' ms' cw' cx' h =
      let d = at_most_5 ws xs rs ms q in
      let e = call-whole ws xs rs ms cw cx k (relayout_tested ws xs rs ms cw cx es q) (relayout_tested ws xs rs ms cut_words cut_numbers es q) (relayout_tested ws xs rs ms [] [] es q) (nodes_in ws) (relaid (cells_of ws xs rs ms es) q).rows
      (replied (nodes_in ws) (relaid (cells_of ws xs rs ms es) q).rows rs ms [] [])
      (λ b. (d.with, (relayout_no_room ws xs rs ms cut_words cut_numbers es q (cut-few ws xs cw cx k b) ∙ d.is, relayout_no_room ws xs rs ms [] [] es q (none-few ws xs cw cx k b) ∙ d.is)))
      (λ b. relayout_by_room ws xs rs ms cut_words cw cut_numbers cx es q (cut-enough ws xs cw cx k b)) (λ p. (again_passes ws xs rs ms cw cx es q p).room) (few_relaid ws xs rs ms es q) in
      rw e at (replied-whole (lent_records ws xs cw cx k) rs ms cw cx _ a rs' ms' cw' cx' h)

  -- the same at a count that code has worked out
  pub layout-cut-at : (m : ℕ) → m ≡ lent_records ws xs cw cx k → (q : LayoutInput) (a : Result ℕ Refusal) (rs' : List Float) (ms' cw' : List ℕ) (cx' : List Float) → Replied (layout_result ws xs rs ms (take (2 * m) cw) (take (3 * m) cx) q) a rs' ms' cw' cx'
      → Replied (layout_within ws xs rs ms cw cx k q) a rs' ms' (cw' ++ drop (2 * m) cw) (cx' ++ drop (3 * m) cx)
  layout-cut-at m e q a rs' ms' cw' cx' h = rw e (layout-cut q a rs' ms' cw' cx' (rw e at h))

  pub relayout-cut-at : (m : ℕ) → m ≡ lent_records ws xs cw cx k → (es : List ℕ) (q : LayoutInput) (a : Result ℕ Refusal) (rs' : List Float) (ms' cw' : List ℕ) (cx' : List Float) → Replied (relayout_result ws xs rs ms (take (2 * m) cw) (take (3 * m) cx) es q) a rs' ms' cw' cx'
      → Replied (relayout_within ws xs rs ms cw cx k es q) a rs' ms' (cw' ++ drop (2 * m) cw) (cx' ++ drop (3 * m) cx)
  relayout-cut-at m e es q a rs' ms' cw' cx' h = rw e (relayout-cut es q a rs' ms' cw' cx' (rw e at h))
