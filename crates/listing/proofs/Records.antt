-- The candidate list of the public calls: at exit of an accepted layout or relayout the records name exactly the page's asides, in preorder, and the count is what refusal 5 asks room for.
use Rattle.steps.specs.declared.Refusal.{Refusal}
use Rattle.std.specs.Prelude.{◌≡◌, ℕ, length, Float, Result, Ok, ⊤}
use Rattle.std.proofs.Common.{sym, ap, ◌∙◌}
use mathlib.Core.List.{List, []}
use Rattle.std.proofs.lemmas.List.{length-map}
use Rattle.tree.specs.Tree.{Tree, map_t}
use Rattle.steps.specs.Row.{Row}
use Rattle.steps.specs.Page.{Site, Cell, nodes_in, page_of, cells_of, blank}
use Rattle.steps.specs.Layout.{relaid, fresh}
use Rattle.steps.specs.Candidates.{Candidate, candidates, needed}
use Rattle.steps.specs.Noes.{bad_row, layout_tested, relayout_tested}
use Rattle.steps.specs.Results.{rows_out, accepted, over_limit, replied, tested, layout_result, relayout_result}
use Rattle.steps.specs.declared.LayoutInput.{LayoutInput}
use Rattle.tables.specs.Leaves.{LeavesT}
use Rattle.tables.specs.Refusals.{Sound}
use Rattle.tables.specs.TreeCheck.{GoodTable}
use Rattle.tables.proofs.ScanLaws.{nowhere-lowest}
use Rattle.tables.proofs.GoodPage.{leaf_site, good_page}
use Rattle.tables.proofs.Exactly.{layout-exactly, relayout-exactly}
use Rattle.laws.specs.Afresh.{site_in}
use Rattle.layout.specs.Public.{Replied}
use Rattle.layout.proofs.Accepted.{passes, again_passes}
use Rattle.outcomes.proofs.LayoutLaws.{layout-gives}
use Rattle.outcomes.proofs.Relayout.{relayout-gives}
use Rattle.listing.specs.Asides.{asides}
use Rattle.listing.proofs.Asides.{asides_needed}
use Rattle.listing.proofs.Laid.{relaid_nodes}
use Rattle.listing.specs.Members.{Grows}
use Rattle.listing.proofs.Members.{listed-exactly, asides_grow}
use Rattle.listing.specs.Records.{nodes_of, Lists, blank_page, cells_page}

-- either call, from the page whose rows it leaves
nodes_by : (t : Tree Cell) (q : LayoutInput) (p : Tree Site) → map_t site_in t ≡ p → LeavesT leaf_site p → nodes_of (candidates (relaid t q).rows) ≡ asides p
nodes_by t q p e g = relaid_nodes t q (rw e g) ∙ ap asides e

count_by : (l : List Candidate) (p : Tree Site) → nodes_of l ≡ asides p → length l ≡ needed p
count_by l p e = sym (length-map l (λ (c : Candidate). c.node)) ∙ ap length e ∙ asides_needed p

grow_page : (ws : List ℕ) (xs : List Float) → GoodTable ws → Grows 1 (nodes_in ws) (asides (page_of ws xs []))
grow_page ws xs good = rw (← (good_page ws good xs []).count) (asides_grow (page_of ws xs []))

module _ (ws : List ℕ) (xs : List Float) (good : GoodTable ws) (u : Result ⊤ Refusal) (t : Tree Row) (rs : List Float) (ms cw : List ℕ) (cx : List Float) (a : Result ℕ Refusal) (rs' : List Float) (ms' cw' : List ℕ) (cx' : List Float)
    (call : Replied (tested u (replied (nodes_in ws) t rs ms cw cx) rs ms cw cx) a rs' ms' cw' cx') where
  lists-by : (k : ℕ) → u ≡ Ok tt → Sound (bad_row (rows_out t)) (nodes_in ws) → k ≡ length (candidates t) → nodes_of (candidates t) ≡ asides (page_of ws xs []) → Lists ws xs k cw cx cw' cx'
  unfolding tested replied over_limit accepted
  lists-by k pass small e m =
      let c = rw (pass, nowhere-lowest (bad_row (rows_out t)) (nodes_in ws) small) at call in
      record {
        records = candidates t;
        nodes = m;
        exact = λ i. rw m (listed-exactly ws xs good i);
        grow = rw m (grow_page ws xs good);
        counted = e;
        as_needed = e ∙ count_by (candidates t) (page_of ws xs []) m;
        words = c.words_are;
        numbers = c.numbers_are;
      }

module _ (ws : List ℕ) (xs rs : List Float) (ms cw : List ℕ) (cx : List Float) (q : LayoutInput) where
  -- the candidates of a layout that passes the tests
  pub layout-nodes : layout_tested ws xs rs ms cw cx q ≡ Ok tt → nodes_of (candidates (fresh (page_of ws xs []) q).rows) ≡ asides (page_of ws xs [])
  unfolding fresh
  layout-nodes pass = nodes_by (map_t blank (page_of ws xs [])) q (page_of ws xs []) (blank_page ws xs) (good_page ws (passes ws xs rs ms cw cx q pass).good xs []).leaves

  -- an accepted layout
  pub layout-lists : (k : ℕ) (a : Result ℕ Refusal) (rs' : List Float) (ms' cw' : List ℕ) (cx' : List Float) → Replied (layout_result ws xs rs ms cw cx q) a rs' ms' cw' cx' → a ≡ Ok k → Lists ws xs k cw cx cw' cx'
  unfolding layout_result
  layout-lists k a rs' ms' cw' cx' call e =
      let g = (layout-gives ws xs rs ms cw cx q a rs' ms' cw' cx' call (Ok k)).only e in
      let pass = (layout-exactly ws xs rs ms cw cx q (Ok tt)).given g.0 in
      lists-by ws xs (passes ws xs rs ms cw cx q pass).good (layout_tested ws xs rs ms cw cx q) (fresh (page_of ws xs []) q).rows rs ms cw cx a rs' ms' cw' cx' call k pass g.1 g.2 (layout-nodes pass)

module _ (ws : List ℕ) (xs rs : List Float) (ms cw : List ℕ) (cx : List Float) (es : List ℕ) (q : LayoutInput) where
  -- the candidates of a relayout that passes the tests, whatever the old rows
  pub relayout-nodes : relayout_tested ws xs rs ms cw cx es q ≡ Ok tt → nodes_of (candidates (relaid (cells_of ws xs rs ms es) q).rows) ≡ asides (page_of ws xs [])
  relayout-nodes pass = nodes_by (cells_of ws xs rs ms es) q (page_of ws xs []) (cells_page ws xs rs ms es) (good_page ws (again_passes ws xs rs ms cw cx es q pass).good xs []).leaves

  -- an accepted relayout
  pub relayout-lists : (k : ℕ) (a : Result ℕ Refusal) (rs' : List Float) (ms' cw' : List ℕ) (cx' : List Float) → Replied (relayout_result ws xs rs ms cw cx es q) a rs' ms' cw' cx' → a ≡ Ok k → Lists ws xs k cw cx cw' cx'
  unfolding relayout_result
  relayout-lists k a rs' ms' cw' cx' call e =
      let g = (relayout-gives ws xs rs ms cw cx es q a rs' ms' cw' cx' call (Ok k)).only e in
      let pass = (relayout-exactly ws xs rs ms cw cx q es (Ok tt)).given g.0 in
      lists-by ws xs (again_passes ws xs rs ms cw cx es q pass).good (relayout_tested ws xs rs ms cw cx es q) (relaid (cells_of ws xs rs ms es) q).rows rs ms cw cx a rs' ms' cw' cx' call k pass g.1 g.2 (relayout-nodes pass)
