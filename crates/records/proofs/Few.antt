-- No call gives more records than the page needs.
use mathlib.Core.Path.{◌≡◌, refl, sym, ap, ◌∙◌}
use mathlib.Core.List.{List, []}
use Prim.Native.Nat.{ℕ, ◌≤◌}
use native.Mathlib.Omega.{arith}
use lib.ListN.{length}
use lib.Ieee.{Float}
use Rattle.tree.specs.Tree.{Tree, map_t}
use Rattle.tree.proofs.Laws.{map_map_t}
use Rattle.steps.specs.Page.{Site, Cell, named, site_at, nodes_in, page_of, cells_of, blank}
use Rattle.steps.specs.Layout.{relaid, fresh}
use Rattle.steps.specs.Candidates.{candidates, needed}
use Rattle.steps.specs.declared.LayoutInput.{LayoutInput}
use Rattle.laws.specs.Afresh.{site_in}
use Rattle.tables.proofs.GoodPage.{parse-relabel, page_of_cells}
use Rattle.layout.proofs.Accepted.{unmarked, same-need}
use Rattle.layout.proofs.Count.{few_candidates}

blank_need : (t : Tree Site) → needed (map_t site_in (map_t blank t)) ≡ needed t
unfolding blank
blank_need t = ap needed (map_map_t site_in blank t) ∙ same-need unmarked (λ _. refl) t

pub few_fresh : (ws : List ℕ) (xs : List Float) (q : LayoutInput) → length (candidates (fresh (page_of ws xs []) q).rows) ≤ needed (page_of ws xs [])
unfolding fresh
few_fresh ws xs q =
    let f = few_candidates (map_t blank (page_of ws xs [])) q in
    let n = blank_need (page_of ws xs []) in
    omega (arith, f, n)

mark_off : (ws : List ℕ) (xs : List Float) (es : List ℕ) → page_of ws xs [] ≡ map_t unmarked (page_of ws xs es)
unfolding page_of site_at named
mark_off ws xs es = parse-relabel unmarked (site_at ws xs es 0) (site_at ws xs [] 0) (λ i. refl) (nodes_in ws)

cells_need : (ws : List ℕ) (xs rs : List Float) (ms es : List ℕ) → needed (map_t site_in (cells_of ws xs rs ms es)) ≡ needed (page_of ws xs [])
cells_need ws xs rs ms es =
    ap needed (sym (map_map_t unmarked (λ (c : Cell). c.site) (cells_of ws xs rs ms es)) ∙ ap (map_t unmarked) (sym (page_of_cells ws xs rs ms es)) ∙ sym (mark_off ws xs es))

pub few_relaid : (ws : List ℕ) (xs rs : List Float) (ms es : List ℕ) (q : LayoutInput) → length (candidates (relaid (cells_of ws xs rs ms es) q).rows) ≤ needed (page_of ws xs [])
few_relaid ws xs rs ms es q =
    let f = few_candidates (cells_of ws xs rs ms es) q in
    let n = cells_need ws xs rs ms es in
    omega (arith, f, n)
