-- Demand 3 carried to tables: trees parsed from them, and the results of the public calls.
use Rattle.std.specs.Prelude.{◌≡◌, ℕ, ◌+◌, ◌<◌, Float, Ok}
use Rattle.std.proofs.Math.Path.{refl, ap}
use Rattle.std.proofs.Common.{sym, ◌∙◌, arith}
use mathlib.Core.List.{List, []}
use Rattle.style.specs.Style.{word_at, style_at}
use Rattle.tree.specs.Tree.{Tree, map_t}
use Rattle.tree.specs.Table.{Entry, parse_t}
use Rattle.steps.specs.Row.{row_at}
use Rattle.steps.specs.Page.{Site, Cell, named, site_at, cell_at, nodes_in, page_of, cells_of}
use Rattle.steps.specs.Kept.{Laid}
use Rattle.steps.specs.Layout.{relaid, fresh}
use Rattle.steps.specs.Noes.{relayout_tested}
use Rattle.steps.specs.Results.{rows_out, marks_out, layout_result, relayout_result}
use Rattle.steps.specs.declared.LayoutInput.{LayoutInput}
use Rattle.laws.specs.Trees.{AllT}
use Rattle.laws.specs.Pages.{Both, was_site, now_site, old_of, again, Honest}
use Rattle.laws.proofs.Relayout.{relayout_fresh}
use Rattle.laws.specs.Parsed.{on_label, parse-map, parse-same, all_parse}
use Rattle.laws.specs.Shape.{fresh_shape}
use Rattle.laws.specs.Entries.{rows_tree}
use Rattle.laws.specs.Tables.{SameAt, SameShape, Named, Sound, Checks, Calls, laid_out, laid_again, AgreeAt, below_at}
use Rattle.laws.specs.Styles.{same_style}
use Rattle.laws.proofs.Blind.{tables-same}
use Rattle.laws.specs.Answers.{layout_accepted, relayout_accepted, relayout_layout}
use Rattle.laws.specs.Public.{FreshRows, reply_same}

same_site : (ws : List ℕ) (xs : List Float) (ws' : List ℕ) (xs' : List Float) (i : ℕ) → SameAt ws xs ws' xs' i → style_at ws i xs (0 + i) ≡ style_at ws' i xs' (0 + i)
same_site ws xs ws' xs' i h =
    let z : 0 + i ≡ i = omega arith in
    rw z (same_style ws xs ws' xs' i h)

module _ (ws : List ℕ) (xs : List Float) (ws' : List ℕ) (xs' : List Float) (rs : List Float) (ms es : List ℕ) where
  -- node i of both pages with its old row
  abbrev both_at : ℕ → Entry Both
  both_at i = record { size = word_at ws' i 0; label = record { node = 0 + i; now = style_at ws' i xs' (0 + i); was = style_at ws i xs (0 + i); old = row_at rs ms i; edit = named es (0 + i) } }

  abbrev both_tree : Tree Both
  both_tree = parse_t both_at (nodes_in ws')

  again-view : map_t again both_tree ≡ cells_of ws' xs' rs ms es
  unfolding cells_of cell_at site_at
  again-view = parse-map again both_at (nodes_in ws')

  now-view : map_t now_site both_tree ≡ page_of ws' xs' []
  unfolding page_of site_at named
  now-view = parse-map now_site both_at (nodes_in ws')

  module _ (shape : SameShape ws ws') (some : 0 < nodes_in ws) where
    small : (i : ℕ) → i < nodes_in ws' → i < nodes_in ws
    small i p = rw shape.nodes p

    was-view : map_t was_site both_tree ≡ page_of ws xs []
    unfolding page_of site_at named
    was-view =
        parse-map was_site both_at (nodes_in ws')
        ∙ parse-same (λ (i : ℕ). on_label was_site (both_at i)) (site_at ws xs [] 0) (nodes_in ws') (rw shape.nodes at some) (λ i p. ap (λ (n : ℕ). record { size = n; label = was_site (both_at i).label }) (sym (shape.sizes i (small i p))))
        ∙ ap (parse_t (site_at ws xs [] 0)) (sym shape.nodes)

    honest : Named es ws xs ws' xs' → AllT Honest both_tree
    honest h =
        all_parse Honest both_at (nodes_in ws') (rw shape.nodes at some)
        (λ i p e. same_site ws xs ws' xs' i (h i (small i p) (ap (named es) (z i) ∙ e)))
      where
        z : (i : ℕ) → i ≡ 0 + i
        z i = omega arith

    old-view : (q : LayoutInput) → Sound ws xs → rs ≡ rows_out (fresh (page_of ws xs []) q).rows → ms ≡ marks_out (fresh (page_of ws xs []) q).rows → map_t old_of both_tree ≡ (fresh (page_of ws xs []) q).rows
    unfolding site_at
    old-view q s er em =
        let r = (fresh (page_of ws xs []) q).rows in
        parse-map old_of both_at (nodes_in ws')
        ∙ parse-same (λ (i : ℕ). on_label old_of (both_at i)) (λ (i : ℕ). record { size = (site_at ws xs [] 0 i).size; label = row_at rs ms i }) (nodes_in ws') (rw shape.nodes at some)
        (λ i p. ap (λ (n : ℕ). record { size = n; label = row_at rs ms i }) (sym (shape.sizes i (small i p))))
        ∙ rw (← shape.nodes, er, em) (rows_tree (site_at ws xs [] 0) (nodes_in ws) (page_of ws xs []) r s.entries (fresh_shape (page_of ws xs []) q))

    -- the rows of a relayout are those of a fresh layout
    pub tables-fresh : (q p : LayoutInput) → Sound ws xs → Sound ws' xs' → Named es ws xs ws' xs' → rs ≡ rows_out (fresh (page_of ws xs []) q).rows → ms ≡ marks_out (fresh (page_of ws xs []) q).rows
        → relaid (cells_of ws' xs' rs ms es) p ≡ fresh (page_of ws' xs' []) p
    tables-fresh q p s s' n er em =
        let e : map_t old_of both_tree ≡ (fresh (map_t was_site both_tree) q).rows = old-view q s er em ∙ ap (λ (t : Tree Site). (fresh t q).rows) (sym was-view) in
        ap (λ (t : Tree Cell). relaid t p) (sym again-view) ∙ relayout_fresh both_tree q p e (honest n) (rw now-view s'.leaves) ∙ ap (λ (t : Tree Site). fresh t p) now-view

module _ (checks : Checks) where
  -- one relayout
  pub relayout-layout-same : (ws : List ℕ) (xs : List Float) (q : LayoutInput) (rs : List Float) (ms : List ℕ) (ws' : List ℕ) (xs' : List Float) (cw : List ℕ) (cx : List Float) (es : List ℕ) (p : LayoutInput)
      → FreshRows ws xs q rs ms → SameShape ws ws' → Named es ws xs ws' xs' → relayout_tested ws' xs' rs ms cw cx es p ≡ Ok tt → relayout_result ws' xs' rs ms cw cx es p ≡ layout_result ws' xs' rs ms cw cx p
  unfolding relayout_result layout_result
  relayout-layout-same ws xs q rs ms ws' xs' cw cx es p f shape named t =
      let l = relayout_layout ws' xs' rs ms cw cx es p t in
      let s' = checks.sound ws' xs' rs ms cw cx p l in
      reply_same _ _ (nodes_in ws') (nodes_in ws') _ _ rs ms cw cx t l refl (ap (λ (x : Laid). x.rows) (tables-fresh ws xs ws' xs' rs ms es shape f.sound.some q p f.sound s' named f.rows f.marks))

  -- chains of calls
  pub calls-fresh : (ws : List ℕ) (xs : List Float) (q : LayoutInput) (rs : List Float) (ms : List ℕ) → Calls ws xs q rs ms → FreshRows ws xs q rs ms
  calls-fresh ws xs q rs ms (laid_out a b c d e f g k h) =
      let z = layout_accepted a b c d e f g k h in
      record { sound = checks.sound a b c d e f g z.passed; rows = z.rows_are; marks = z.marks_are }
  calls-fresh ws xs q rs ms (laid_again a b r c d a' b' e f es p k before shape named h) =
      let z = relayout_accepted a' b' c d e f es p k h in
      let o = calls-fresh a b r c d before in
      let s' = checks.sound a' b' c d e f p (relayout_layout a' b' c d e f es p z.passed) in
      let t = ap (λ (x : Laid). x.rows) (tables-fresh a b a' b' c d es shape o.sound.some r p o.sound s' named o.rows o.marks) in
      record { sound = s'; rows = z.rows_are ∙ ap rows_out t; marks = z.marks_are ∙ ap marks_out t }

  -- two pages that differ only below kept nodes
  pub relayouts_same : (ws : List ℕ) (xs : List Float) (ws' : List ℕ) (xs' : List Float) (rs : List Float) (ms cw : List ℕ) (cx : List Float) (es : List ℕ) (q : LayoutInput) → SameShape ws ws'
      → ((i : ℕ) → i < nodes_in ws → AgreeAt ws xs ws' xs' (below_at ws xs rs ms es q i) i) → relayout_tested ws xs rs ms cw cx es q ≡ Ok tt → relayout_tested ws' xs' rs ms cw cx es q ≡ Ok tt
      → relayout_result ws xs rs ms cw cx es q ≡ relayout_result ws' xs' rs ms cw cx es q
  unfolding relayout_result
  relayouts_same ws xs ws' xs' rs ms cw cx es q shape agree t t' =
      let s = checks.sound ws xs rs ms cw cx q (relayout_layout ws xs rs ms cw cx es q t) in
      let e = ap (λ (x : Laid). x.rows) (tables-same ws xs ws' xs' rs ms es q s shape agree) in
      reply_same _ _ (nodes_in ws) (nodes_in ws') _ _ rs ms cw cx t t' shape.nodes e
