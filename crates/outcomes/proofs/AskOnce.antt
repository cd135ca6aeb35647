-- Ask once, trust it: of one page and one question the both-axes size question gives numbers 2 and 3 of the root's row that a layout leaves.
use Rattle.steps.specs.declared.Refusal.TheVariants.{TooLarge}
use Rattle.steps.specs.declared.Refusal.{Refusal}
use Rattle.geometry.specs.declared.Size.{Size}
use Rattle.std.specs.Prelude.{◌≡◌, Bool, ◌||◌, ℕ, ◌+◌, ◌-◌, ◌*◌, ◌<◌, get_or, Float, Result, Ok, Err}
use Rattle.std.proofs.Math.Path.{refl, sym}
use Rattle.std.proofs.Common.{ap, ◌∙◌, arith}
use Rattle.std.proofs.Math.Bool.{true, false}
use mathlib.Core.List.{List, []}
use Rattle.geometry.specs.Geometry.{zero_f}
use Rattle.limits.specs.Limits.{too_large}
use Rattle.limits.specs.Bools.{or_left}
use Rattle.style.specs.Flow.{is_leaf}
use Rattle.tree.specs.Tree.{node}
use Rattle.tree.specs.Table.{from, parse_f, parse_t}
use Rattle.tree.specs.declared.NodeId.{NodeId}
use Rattle.steps.specs.Page.{site_at, nodes_in, page_of}
use Rattle.steps.specs.Question.{root_input}
use Rattle.steps.specs.Layout.{fresh}
use Rattle.steps.specs.SizeQuestion.{axes, size_of}
use Rattle.steps.specs.Noes.{bad_tables, bad_rows, bad_style, bad_row}
use Rattle.steps.specs.Results.{rows_out, accepted, over_limit, replied, tested, layout_result, size_result}
use Rattle.steps.specs.declared.Question.{Question}
use Rattle.steps.specs.declared.RequestedAxis.TheVariants.{Both}
use Rattle.tables.specs.Refusals.{Sound, LayoutSound}
use Rattle.tables.proofs.Passing.{sized}
use Rattle.tables.proofs.GoodPage.{site_leaf}
use Rattle.tables.proofs.ScanLaws.{never, some_is, nowhere-lowest}
use Rattle.tables.proofs.Exactly.{layout-exactly}
use Rattle.laws.specs.AskOnce.{root_laid}
use Rattle.laws.proofs.AskOnce.{size_is_laid}
use Rattle.layout.specs.Public.{Replied}
use Rattle.measure.specs.Public.{SizeReplied}
use Rattle.outcomes.proofs.LayoutLaws.{layout-gives}
use Rattle.outcomes.specs.Sizes.{large_size}
use Rattle.outcomes.proofs.Sizes.{size-gives}
use Rattle.outcomes.specs.AskOnce.{root_size, root_block, no_basis_lem, first_row}

module _ (ws : List ℕ) (xs : List Float) (q : Question) where
  abbrev laid_rows : List Float
  laid_rows = rows_out (fresh (page_of ws xs []) (root_input q)).rows

  -- the size that is asked for is that of the fresh rows
  size-of-rows : bad_style ws xs 0 ≡ false → size_of (page_of ws xs []) (root_input q) Both ≡ root_size laid_rows
  unfolding page_of parse_t
  size-of-rows e =
      let l = (site_at ws xs [] 0 0).label in
      let k : is_leaf l.style.kind ≡ false = site_leaf ws xs [] 0 ∙ root_block ws xs e in
      let ks = parse_f (nodes_in ws - 1) (from (site_at ws xs [] 0) 1 (nodes_in ws - 1)) in
      let r = root_laid l ks (root_input q) k in
      size_is_laid l ks (root_input q) k (no_basis_lem q) ∙ sym (rw r.is (first_row (root_input q) (fresh (node l ks) (root_input q)).out r.words r.kids))

  large-row : large_size (root_size laid_rows) ≡ true → bad_row laid_rows 0 ≡ true
  unfolding bad_row axes
  large-row e = go (too_large (get_or laid_rows 2 zero_f)) refl
    where
      go : (b : Bool) → too_large (get_or laid_rows 2 zero_f) ≡ b → bad_row laid_rows 0 ≡ true
      go true h = some_is (λ k. too_large (get_or laid_rows (16 * 0 + k) zero_f)) 16 2 (omega arith) h
      go false h = some_is (λ k. too_large (get_or laid_rows (16 * 0 + k) zero_f)) 16 3 (omega arith) (ap (λ (b : Bool). b || too_large (get_or laid_rows 3 zero_f)) (sym h) ∙ e)

  small_row : bad_row laid_rows 0 ≡ false → large_size (root_size laid_rows) ≡ false
  small_row e = go (large_size (root_size laid_rows)) refl
    where
      go : (b : Bool) → large_size (root_size laid_rows) ≡ b → large_size (root_size laid_rows) ≡ false
      go false h = h
      go true h = never (sym (large-row h) ∙ e)

  module _ (rs : List Float) (ms cw : List ℕ) (cx : List Float) where
    -- the rows of an accepted layout
    accepted-rows : LayoutSound ws xs rs ms cw cx (root_input q) → Sound (bad_row laid_rows) (nodes_in ws) → (layout_result ws xs rs ms cw cx (root_input q)).rows ≡ laid_rows
    unfolding layout_result tested replied over_limit accepted
    accepted-rows d s = rw ((layout-exactly ws xs rs ms cw cx (root_input q) (Ok tt)).given d, nowhere-lowest (bad_row laid_rows) (nodes_in ws) s)

    tables-fit : LayoutSound ws xs rs ms cw cx (root_input q) → bad_tables ws xs ≡ false
    tables-fit d = or_left (bad_tables ws xs) (bad_rows ws rs ms) d.lengths

    some_node : LayoutSound ws xs rs ms cw cx (root_input q) → 0 < nodes_in ws
    some_node d = (sized ws xs (tables-fit d)).some

    module _ (a : Result ℕ Refusal) (rs' : List Float) (ms' cw' : List ℕ) (cx' : List Float) (call : Replied (layout_result ws xs rs ms cw cx (root_input q)) a rs' ms' cw' cx') (r : Result (Size Float) Refusal) (asked : SizeReplied (size_result ws xs (root_input q) Both) r) where
      -- An accepted layout: the size question is answered too, with the root's size as the layout left it.
      pub asked-is-laid : (k : ℕ) → a ≡ Ok k → r ≡ Ok (root_size rs')
      asked-is-laid k e =
          let g = (layout-gives ws xs rs ms cw cx (root_input q) a rs' ms' cw' cx' call (Ok k)).only e in
          let d = g.0 in
          let same : size_of (page_of ws xs []) (root_input q) Both ≡ root_size laid_rows = size-of-rows (d.page.codes 0 (some_node d)) in
          let left : rs' ≡ laid_rows = call.rows_are ∙ accepted-rows d g.1 in
          let small : large_size (size_of (page_of ws xs []) (root_input q) Both) ≡ false = ap large_size same ∙ small_row (g.1 0 (some_node d)) in
          (size-gives ws xs (root_input q) Both (Ok (root_size rs')) r asked.answer_is).given ((tables-fit d, d.page), small, ap root_size left ∙ sym same)

      -- A size that is refused by 8: a layout that passes its tests is refused by 8 too, at the root. (The other way round a layout may be refused by 8 for another row or number.)
      pub too-large-is-laid : (i : NodeId) → r ≡ Err (TooLarge i) → LayoutSound ws xs rs ms cw cx (root_input q) → a ≡ Err (TooLarge (record { 0 = 0 }))
      too-large-is-laid i e d =
          let g = (size-gives ws xs (root_input q) Both (Err (TooLarge i)) r asked.answer_is).only e in
          let same = size-of-rows (d.page.codes 0 (some_node d)) in
          let large : bad_row laid_rows 0 ≡ true = large-row (ap large_size (sym same) ∙ g.1) in
          (layout-gives ws xs rs ms cw cx (root_input q) a rs' ms' cw' cx' call (Err (TooLarge (record { 0 = 0 })))).given (d, record { within = some_node d; fault = large; lower = λ j l. absurd (omega (arith, l)) })

      -- Refused by 8 at a root whose own two numbers are not too large, or at another node: the size question answers.
      pub sized-beside-large : (i : NodeId) → a ≡ Err (TooLarge i) → large_size (root_size laid_rows) ≡ false → r ≡ Ok (root_size laid_rows)
      sized-beside-large i e h =
          let d = ((layout-gives ws xs rs ms cw cx (root_input q) a rs' ms' cw' cx' call (Err (TooLarge i))).only e).0 in
          let same = size-of-rows (d.page.codes 0 (some_node d)) in
          (size-gives ws xs (root_input q) Both (Ok (root_size laid_rows)) r asked.answer_is).given ((tables-fit d, d.page), ap large_size same ∙ h, sym same)
