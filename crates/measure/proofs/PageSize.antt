-- The steps of a size question at the root, in plain terms.
use Rattle.steps.specs.declared.Refusal.TheVariants.{Lengths}
use Rattle.steps.specs.declared.Refusal.{Refusal}
use Rattle.std.specs.Prelude.{Option, None, Some, unwrap_or, Result, Ok, Err, ⊤}
use mathlib.Core.Path.{◌≡◌, sym, ap, ◌∙◌}
use mathlib.Core.Bool.{false}
use mathlib.Core.List.{List, []}
use Prim.Native.Nat.{ℕ, ◌*◌}
use native.Mathlib.Omega.{arith}
use lib.Ieee.{Float}
use Rattle.geometry.specs.Geometry.{zero_f, down}
use Rattle.geometry.specs.declared.Size.{Size}
use Rattle.util.specs.Math.{larger}
use Rattle.style.specs.Style.{style_at}
use Rattle.style.specs.declared.Style.{Style}
use Rattle.tree.specs.Tree.{Tree, node, root_t}
use Rattle.tree.specs.Table.{from}
use Rattle.steps.specs.Sizing.{step_a, step_b, known_of}
use Rattle.steps.specs.Page.{Site, site_at, page_of}
use Rattle.steps.specs.Noes.{bad_tables, page_tested, refuse_if, size_tested}
use Rattle.steps.specs.SizeQuestion.{axes, step_c, width_known, step_g, size_below, size_of}
use Rattle.steps.specs.Results.{size_reply, size_by_test, size_result}
use Rattle.steps.specs.declared.Sizing.{Sizing}
use Rattle.steps.specs.declared.LayoutInput.{LayoutInput}
use Rattle.steps.specs.declared.LayoutOutput.{LayoutOutput}
use Rattle.steps.specs.declared.RequestedAxis.{RequestedAxis}
use Rattle.steps.specs.declared.RequestedAxis.TheVariants.{Horizontal, Both}
use Rattle.tables.proofs.Passing.{sized, then_pass_1, then_pass_2, if_pass, good_table}
use Rattle.tables.proofs.GoodPage.{GoodPage, good_page}
use Rattle.measure.specs.Dry.{size_t, found_t, rest_t, dry_size}
use Rattle.measure.specs.Contract.{SitesT, IsTree, MeasuredT, Found, Whole, Rest, KnownWidth, SizeOf}
use Rattle.measure.proofs.OneNode.{root_of_lem}
use Rattle.measure.proofs.Afresh.{size_dry}

module _ (ws : List ℕ) (xs : List Float) (q : LayoutInput) (a : RequestedAxis) where
  -- ---- G
  module _ (found width pb : Float) (height : Option Float) where
    pub height_known : (h v : Float) (r : Size Float) → height ≡ Some h → v ≡ larger h pb → r ≡ axes width v → Whole ws xs q a found width pb height r
    unfolding step_g
    height_known h v r e hv hr t s = hr ∙ ap (axes width) hv ∙ ap (λ (z : Option Float). step_g a width pb z (size_t t q found).size) (sym e)

    pub width-asked : (r : Size Float) → height ≡ None → a ≡ Horizontal → r ≡ axes width zero_f → Whole ws xs q a found width pb height r
    unfolding step_g
    width-asked r e ea hr t s = rw (e, ea) hr

    pub whole-asked : (o : LayoutOutput) → height ≡ None → a ≡ Both → MeasuredT ws xs 0 q found o → Whole ws xs q a found width pb height o.size
    unfolding step_g
    whole-asked o e ea ho t s = rw (e, ea) (ap (λ (z : LayoutOutput). z.size) (ho t s))

  -- ---- C, with the width known
  module _ (width : Float) (height : Option Float) where
    pub both-known : (h : Float) (r : Size Float) → height ≡ Some h → r ≡ axes width h → KnownWidth ws xs q a width height r
    unfolding width_known
    both-known h r e hr t s = hr ∙ ap (λ (z : Option Float). width_known a width z (rest_t t q a)) (sym e)

    pub width-enough : (r : Size Float) → height ≡ None → a ≡ Horizontal → r ≡ axes width zero_f → KnownWidth ws xs q a width height r
    unfolding width_known
    width-enough r e ea hr t s = hr ∙ ap (λ (z : RequestedAxis). width_known z width None (rest_t t q a)) (sym ea) ∙ ap (λ (z : Option Float). width_known a width z (rest_t t q a)) (sym e)

    pub go_on : (r : Size Float) → height ≡ None → a ≡ Both → Rest ws xs q a r → KnownWidth ws xs q a width height r
    unfolding width_known
    go_on r e ea hr t s = hr t s ∙ ap (λ (z : RequestedAxis). width_known z width None (rest_t t q a)) (sym ea) ∙ ap (λ (z : Option Float). width_known a width z (rest_t t q a)) (sym e)

  module _ (s : Style) (z : Sizing) (known : Size (Option Float)) (hs : s ≡ style_at ws 0 xs 0) (hz : z ≡ step_a s q.parent) where
    -- ---- D, F and G
    pub rest_of : (found w pb : Float) (r : Size Float) → known ≡ known_of s z q.known → Found ws xs q known.width found → w ≡ unwrap_or known.width found → pb ≡ down z.both → Whole ws xs q a found w pb known.height r → Rest ws xs q a r
    unfolding rest_t size_below
    rest_of found w pb r hk hf hw hp hr (node l ks) h =
        let t : Tree Site = node l ks in
        let st : s ≡ (root_t t).style = sym (root_of_lem ws xs 0 s hs l ks h) in
        let kk : known ≡ known_of (root_t t).style (step_a (root_t t).style q.parent) q.known =
        hk ∙ ap (λ (y : Sizing). known_of s y q.known) hz ∙ ap (λ (y : Style). known_of y (step_a y q.parent) q.known) st in
        let zz : z ≡ step_a (root_t t).style q.parent = hz ∙ ap (λ (y : Style). step_a y q.parent) st in
        hr t h ∙ ap (λ (y : Float). step_g a y pb known.height (size_t t q found).size) hw ∙ ap (λ (y : Float). step_g a (unwrap_or known.width found) y known.height (size_t t q found).size) hp
        ∙ ap (λ (y : Float). size_below a z known y (size_t t q y).size) (hf t h) ∙ ap (λ (y : Sizing). size_below a y known (found_t t q known.width) (size_t t q (found_t t q known.width)).size) zz
        ∙ ap (λ (y : Size (Option Float)). size_below a (step_a (root_t t).style q.parent) y (found_t t q y.width) (size_t t q (found_t t q y.width)).size) kk

    -- ---- C
    by-style : (o : Option Float) (t : Tree Site) → SitesT ws xs 0 t → known ≡ step_b z q.known → known.width ≡ o → step_c a o known.height (rest_t t q a) ≡ size_of t q a
    unfolding dry_size
    by-style o (node l ks) h hk ho =
        let t : Tree Site = node l ks in
        let st : s ≡ (root_t t).style = sym (root_of_lem ws xs 0 s hs l ks h) in
        let kk : known ≡ step_b (step_a (root_t t).style q.parent) q.known = hk ∙ ap (λ (y : Sizing). step_b y q.known) hz ∙ ap (λ (y : Style). step_b (step_a y q.parent) q.known) st in
        ap (λ (y : Option Float). step_c a y known.height (rest_t t q a)) (sym ho) ∙ ap (λ (y : Size (Option Float)). step_c a y.width y.height (rest_t t q a)) kk ∙ size_dry t q a

    pub size-open : (r : Size Float) → known ≡ step_b z q.known → known.width ≡ None → Rest ws xs q a r → SizeOf ws xs q a r
    unfolding step_c
    size-open r hk ho hr t h = hr t h ∙ by-style None t h hk ho

    pub size-known : (w : Float) (r : Size Float) → known ≡ step_b z q.known → known.width ≡ Some w → KnownWidth ws xs q a w known.height r → SizeOf ws xs q a r
    unfolding step_c
    size-known w r hk ho hr t h = hr t h ∙ by-style (Some w) t h hk ho

-- ---- a page that passes the tests is a tree of at most 32 levels
module _ (ws : List ℕ) (xs : List Float) (q : LayoutInput) (e : size_tested ws xs q ≡ Ok tt) where
  lengths-pass : bad_tables ws xs ≡ false
  unfolding size_tested
  lengths-pass = if_pass (bad_tables ws xs) Lengths (then_pass_1 (refuse_if (bad_tables ws xs) Lengths) (page_tested ws xs q) e)

  page-pass : page_tested ws xs q ≡ Ok tt
  unfolding size_tested
  page-pass = then_pass_2 (refuse_if (bad_tables ws xs) Lengths) (page_tested ws xs q) e

  good : GoodPage ws xs []
  good = good_page ws (good_table ws xs q lengths-pass page-pass) xs []

  page-sites : SitesT ws xs 0 (page_of ws xs [])
  page-sites = record { words_long = (sized ws xs lengths-pass).words ∙ ap (λ (n : ℕ). 4 * n) (sym good.count); sites_are = ap (from (site_at ws xs [] 0) 0) good.count ∙ good.entries }

  pub page-tree : IsTree ws xs 0 32
  page-tree =
      let n = good.count in
      record { tree = page_of ws xs []; sites = page-sites; deep = good.shallow; fit = omega (arith, (sized ws xs lengths-pass).few); reach = omega (arith, (sized ws xs lengths-pass).numbers) }

  pub answered-size : (a : RequestedAxis) (s : Size Float) (r : Result (Size Float) Refusal) → SizeOf ws xs q a s → r ≡ size_reply s → r ≡ size_result ws xs q a
  unfolding size_result size_by_test
  answered-size a s r hs hr = hr ∙ ap size_reply (hs (page_of ws xs []) page-sites) ∙ ap (λ (z : Result ⊤ Refusal). size_by_test z (size_reply (size_of (page_of ws xs []) q a))) (sym e)

pub refused_size : (ws : List ℕ) (xs : List Float) (q : LayoutInput) (a : RequestedAxis) (x : Refusal) → size_tested ws xs q ≡ Err x → Err x ≡ size_result ws xs q a
unfolding size_result size_by_test
refused_size ws xs q a x e = ap (λ (z : Result ⊤ Refusal). size_by_test z (size_reply (size_of (page_of ws xs []) q a))) (sym e)
