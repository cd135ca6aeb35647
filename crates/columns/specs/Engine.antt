-- With the reader of numbers that stand field by field the calls are the engine's own: by computing, so that no word of Reader.antt is another.
use Rattle.std.specs.Prelude.{◌≡◌, List, ℕ, Float}
use Rattle.std.proofs.Math.Path.{refl}
use Rattle.style.specs.Style.{length_at, size_at, rect_at, measure_at, style_at}
use Rattle.steps.specs.Page.{site_at, cell_at, page_of, cells_of}
use Rattle.steps.specs.Noes.{bad_tables, ratio_beside_fraction, bad_style, bad_numbers, no3, no4, no5, page_tested, layout_tested, relayout_tested, size_tested}
use Rattle.steps.specs.Results.{layout_result, relayout_result, size_result}
use Rattle.steps.specs.declared.LayoutInput.{LayoutInput}
use Rattle.steps.specs.declared.RequestedAxis.{RequestedAxis}
use Rattle.columns.specs.Reader.{length_with, size_with, rect_with, measure_with, style_with, site_with, cell_with, page_with, cells_with, bad_tables_with, bad_style_with, bad_numbers_with, no4_with, no5_with, page_tested_with, layout_tested_with, relayout_tested_with, size_tested_with, layout_with, relayout_with, size_result_with}
use Rattle.columns.specs.Order.{columns}

-- every definition that looks a number up, here and in the engine
unfoldable readers : ℕ
unfolding length_at size_at rect_at measure_at style_at site_at cell_at page_of cells_of bad_tables ratio_beside_fraction bad_style bad_numbers no3 no4 no5 page_tested layout_tested relayout_tested size_tested length_with size_with rect_with measure_with style_with site_with cell_with page_with cells_with bad_tables_with bad_style_with bad_numbers_with no4_with no5_with page_tested_with layout_tested_with relayout_tested_with size_tested_with
readers = 0

module _ (ws : List ℕ) (xs rs : List Float) (ms cw : List ℕ) (cx : List Float) (q : LayoutInput) where
  pub layout_is : layout_result ws xs rs ms cw cx q ≡ layout_with (columns xs) ws rs ms cw cx q
  unfolding readers layout_result layout_with
  layout_is = refl

  pub relayout-is : (es : List ℕ) → relayout_result ws xs rs ms cw cx es q ≡ relayout_with (columns xs) ws rs ms cw cx es q
  unfolding readers relayout_result relayout_with
  relayout-is es = refl

pub size_is : (ws : List ℕ) (xs : List Float) (q : LayoutInput) (a : RequestedAxis) → size_result ws xs q a ≡ size_result_with (columns xs) ws q a
unfolding readers size_result size_result_with
size_is ws xs q a = refl
