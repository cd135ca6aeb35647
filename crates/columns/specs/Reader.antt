-- The calls over any way of reading numbers: where crates style and steps look a number up in the lent list, these ask a reader. Engine.antt shows that nothing else differs.
use Rattle.steps.specs.declared.Refusal.TheVariants.{Lengths, Numbers, Room}
use Rattle.steps.specs.declared.Refusal.{Refusal}
use Rattle.geometry.specs.declared.Size.{Size}
use Rattle.geometry.specs.declared.Rect.{Rect}
use Rattle.std.specs.Prelude.{Bool, not, ◌&&◌, ◌||◌, List, [], ℕ, ◌+◌, ◌*◌, length, eqb, ltb, Float, Result, ⊤}
use Rattle.std.specs.Float.Ieee.{eq, lt}
use Rattle.limits.specs.Limits.{in_range}
use Rattle.geometry.specs.Geometry.{zero_f}
use Rattle.length.specs.declared.Length.{Length}
use Rattle.style.specs.Codes.{unit_of, length_of, ratio_of, baseline_of}
use Rattle.style.specs.Style.{word_at, style_at}
use Rattle.style.specs.declared.Measure.{Measure}
use Rattle.style.specs.declared.Style.{Style}
use Rattle.tree.specs.Tree.{Tree}
use Rattle.tree.specs.Table.{Entry, parse_t}
use Rattle.steps.specs.Row.{row_at}
use Rattle.steps.specs.Scan.{lowest, some}
use Rattle.steps.specs.Page.{Site, Cell, named, nodes_in}
use Rattle.steps.specs.Candidates.{needed}
use Rattle.steps.specs.Layout.{relaid, fresh}
use Rattle.steps.specs.SizeQuestion.{size_of}
use Rattle.steps.specs.Noes.{refuse_if, and_then, bad_rows, fraction_at, bad_codes, bad_field, bad_pixels, bad_ratio, bad_question, records_in, at_fault, no2, no3_by, no6, no7}
use Rattle.steps.specs.Results.{Reply, replied, tested, size_reply, size_by_test}
use Rattle.steps.specs.declared.LayoutInput.{LayoutInput}
use Rattle.steps.specs.declared.RequestedAxis.{RequestedAxis}

-- how many numbers are lent, and number f of node i
pub record Reader : Type 0 where
  pub lent : ℕ
  pub number : ℕ → ℕ → Float

-- ---- a node's style: the words of the node at i, the numbers of the node at j
unfoldable pub length_with : Reader → List ℕ → ℕ → ℕ → ℕ → Length
length_with r ws i j f = length_of (unit_of (word_at ws i 2) (word_at ws i 3) f) (r.number j f)

unfoldable pub size_with : Reader → List ℕ → ℕ → ℕ → ℕ → Size Length
size_with r ws i j f = record { width = length_with r ws i j f; height = length_with r ws i j (f + 1) }

unfoldable pub rect_with : Reader → List ℕ → ℕ → ℕ → ℕ → Rect Length
rect_with r ws i j f =
    record {
      top = length_with r ws i j f;
      right = length_with r ws i j (f + 1);
      bottom = length_with r ws i j (f + 2);
      left = length_with r ws i j (f + 3);
    }

unfoldable pub measure_with : Reader → List ℕ → ℕ → ℕ → Measure
measure_with r ws i j =
    record { least = r.number j 24; most = r.number j 25; height = r.number j 26; baseline = baseline_of (word_at ws i 1) (r.number j 27) }

-- what the words alone say is as in a style with no numbers
unfoldable pub style_with : Reader → List ℕ → ℕ → ℕ → Style
style_with r ws i j =
    record {
      kind = (style_at ws i [] j).kind;
      content = (style_at ws i [] j).content;
      rtl = (style_at ws i [] j).rtl;
      position = (style_at ws i [] j).position;
      overflow = (style_at ws i [] j).overflow;
      align = (style_at ws i [] j).align;
      safe = (style_at ws i [] j).safe;
      contained = (style_at ws i [] j).contained;
      size = size_with r ws i j 0;
      min = size_with r ws i j 2;
      max = size_with r ws i j 4;
      margin = rect_with r ws i j 6;
      padding = rect_with r ws i j 10;
      border = rect_with r ws i j 14;
      inset = rect_with r ws i j 18;
      ratio = ratio_of (r.number j 22);
      scrollbar = r.number j 23;
      measure = measure_with r ws i j;
    }

-- ---- the page of the tables, and with its old rows
unfoldable pub site_with : Reader → List ℕ → List ℕ → ℕ → Entry Site
site_with r ws es k = record { size = word_at ws k 0; label = record { node = 0 + k; style = style_with r ws k (0 + k); edit = named es (0 + k) } }

unfoldable pub cell_with : Reader → List ℕ → List Float → List ℕ → List ℕ → ℕ → Entry Cell
cell_with r ws rs ms es i = record { size = (site_with r ws es i).size; label = record { site = (site_with r ws es i).label; old = row_at rs ms i } }

unfoldable pub page_with : Reader → List ℕ → List ℕ → Tree Site
page_with r ws es = parse_t (site_with r ws es) (nodes_in ws)

unfoldable pub cells_with : Reader → List ℕ → List Float → List ℕ → List ℕ → Tree Cell
cells_with r ws rs ms es = parse_t (cell_with r ws rs ms es) (nodes_in ws)

-- ---- the tests that look at numbers: 1, 3, 4 and 5
unfoldable pub bad_tables_with : Reader → List ℕ → Bool
bad_tables_with r ws = eqb (nodes_in ws) 0 || (ltb 1024 (nodes_in ws) || (not (eqb (length ws) (4 * nodes_in ws)) || not (eqb r.lent (28 * nodes_in ws))))

unfoldable pub bad_style_with : Reader → List ℕ → ℕ → Bool
bad_style_with r ws i = (not (eq (r.number i 22) zero_f) && (fraction_at ws i 1 || (fraction_at ws i 3 || fraction_at ws i 5))) || bad_codes ws i

unfoldable pub bad_numbers_with : Reader → List ℕ → ℕ → Bool
bad_numbers_with r ws i =
    some (λ f. bad_field f (unit_of (word_at ws i 2) (word_at ws i 3) f) (r.number i f)) 22
    || (bad_ratio (r.number i 22)
    || (bad_pixels (r.number i 23)
    || (bad_pixels (r.number i 24)
    || (bad_pixels (r.number i 25) || (bad_pixels (r.number i 26) || (lt (r.number i 25) (r.number i 24) || not (in_range (r.number i 27) zero_f (r.number i 26))))))))

unfoldable pub no4_with : Reader → List ℕ → LayoutInput → Result ⊤ Refusal
no4_with r ws q = and_then (at_fault Numbers (lowest (bad_numbers_with r ws) (nodes_in ws))) (refuse_if (bad_question q) (Numbers (nodes_in ws)))

unfoldable pub no5_with : Reader → List ℕ → List ℕ → List Float → Result ⊤ Refusal
no5_with r ws cw cx = refuse_if (ltb (records_in cw cx) (needed (page_with r ws []))) Room

unfoldable pub page_tested_with : Reader → List ℕ → LayoutInput → Result ⊤ Refusal
page_tested_with r ws q = and_then (no2 ws) (and_then (no3_by (bad_style_with r ws) ws) (no4_with r ws q))

unfoldable pub layout_tested_with : Reader → List ℕ → List Float → List ℕ → List ℕ → List Float → LayoutInput → Result ⊤ Refusal
layout_tested_with r ws rs ms cw cx q =
    and_then (refuse_if (bad_tables_with r ws || bad_rows ws rs ms) Lengths) (and_then (page_tested_with r ws q) (no5_with r ws cw cx))

unfoldable pub relayout_tested_with : Reader → List ℕ → List Float → List ℕ → List ℕ → List Float → List ℕ → LayoutInput → Result ⊤ Refusal
relayout_tested_with r ws rs ms cw cx es q = and_then (layout_tested_with r ws rs ms cw cx q) (and_then (no6 es (nodes_in ws)) (no7 ms))

unfoldable pub size_tested_with : Reader → List ℕ → LayoutInput → Result ⊤ Refusal
size_tested_with r ws q = and_then (refuse_if (bad_tables_with r ws) Lengths) (page_tested_with r ws q)

-- ---- the whole result of each call
unfoldable pub layout_with : Reader → List ℕ → List Float → List ℕ → List ℕ → List Float → LayoutInput → Reply
layout_with r ws rs ms cw cx q =
    tested (layout_tested_with r ws rs ms cw cx q) (replied (nodes_in ws) (fresh (page_with r ws []) q).rows rs ms cw cx) rs ms cw cx

unfoldable pub relayout_with : Reader → List ℕ → List Float → List ℕ → List ℕ → List Float → List ℕ → LayoutInput → Reply
relayout_with r ws rs ms cw cx es q =
    tested (relayout_tested_with r ws rs ms cw cx es q) (replied (nodes_in ws) (relaid (cells_with r ws rs ms es) q).rows rs ms cw cx) rs ms cw cx

unfoldable pub size_result_with : Reader → List ℕ → LayoutInput → RequestedAxis → Result (Size Float) Refusal
size_result_with r ws q a = size_by_test (size_tested_with r ws q) (size_reply (size_of (page_with r ws []) q a))
