-- Accepted calls reply what the definition says.
use Rattle.std.specs.Prelude.{Result, Ok, Err, ⊤}
use Rattle.steps.specs.declared.Refusal.{Refusal}
use mathlib.Core.Path.{◌≡◌, refl, sym, ap, ◌∙◌}
use mathlib.Core.List.{List, []}
use Prim.Native.Nat.{ℕ, ◌*◌}
use native.Mathlib.Omega.{arith}
use lib.ListN.{length, replicate, length-replicate}
use lib.Ieee.{Float}
use Rattle.geometry.specs.Geometry.{zero_f}
use Rattle.tree.specs.Tree.{Tree, count_t, flat_t, map_t}
use Rattle.tree.specs.Table.{entry_of, from}
use Rattle.tree.proofs.Laws.{count_map_t, flat_map_t, map_map_t, depth_map_t}
use Rattle.steps.specs.Page.{Site, Cell, named, site_at, nodes_in, page_of, cells_of, blank}
use Rattle.steps.specs.Layout.{relaid, fresh}
use Rattle.steps.specs.Candidates.{needed}
use Rattle.steps.specs.Noes.{layout_tested, relayout_tested}
use Rattle.steps.specs.Results.{Reply, replied, tested, layout_result, relayout_result}
use Rattle.steps.specs.declared.LayoutInput.{LayoutInput}
use Rattle.walks.specs.Tables.{site_entry, TabledT}
use Rattle.tables.proofs.GoodPage.{good_page, good-cells, parse-relabel, page_of_cells}
use Rattle.layout.specs.Public.{Replied, plain_site, RoomOf, IsCells, Relays}
use Rattle.layout.proofs.BothPasses.{replied_lengths}
use Rattle.layout.proofs.Accepted.{Passes, passes, again_passes, unmarked, same-need, room_for}
use Rattle.layout.proofs.OldRows.{rows-lent, marks-lent, rows_blank, marks_blank}

-- ---- layout
blank_sites : (t : Tree Site) → flat_t site_entry (map_t blank t) ≡ flat_t entry_of t
unfolding blank
blank_sites t = flat_map_t site_entry blank t

blank_plain : (t : Tree Site) → map_t plain_site (map_t blank t) ≡ map_t unmarked t
unfolding blank
blank_plain t = map_map_t plain_site blank t

module _ (ws : List ℕ) (xs rs : List Float) (ms cw : List ℕ) (cx : List Float) (p : Passes ws xs rs ms cw cx) where
  abbrev page : Tree Site
  page = page_of ws xs []

  blank-count : count_t (map_t blank page) ≡ nodes_in ws
  blank-count = count_map_t blank page ∙ (good_page ws p.good xs []).count

  blank-tabled : TabledT ws xs (replicate (length rs) zero_f) (replicate (length ms) 0) [] 0 (map_t blank page)
  blank-tabled =
      let n = (good_page ws p.good xs []).count in
      record {
        words_long = p.words_long ∙ ap (λ (k : ℕ). 4 * k) (sym blank-count);
        sites_are = ap (from (site_at ws xs [] 0) 0) blank-count ∙ (good_page ws p.good xs []).entries ∙ sym (blank_sites page);
        rows_are = ap (λ (k : ℕ). replicate k zero_f) (p.rows_long ∙ ap (λ (k : ℕ). 16 * k) (sym n)) ∙ sym (rows_blank page);
        marks_are = ap (λ (k : ℕ). replicate k 0) (p.marks_long ∙ ap (λ (k : ℕ). 2 * k) (sym n)) ∙ sym (marks_blank page);
      }

  blank-room : RoomOf (map_t blank page) cw cx
  blank-room = room_for (map_t blank page) (needed page) cw cx (ap needed (blank_plain page) ∙ same-need unmarked (λ _. refl) page) p.room

  pub blank-cells : IsCells ws xs (replicate (length rs) zero_f) (replicate (length ms) 0) [] cw cx
  blank-cells =
      let f = p.good.few in
      let n = blank-count in
      record { tree = map_t blank page; tabled = blank-tabled; deep = rw (depth_map_t blank page) (good_page ws p.good xs []).shallow; fit = omega (arith, f, n); reach = omega (arith, p.numbers_long, n); room = blank-room }

  pub blank-reply : (q : LayoutInput) (a : Result ℕ Refusal) (rs2 : List Float) (ms2 : List ℕ) (cw2 : List ℕ) (cx2 : List Float)
      → Relays ws xs (replicate (length rs) zero_f) (replicate (length ms) 0) [] cw cx q a rs2 ms2 cw2 cx2 → Replied (replied (nodes_in ws) (fresh page q).rows rs ms cw cx) a rs2 ms2 cw2 cx2
  unfolding fresh
  blank-reply q a rs2 ms2 cw2 cx2 h =
      let z = h (map_t blank page) blank-tabled blank-room in
      let e = replied_lengths (nodes_in ws) (relaid (map_t blank page) q).rows rs (replicate (length rs) zero_f) ms (replicate (length ms) 0) cw cx (sym (length-replicate (length rs) zero_f)) (sym (length-replicate (length ms) 0)) in
      rw e (rw blank-count at z)

-- ---- relayout
mark_off : (ws : List ℕ) (xs : List Float) (es : List ℕ) → page_of ws xs [] ≡ map_t unmarked (page_of ws xs es)
unfolding page_of site_at named
mark_off ws xs es = parse-relabel unmarked (site_at ws xs es 0) (site_at ws xs [] 0) (λ i. refl) (nodes_in ws)

plain_cells : (ws : List ℕ) (xs rs : List Float) (ms es : List ℕ) → map_t plain_site (cells_of ws xs rs ms es) ≡ page_of ws xs []
plain_cells ws xs rs ms es =
    sym (map_map_t unmarked (λ (c : Cell). c.site) (cells_of ws xs rs ms es)) ∙ ap (map_t unmarked) (sym (page_of_cells ws xs rs ms es)) ∙ sym (mark_off ws xs es)

module _ (ws : List ℕ) (xs rs : List Float) (ms cw : List ℕ) (cx : List Float) (es : List ℕ) (p : Passes ws xs rs ms cw cx) where
  abbrev cells : Tree Cell
  cells = cells_of ws xs rs ms es

  cells_count : count_t cells ≡ nodes_in ws
  cells_count = (good-cells ws p.good xs rs ms es).count

  cells-tabled : TabledT ws xs rs ms es 0 cells
  cells-tabled =
      let g = good-cells ws p.good xs rs ms es in
      let s = (good_page ws p.good xs es).entries in
      record {
        words_long = p.words_long ∙ ap (λ (k : ℕ). 4 * k) (sym cells_count);
        sites_are = ap (from (site_at ws xs es 0) 0) cells_count ∙ s ∙ ap (flat_t entry_of) (page_of_cells ws xs rs ms es) ∙ flat_map_t entry_of (λ (c : Cell). c.site) cells;
        rows_are = rows-lent ws xs rs ms es (nodes_in ws) cells g.entries p.rows_long;
        marks_are = marks-lent ws xs rs ms es (nodes_in ws) cells g.entries p.marks_long;
      }

  cells-room : RoomOf cells cw cx
  cells-room = room_for cells (needed (page_of ws xs [])) cw cx (ap needed (plain_cells ws xs rs ms es)) p.room

  pub old-cells : IsCells ws xs rs ms es cw cx
  old-cells =
      let f = p.good.few in
      let n = cells_count in
      record { tree = cells; tabled = cells-tabled; deep = (good-cells ws p.good xs rs ms es).shallow; fit = omega (arith, f, n); reach = omega (arith, p.numbers_long, n); room = cells-room }

  pub old-reply : (q : LayoutInput) (a : Result ℕ Refusal) (rs2 : List Float) (ms2 : List ℕ) (cw2 : List ℕ) (cx2 : List Float) → Relays ws xs rs ms es cw cx q a rs2 ms2 cw2 cx2
      → Replied (replied (nodes_in ws) (relaid cells q).rows rs ms cw cx) a rs2 ms2 cw2 cx2
  old-reply q a rs2 ms2 cw2 cx2 h = let z = h cells cells-tabled cells-room in rw cells_count at z

-- ---- by the tests
refused : (t : Result ⊤ Refusal) (b : Refusal) (r : Reply) (rs : List Float) (ms cw : List ℕ) (cx : List Float) → t ≡ Err b → Replied (tested t r rs ms cw cx) (Err b) rs ms cw cx
unfolding tested
refused t b r rs ms cw cx e = rw e (record { answer_is = refl; paper_is = refl; rows_are = refl; marks_are = refl; words_are = refl; numbers_are = refl })

passed : (t : Result ⊤ Refusal) (r : Reply) (rs : List Float) (ms cw : List ℕ) (cx : List Float) → t ≡ Ok tt → tested t r rs ms cw cx ≡ r
unfolding tested
passed t r rs ms cw cx e = rw e

pub layout_refused : (ws : List ℕ) (xs rs : List Float) (ms cw : List ℕ) (cx : List Float) (q : LayoutInput) (t : Result ⊤ Refusal) (b : Refusal) → t ≡ layout_tested ws xs rs ms cw cx q → t ≡ Err b → Replied (layout_result ws xs rs ms cw cx q) (Err b) rs ms cw cx
unfolding layout_result
layout_refused ws xs rs ms cw cx q t b e k = refused _ b _ rs ms cw cx (sym e ∙ k)

pub layout_done : (ws : List ℕ) (xs rs : List Float) (ms cw : List ℕ) (cx : List Float) (q : LayoutInput) (t : Result ⊤ Refusal) (rs1 : List Float) (ms1 es1 : List ℕ) (a : Result ℕ Refusal) (rs2 : List Float) (ms2 : List ℕ) (cw2 : List ℕ) (cx2 : List Float)
    → t ≡ layout_tested ws xs rs ms cw cx q → t ≡ Ok tt → rs1 ≡ replicate (length rs) zero_f → ms1 ≡ replicate (length ms) 0 → es1 ≡ [] → Relays ws xs rs1 ms1 es1 cw cx q a rs2 ms2 cw2 cx2
    → Replied (layout_result ws xs rs ms cw cx q) a rs2 ms2 cw2 cx2
unfolding layout_result
layout_done ws xs rs ms cw cx q t rs1 ms1 es1 a rs2 ms2 cw2 cx2 e k er em ee h =
    let y = sym e ∙ k in
    rw (passed _ (replied (nodes_in ws) (fresh (page_of ws xs []) q).rows rs ms cw cx) rs ms cw cx y) (blank-reply ws xs rs ms cw cx (passes ws xs rs ms cw cx q y) q a rs2 ms2 cw2 cx2 (rw (er, em, ee) at h))

pub layout_cells : (ws : List ℕ) (xs rs : List Float) (ms cw : List ℕ) (cx : List Float) (q : LayoutInput) (t : Result ⊤ Refusal) (rs1 : List Float) (ms1 es1 : List ℕ) → t ≡ layout_tested ws xs rs ms cw cx q → t ≡ Ok tt → rs1 ≡ replicate (length rs) zero_f
    → ms1 ≡ replicate (length ms) 0 → es1 ≡ [] → IsCells ws xs rs1 ms1 es1 cw cx
layout_cells ws xs rs ms cw cx q t rs1 ms1 es1 e k er em ee = rw (er, em, ee) (blank-cells ws xs rs ms cw cx (passes ws xs rs ms cw cx q (sym e ∙ k)))

pub relayout_refused : (ws : List ℕ) (xs rs : List Float) (ms cw : List ℕ) (cx : List Float) (es : List ℕ) (q : LayoutInput) (t : Result ⊤ Refusal) (b : Refusal) → t ≡ relayout_tested ws xs rs ms cw cx es q → t ≡ Err b
    → Replied (relayout_result ws xs rs ms cw cx es q) (Err b) rs ms cw cx
unfolding relayout_result
relayout_refused ws xs rs ms cw cx es q t b e k = refused _ b _ rs ms cw cx (sym e ∙ k)

pub relayout_done : (ws : List ℕ) (xs rs : List Float) (ms cw : List ℕ) (cx : List Float) (es : List ℕ) (q : LayoutInput) (t : Result ⊤ Refusal) (a : Result ℕ Refusal) (rs2 : List Float) (ms2 : List ℕ) (cw2 : List ℕ) (cx2 : List Float) → t ≡ relayout_tested ws xs rs ms cw cx es q
    → t ≡ Ok tt → Relays ws xs rs ms es cw cx q a rs2 ms2 cw2 cx2 → Replied (relayout_result ws xs rs ms cw cx es q) a rs2 ms2 cw2 cx2
unfolding relayout_result
relayout_done ws xs rs ms cw cx es q t a rs2 ms2 cw2 cx2 e k h =
    let y = sym e ∙ k in
    rw (passed _ (replied (nodes_in ws) (relaid (cells_of ws xs rs ms es) q).rows rs ms cw cx) rs ms cw cx y) (old-reply ws xs rs ms cw cx es (again_passes ws xs rs ms cw cx es q y) q a rs2 ms2 cw2 cx2 h)

pub relayout_cells : (ws : List ℕ) (xs rs : List Float) (ms cw : List ℕ) (cx : List Float) (es : List ℕ) (q : LayoutInput) (t : Result ⊤ Refusal) → t ≡ relayout_tested ws xs rs ms cw cx es q → t ≡ Ok tt → IsCells ws xs rs ms es cw cx
relayout_cells ws xs rs ms cw cx es q t e k = old-cells ws xs rs ms cw cx es (again_passes ws xs rs ms cw cx es q (sym e ∙ k))
