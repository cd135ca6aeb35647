-- The two passes one after the other are a relayout.
use Rattle.steps.specs.declared.Refusal.{Refusal}
use Rattle.std.specs.Prelude.{Option, None, Some, Result}
use Rattle.tree.specs.declared.NodeId.{NodeId}
use mathlib.Core.Path.{◌≡◌, refl, sym, ap, ◌∙◌}
use mathlib.Core.List.{List}
use Prim.Native.Nat.{ℕ, ◌*◌}
use native.Mathlib.Omega.{arith}
use lib.ListN.{length}
use lib.Ieee.{Float}
use Rattle.style.specs.Style.{word_at}
use Rattle.tree.specs.Tree.{Tree, count_t, map_t}
use Rattle.tree.specs.Table.{from}
use Rattle.tree.proofs.Laws.{length-flatT}
use Rattle.steps.specs.Row.{Row}
use Rattle.steps.specs.Page.{Cell, staying}
use Rattle.steps.specs.Probe.{width_pass}
use Rattle.steps.specs.Kept.{Laid}
use Rattle.steps.specs.Layout.{lay_t, relaid}
use Rattle.steps.specs.Candidates.{candidates}
use Rattle.steps.specs.Noes.{bad_row}
use Rattle.steps.specs.Scan.{lowest}
use Rattle.steps.specs.Results.{rows_out, replied, over_limit}
use Rattle.steps.specs.declared.LayoutInput.{LayoutInput}
use Rattle.steps.specs.declared.LayoutOutput.{LayoutOutput}
use Rattle.walks.specs.Tables.{old_numbers, old_words, new_numbers, new_words, TabledT}
use Rattle.walks.proofs.Sizes.{sizes-ofT}
use Rattle.compute.proofs.Shape.{sizes_t, same_count_t, sizes_map, sizes_lay_t}
use Rattle.compute.specs.Contract as compute
use Rattle.probing.specs.Contract as probing
use Rattle.probing.proofs.Between.{left_by, relaid_left, left_count, left_depth, left_tabled}
use Rattle.candidates.specs.Gathered.{RowsOfT, RoomFor}
use Rattle.layout.specs.Public.{IsPage, Finishes, RoomOf, IsCells, Relays}
use Rattle.layout.proofs.Count.{few_candidates}

-- a relayout keeps the shape
relaid_sizes : (t : Tree Cell) (q : LayoutInput) → sizes_t (relaid t q).rows ≡ sizes_t (left_by t q)
relaid_sizes t q =
    ap (λ (l : Laid). sizes_t l.rows) (relaid_left t q) ∙ sizes_lay_t (map_t staying (left_by t q)) q (width_pass t q).found ∙ sizes_map staying (left_by t q)

relaid_count : (t : Tree Cell) (q : LayoutInput) → count_t (relaid t q).rows ≡ count_t t
relaid_count t q = same_count_t (relaid t q).rows (left_by t q) (relaid_sizes t q) ∙ left_count t q

-- of the rows before, an answer has the lengths alone
pub replied_lengths : (n : ℕ) (t : Tree Row) (rs rs2 : List Float) (ms ms2 : List ℕ) (pairs : List ℕ) (triples : List Float) → length rs ≡ length rs2 → length ms ≡ length ms2 → replied n t rs ms pairs triples ≡ replied n t rs2 ms2 pairs triples
unfolding replied over_limit
replied_lengths n t rs rs2 ms ms2 pairs triples a b = go (lowest (bad_row (rows_out t)) n)
  where
    go : (f : Option NodeId) → over_limit f t rs ms pairs triples ≡ over_limit f t rs2 ms2 pairs triples
    go None = refl
    go (Some i) = rw (a, b)

module _ (ws : List ℕ) (xs rs : List Float) (ms es : List ℕ) (q : LayoutInput) (found : Float) (rs1 : List Float) (ms1 : List ℕ) (passed : probing.PassedT ws xs rs ms es q found rs1 ms1) where
  pub left-table : (t : Tree Cell) → TabledT ws xs rs ms es 0 t → TabledT ws xs rs1 ms1 es 0 (left_by t q)
  left-table t h = left_tabled ws xs rs ms es rs1 ms1 t q h (passed t h).1

  module _ (o : LayoutOutput) (rs2 : List Float) (ms2 : List ℕ) (laid : compute.LaidT ws xs rs1 ms1 es 0 q found o rs2 ms2) where
    relaid-rows : (t : Tree Cell) → TabledT ws xs rs ms es 0 t → compute.AreT rs2 ms2 (relaid t q).rows
    relaid-rows t h =
        let e : relaid t q ≡ lay_t (map_t staying (left_by t q)) q found = relaid_left t q ∙ ap (lay_t (map_t staying (left_by t q)) q) (sym (passed t h).0) in
        rw e (laid (left_by t q) (left-table t h)).1

    rows_of : (t : Tree Cell) → TabledT ws xs rs ms es 0 t → RowsOfT ws rs2 ms2 (relaid t q).rows
    rows_of t h =
        let n = relaid_count t q in
        let c : count_t (relaid t q).rows ≡ count_t (left_by t q) = same_count_t (relaid t q).rows (left_by t q) (relaid_sizes t q) in
        record {
          words_long = h.words_long ∙ ap (λ (k : ℕ). 4 * k) (sym n);
          sizes_are = ap (from (λ k. word_at ws k 0) 0) c ∙ sizes-ofT ws xs es 0 (left_by t q) (left-table t h).sites_are ∙ sym (relaid_sizes t q);
          rows_are = (relaid-rows t h).0;
          marks_are = (relaid-rows t h).1;
        }

    room_of : (t : Tree Cell) (pairs : List ℕ) (triples : List Float) → RoomOf t pairs triples → RoomFor (candidates (relaid t q).rows) pairs triples
    room_of t pairs triples r =
        let f = few_candidates t q in
        let a = r.pairs_room in
        let b = r.triples_room in
        record { pairs_room = omega (arith, f, a); triples_room = omega (arith, f, b) }

    pub page-after : (pairs : List ℕ) (triples : List Float) → IsCells ws xs rs ms es pairs triples → IsPage ws rs2 ms2 pairs triples
    page-after pairs triples h =
        record {
          tree = (relaid h.tree q).rows;
          rows_of = rows_of h.tree h.tabled;
          few = rw (relaid_count h.tree q) h.fit;
          room = room_of h.tree pairs triples h.room;
        }

    pub relays : (pairs : List ℕ) (triples : List Float) (a : Result ℕ Refusal) (rs3 : List Float) (ms3 : List ℕ) (pairs3 : List ℕ) (triples3 : List Float) → Finishes ws rs2 ms2 pairs triples a rs3 ms3 pairs3 triples3
        → Relays ws xs rs ms es pairs triples q a rs3 ms3 pairs3 triples3
    relays pairs triples a rs3 ms3 pairs3 triples3 f t h r =
        let n = relaid_count t q in
        let z = f (relaid t q).rows (rows_of t h) (room_of t pairs triples r) in
        let y = rw n at z in
        let lr : length rs2 ≡ length rs = ap length (relaid-rows t h).0 ∙ length-flatT new_numbers 16 (λ _ _. refl) (relaid t q).rows ∙ ap (λ (k : ℕ). 16 * k) n ∙ sym (ap length h.rows_are ∙ length-flatT old_numbers 16 (λ _ _. refl) t) in
        let lm : length ms2 ≡ length ms = ap length (relaid-rows t h).1 ∙ length-flatT new_words 2 (λ _ _. refl) (relaid t q).rows ∙ ap (λ (k : ℕ). 2 * k) n ∙ sym (ap length h.marks_are ∙ length-flatT old_words 2 (λ _ _. refl) t) in
        rw (replied_lengths (count_t t) (relaid t q).rows rs rs2 ms ms2 pairs triples (sym lr) (sym lm)) y

-- what the passes ask for
pub tree_before : (ws : List ℕ) (xs rs : List Float) (ms es : List ℕ) (pairs : List ℕ) (triples : List Float) → IsCells ws xs rs ms es pairs triples → probing.IsTree ws xs rs ms es 0 32
tree_before ws xs rs ms es pairs triples h = record { tree = h.tree; tabled = h.tabled; deep = h.deep; fit = let f = h.fit in omega (arith, f); reach = let f = h.reach in omega (arith, f) }

pub tree_between : (ws : List ℕ) (xs rs : List Float) (ms es : List ℕ) (pairs : List ℕ) (triples : List Float) (q : LayoutInput) (found : Float) (rs1 : List Float) (ms1 : List ℕ) → IsCells ws xs rs ms es pairs triples
    → probing.PassedT ws xs rs ms es q found rs1 ms1 → compute.IsTree ws xs rs1 ms1 es 0 32
tree_between ws xs rs ms es pairs triples q found rs1 ms1 h p =
    let f = h.fit in
    let n = left_count h.tree q in
    record { tree = left_by h.tree q; tabled = left-table ws xs rs ms es q found rs1 ms1 p h.tree h.tabled; deep = rw (left_depth h.tree q) h.deep; fit = omega (arith, f, n); reach = omega (arith, h.reach, n) }
