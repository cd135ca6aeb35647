-- What each member of the cycle does with one tree, in plain terms.
use mathlib.Core.Path.{◌≡◌, refl, sym, ap, ◌∙◌}
use mathlib.Core.Bool.{true, false}
use mathlib.Core.List.{List, ◌++◌}
use Prim.Native.Nat.{ℕ, suc, ◌+◌, ◌*◌, ◌-◌}
use native.Mathlib.Omega.{arith}
use lib.ListN.{length, take, drop, replicate}
use lib.Ieee.{Float}
use Rattle.geometry.specs.Geometry.{zero_f}
use Rattle.style.specs.Codes.{code_at, kind_of}
use Rattle.style.specs.Style.{word_at, measure_at, style_at}
use Rattle.style.specs.declared.Style.{Style}
use Rattle.tree.specs.Tree.{Tree, Forest, node, count_t, count_f, flat_t, flat_f, map_t, map_f, root_t}
use Rattle.tree.specs.Table.{from}
use Rattle.tree.proofs.Laws.{count_t_node, flat_t_node, map_t_node}
use Rattle.tree.proofs.Lists.{tail-part}
use Rattle.style.specs.Flow.{is_leaf}
use Rattle.steps.specs.Edges.{frame_of}
use Rattle.steps.specs.Stack.{start_of}
use Rattle.steps.specs.Through.{finished, leaf_output}
use Rattle.steps.specs.Row.{Row, row_numbers, row_words, laid_row, probe_of}
use Rattle.steps.specs.Page.{Cell, Node, staying}
use Rattle.steps.specs.Kept.{zeros_f}
use Rattle.steps.specs.Layout.{Stacked, leaf_laid, block_laid, align_f, lay_t, lay_f}
use Rattle.steps.specs.declared.LayoutInput.{LayoutInput}
use Rattle.steps.specs.declared.LayoutOutput.{LayoutOutput}
use Rattle.steps.specs.declared.Frame.{Frame}
use Rattle.steps.specs.declared.Cursor.{Cursor}
use Rattle.steps.specs.declared.Finished.{Finished}
use Rattle.steps.proofs.Clauses.{lay_t_leaf, lay_t_block}
use Rattle.walks.specs.Tables.{old_numbers, old_words, new_numbers, new_words, TabledT}
use Rattle.walks.proofs.Parts.{tree_facts}
use Rattle.walks.proofs.Given.{Facts, facts}
use Rattle.walks.proofs.Sizes.{sizes-ofF}
use Rattle.walks.proofs.Zeros.{zero_rows, zero_marks}
use Rattle.heights.specs.declared.StackOutput.{StackOutput}
use Rattle.compute.specs.Contract.{IsTree, IsBlock, ShapedAs, AreT, LaidT, LaidF, EndsIn, Ended, LeafPut}
use Rattle.compute.proofs.Shape.{sizes_lay_f, sizes_map_f, same_count_f}

-- the label of a tree that stays
stay_node : (l : Cell) (ks : Forest Cell) → map_t staying (node l ks) ≡ node (staying l) (map_f staying ks)
stay_node l ks = map_t_node staying l ks

stay_style : (l : Cell) → (staying l).site.style ≡ l.site.style
unfolding staying
stay_style l = refl

stay_probe : (l : Cell) → (staying l).probe ≡ probe_of l.old
unfolding staying
stay_probe l = refl

pub root_style : (l : Cell) (ks : Forest Cell) → (root_t (map_t staying (node l ks))).site.style ≡ l.site.style
unfolding root_t staying
root_style l ks = rw (map_t_node staying l ks)

-- a leaf
leaf_out : (l : Node) (q : LayoutInput) (ks : Forest Node) → (leaf_laid l q ks).out ≡ leaf_output l.site.style.measure q
unfolding leaf_laid
leaf_out l q ks = refl

leaf_rows : (l : Node) (q : LayoutInput) (ks : Forest Node) → (leaf_laid l q ks).rows ≡ node (laid_row q (leaf_output l.site.style.measure q) l.probe) (zeros_f ks)
unfolding leaf_laid
leaf_rows l q ks = refl

pub flat_leaf : (r : Row) (ks : Forest Node) (n m : ℕ) → n ≡ 16 * count_f ks → m ≡ 2 * count_f ks → AreT (row_numbers r ++ replicate n zero_f) (row_words r ++ replicate m 0) (node r (zeros_f ks))
flat_leaf r ks n m e e2 = (
  sym (flat_t_node new_numbers r (zeros_f ks) ∙ ap (λ (z : List Float). row_numbers r ++ z) (zero_rows ks ∙ ap (λ (k : ℕ). replicate k zero_f) (sym e))),
  sym (flat_t_node new_words r (zeros_f ks) ∙ ap (λ (z : List ℕ). row_words r ++ z) (zero_marks ks ∙ ap (λ (k : ℕ). replicate k 0) (sym e2))),
)

pub leaf_laid_lem : (ws : List ℕ) (xs rs : List Float) (ms es : List ℕ) (b : ℕ) (q : LayoutInput) (found : Float) (s : Style) (o : LayoutOutput) (rs' : List Float) (ms' : List ℕ)
    → s ≡ style_at ws 0 xs b → is_leaf s.kind ≡ true → o ≡ leaf_output s.measure q → LeafPut rs ms q o rs' ms' → LaidT ws xs rs ms es b q found o rs' ms'
leaf_laid_lem ws xs rs ms es b q found s o rs' ms' hs hl ho hp (node l ks) h =
    let k = tree_facts ws xs rs ms es b l ks h in
    let st : s ≡ (staying l).site.style = hs ∙ k.style_is ∙ sym (stay_style l) in
    let lf : is_leaf (staying l).site.style.kind ≡ true = ap (λ (z : Style). is_leaf z.kind) (sym st) ∙ hl in
    let lay : lay_t (map_t staying (node l ks)) q found ≡ leaf_laid (staying l) q (map_f staying ks) = ap (λ t. lay_t t q found) (stay_node l ks) ∙ lay_t_leaf (staying l) (map_f staying ks) q found lf in
    let oo : o ≡ leaf_output (staying l).site.style.measure q = ho ∙ ap (λ (z : Style). leaf_output z.measure q) st in
    let p = hp l.old (flat_f old_numbers ks) (flat_f old_words ks) k.rows_head k.marks_head in
    let one : count_t (node l ks) ≡ suc (count_f ks) = count_t_node l ks in
    let cm : count_f (map_f staying ks) ≡ count_f ks = same_count_f _ ks (sizes_map_f staying ks) in
    let wl = h.words_long in
    let rl = k.rows_long in
    let ml = k.marks_long in
    let fl = flat_leaf (laid_row q o (probe_of l.old)) (map_f staying ks) (length rs - 16) (length ms - 2) (omega arith) (omega arith) in
    let rw1 : (lay_t (map_t staying (node l ks)) q found).rows ≡ node (laid_row q o (probe_of l.old)) (zeros_f (map_f staying ks)) = ap (λ z. z.rows) lay ∙ leaf_rows (staying l) q (map_f staying ks) ∙ rw (← oo, stay_probe l) refl in
    (oo ∙ sym (ap (λ z. z.out) lay ∙ leaf_out (staying l) q (map_f staying ks)), (p.0 ∙ fl.0 ∙ sym (ap (flat_t new_numbers) rw1), p.1 ∙ fl.1 ∙ sym (ap (flat_t new_words) rw1)))

-- a block: what the stack left, then L to N
block_out : (l : Node) (q : LayoutInput) (f : Frame) (s : Stacked) → (block_laid l q f s).out ≡ (finished l.site.style q f s.last).output
unfolding block_laid
block_out l q f s = refl

block_rows : (l : Node) (q : LayoutInput) (f : Frame) (s : Stacked)
    → (block_laid l q f s).rows ≡ node (laid_row q (finished l.site.style q f s.last).output l.probe) (align_f (finished l.site.style q f s.last).shift s.rows)
unfolding block_laid
block_rows l q f s = refl

module _ (ws : List ℕ) (xs rs : List Float) (ms es : List ℕ) (b : ℕ) (q : LayoutInput) (found : Float) (s : Style) (f : Frame) (stack : StackOutput) (rs1 : List Float) (ms1 : List ℕ)
    (hs : s ≡ style_at ws 0 xs b) (hl : is_leaf s.kind ≡ false) (hf : f ≡ frame_of s q found) (laid : LaidF ws xs rs ms es b f stack rs1 ms1)
  where
    abbrev stacked : Forest Cell → Stacked
    stacked ks = lay_f (map_f staying ks) f (start_of f)

    -- the stack leaves the shape
    shaped : (l : Cell) (ks : Forest Cell) → TabledT ws xs rs ms es b (node l ks) → ShapedAs ws (stacked ks).rows
    shaped l ks h =
        let k = (tree_facts ws xs rs ms es b l ks h).kids in
        let ss = sizes_lay_f (map_f staying ks) f (start_of f) ∙ sizes_map_f staying ks in
        let cc : count_f (stacked ks).rows ≡ count_f ks = same_count_f _ ks ss in
        let one : count_t (node l ks) ≡ suc (count_f ks) = count_t_node l ks in
        record {
          words_long = omega (arith, h.words_long);
          sizes_are = ap (λ (z : List ℕ). from (λ n. word_at z n 0) 0 (count_f (stacked ks).rows)) (sym (tail-part 4 ws)) ∙ ap (from (λ n. word_at (take (length ws - 4) (drop 4 ws)) n 0) 0) cc
              ∙ sizes-ofF (take (length ws - 4) (drop 4 ws)) xs es (b + 1) ks k.sites_are
              ∙ sym ss;
        }

    pub is_block : (depth : ℕ) → IsTree ws xs rs ms es b depth → IsBlock ws xs rs1 ms1 b
    is_block depth h = go h.tree h.tabled (facts ws xs rs ms es b depth h)
      where
        go : (t : Tree Cell) → TabledT ws xs rs ms es b t → Facts ws xs rs ms es b depth → IsBlock ws xs rs1 ms1 b
        go (node l ks) k fa = record { own = l.old; children = (stacked ks).rows; headed = (laid l ks k).1; shaped = shaped l ks k; fit = omega (arith, fa.fit); reach = fa.reach }

    pub block-laid : (out : LayoutOutput) (rs2 : List Float) (ms2 : List ℕ) → Ended ws xs rs1 ms1 b q stack out rs2 ms2 → LaidT ws xs rs ms es b q found out rs2 ms2
    block-laid out rs2 ms2 ended (node l ks) h =
        let k = tree_facts ws xs rs ms es b l ks h in
        let g = laid l ks h in
        let d = finished s q f (stacked ks).last in
        let r : EndsIn q d l.old (stacked ks).rows out rs2 ms2 = rw hs (ended f (stacked ks).last l.old (stacked ks).rows g.0 g.1 (shaped l ks h)) in
        let st : s ≡ (staying l).site.style = hs ∙ k.style_is ∙ sym (stay_style l) in
        let lf : is_leaf (staying l).site.style.kind ≡ false = ap (λ (z : Style). is_leaf z.kind) (sym st) ∙ hl in
        let ff : f ≡ frame_of (staying l).site.style q found = hf ∙ ap (λ (z : Style). frame_of z q found) st in
        let lay : lay_t (map_t staying (node l ks)) q found ≡ block_laid (staying l) q f (stacked ks) =
        ap (λ t. lay_t t q found) (stay_node l ks) ∙ lay_t_block (staying l) (map_f staying ks) q found lf ∙ ap (λ (z : Frame). block_laid (staying l) q z (lay_f (map_f staying ks) z (start_of z))) (sym ff) in
        let dd : d ≡ finished (staying l).site.style q f (stacked ks).last = ap (λ (z : Style). finished z q f (stacked ks).last) st in
        let rr : (lay_t (map_t staying (node l ks)) q found).rows ≡ node (laid_row q d.output (probe_of l.old)) (align_f d.shift (stacked ks).rows) =
        ap (λ z. z.rows) lay ∙ block_rows (staying l) q f (stacked ks) ∙ rw (← dd, stay_probe l) refl in (
          r.0 ∙ ap (λ (z : Finished). z.output) dd ∙ sym (ap (λ z. z.out) lay ∙ block_out (staying l) q f (stacked ks)),
          (r.1.0 ∙ sym (ap (flat_t new_numbers) rr ∙ flat_t_node new_numbers _ _), r.1.1 ∙ sym (ap (flat_t new_words) rr ∙ flat_t_node new_words _ _)),
        )
