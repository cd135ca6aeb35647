-- What `width_pass` does with a page, in plain terms.
use Rattle.std.specs.Prelude.{Option, None, Some}
use Rattle.geometry.specs.declared.Size.{Size}
use mathlib.Core.Path.{◌≡◌, sym, ap, ◌∙◌}
use mathlib.Core.List.{List, ◌++◌}
use Prim.Native.Nat.{ℕ, ◌+◌, ◌-◌, ◌≤◌}
use native.Mathlib.Omega.{arith}
use lib.ListN.{length, take, drop}
use lib.Ieee.{Float}
use borrow.Rule.Slice.PartMut.{put_mid}
use Rattle.geometry.specs.Geometry.{zero_f}
use Rattle.length.specs.declared.AvailableSpace.{AvailableSpace}
use Rattle.style.specs.Style.{style_at}
use Rattle.style.specs.declared.Style.{Style}
use Rattle.style.specs.Style.{plane_of}
use Rattle.tree.specs.Tree.{Tree, Forest, node, count_t, depth_t, flat_t, flat_f, map_t, map_f}
use Rattle.tree.proofs.Laws.{count_t_node, flat_t_node, map_t_node, depth_t_node}
use Rattle.tree.proofs.Lists.{tail-part, tail-put}
use Rattle.steps.specs.Sizing.{step_a, known_of}
use Rattle.steps.specs.Row.{row_numbers, row_words}
use Rattle.steps.specs.Page.{Cell, cleared}
use Rattle.steps.specs.Probe.{Widest, Passed, space_in, found_width, probe_f, width_pass}
use Rattle.steps.specs.declared.Sizing.{Sizing}
use Rattle.steps.specs.declared.LayoutInput.{LayoutInput}
use Rattle.rows.specs.Store.{Becomes, AllBecome, cleared_row}
use Rattle.walks.specs.Tables.{old_numbers, old_words, TabledT, TabledF}
use Rattle.walks.proofs.Parts.{tree_facts}
use Rattle.probing.specs.Passed.{passed_row, passed_numbers, passed_words}
use Rattle.probing.specs.Contract.{IsTree, IsForest, WidestF, PassedT}
use Rattle.probing.proofs.PassedRows.{passed_cleared, all_cleared}
use Rattle.probing.proofs.Clauses.{pass_known, pass_below, inside}
use Rattle.probing.proofs.OneTree.{root_style}

-- the root's row is cleared, the rest as it came
record Headed (l : Cell) (ks : Forest Cell) (rs : List Float) (ms : List ℕ) : Type 0 where
  rows_are : rs ≡ row_numbers (cleared_row l.old) ++ flat_f old_numbers ks
  marks_are : ms ≡ row_words (cleared_row l.old) ++ flat_f old_words ks

headed : (ws : List ℕ) (xs rs : List Float) (ms es : List ℕ) (l : Cell) (ks : Forest Cell) (rs1 : List Float) (ms1 : List ℕ) → TabledT ws xs rs ms es 0 (node l ks) → Becomes rs ms rs1 ms1 cleared_row → Headed l ks rs1 ms1
headed ws xs rs ms es l ks rs1 ms1 h cl =
    let k = tree_facts ws xs rs ms es 0 l ks h in
    let p = cl l.old (flat_f old_numbers ks) (flat_f old_words ks) k.rows_head k.marks_head in
    record { rows_are = p.0; marks_are = p.1 }

kids_tabled : (ws : List ℕ) (xs rs : List Float) (ms es : List ℕ) (l : Cell) (ks : Forest Cell) (rs1 : List Float) (ms1 : List ℕ) → TabledT ws xs rs ms es 0 (node l ks) → Headed l ks rs1 ms1
    → TabledF (take (length ws - 4) (drop 4 ws)) xs (take (length rs1 - 16) (drop 16 rs1)) (take (length ms1 - 2) (drop 2 ms1)) es 1 ks
kids_tabled ws xs rs ms es l ks rs1 ms1 h g =
    let k = (tree_facts ws xs rs ms es 0 l ks h).kids in
    record { words_long = k.words_long; sites_are = k.sites_are; rows_are = tail-part 16 rs1 ∙ ap (drop 16) g.rows_are; marks_are = tail-part 2 ms1 ∙ ap (drop 2) g.marks_are }

pub kids_given : (ws : List ℕ) (xs rs : List Float) (ms es : List ℕ) (rs1 : List Float) (ms1 : List ℕ) → IsTree ws xs rs ms es 0 32 → Becomes rs ms rs1 ms1 cleared_row
    → IsForest (take (length ws - 4) (drop 4 ws)) xs (take (length rs1 - 16) (drop 16 rs1)) (take (length ms1 - 2) (drop 2 ms1)) es 1 31
kids_given ws xs rs ms es rs1 ms1 h cl = go h.tree h.tabled h.deep h.fit h.reach
  where
    go : (t : Tree Cell) → TabledT ws xs rs ms es 0 t → depth_t t ≤ 32 → 0 + count_t t ≤ 1024 → 0 + count_t t ≤ plane_of xs
        → IsForest (take (length ws - 4) (drop 4 ws)) xs (take (length rs1 - 16) (drop 16 rs1)) (take (length ms1 - 2) (drop 2 ms1)) es 1 31
    go (node l ks) k dp fit reach =
        let z = simp depth_t_node at dp in
        let y = simp count_t_node at fit in
        let x = simp count_t_node at reach in
        record { forest = ks; tabled = kids_tabled ws xs rs ms es l ks rs1 ms1 k (headed ws xs rs ms es l ks rs1 ms1 k cl); deep = omega arith; fit = omega arith; reach = omega arith }

module _ (ws : List ℕ) (xs rs : List Float) (ms es : List ℕ) (q : LayoutInput) (s : Style) (z : Sizing) (known : Size (Option Float)) (hs : s ≡ style_at ws 0 xs 0) (hz : z ≡ step_a s q.parent) (hk : known ≡ known_of s z q.known) where
  known_is : (l : Cell) → s ≡ l.site.style → (known_of l.site.style (step_a l.site.style q.parent) q.known).width ≡ known.width
  known_is l st = ap (λ (v : Style). (known_of v (step_a v q.parent) q.known).width) (sym st) ∙ ap (λ (v : Sizing). (known_of s v q.known).width) (sym hz) ∙ ap (λ (v : Size (Option Float)). v.width) (sym hk)

  -- a known width: no probe stays
  pub passed-known : (w : Float) (rs' : List Float) (ms' : List ℕ) → known.width ≡ Some w → AllBecome rs ms rs' ms' cleared_row → PassedT ws xs rs ms es q zero_f rs' ms'
  passed-known w rs' ms' kw cl (node l ks) h =
      let st = root_style ws xs rs ms es 0 s l ks h hs in
      let p : width_pass (node l ks) q ≡ record { found = zero_f; nodes = node (cleared l) (map_f cleared ks) } = pass_known l ks q w (known_is l st ∙ kw) in
      let c = all_cleared rs ms rs' ms' (node l ks) h.rows_are h.marks_are cl in
      let n : (width_pass (node l ks) q).nodes ≡ map_t cleared (node l ks) = ap (λ (v : Passed). v.nodes) p ∙ sym (map_t_node cleared l ks) in
      (sym (ap (λ (v : Passed). v.found) p), (c.0 ∙ sym (ap (flat_t passed_numbers) n), c.1 ∙ sym (ap (flat_t passed_words) n)))

  -- step F on the children
  pub passed-below : (a : AvailableSpace) (most r : Float) (rs1 : List Float) (ms1 : List ℕ) (nr : List Float) (nm : List ℕ) → known.width ≡ None → Becomes rs ms rs1 ms1 cleared_row → a ≡ space_in s q.parent q.available
      → WidestF (take (length ws - 4) (drop 4 ws)) xs (take (length rs1 - 16) (drop 16 rs1)) (take (length ms1 - 2) (drop 2 ms1)) es 1 a most nr nm → r ≡ found_width s q.parent most
      → PassedT ws xs rs ms es q r (put_mid 16 (length rs1 - 16) rs1 nr) (put_mid 2 (length ms1 - 2) ms1 nm)
  passed-below a most r rs1 ms1 nr nm kw cl ha hw hr (node l ks) h =
      let st = root_style ws xs rs ms es 0 s l ks h hs in
      let d = headed ws xs rs ms es l ks rs1 ms1 h cl in
      let p : width_pass (node l ks) q ≡ record { found = found_width l.site.style q.parent (inside l q ks).most; nodes = node (cleared l) (inside l q ks).nodes } = pass_below l ks q (known_is l st ∙ kw) in
      let ea : probe_f ks a zero_f ≡ inside l q ks = ap (λ (v : AvailableSpace). probe_f ks v zero_f) (ha ∙ ap (λ (v : Style). space_in v q.parent q.available) st) in
      let g = hw ks (kids_tabled ws xs rs ms es l ks rs1 ms1 h d) in
      let us = (inside l q ks).nodes in
      let t16 : take 16 rs1 ≡ row_numbers (passed_row (cleared l)) = ap (take 16) d.rows_are ∙ ap row_numbers (sym (passed_cleared l)) in
      let t2 : take 2 ms1 ≡ row_words (passed_row (cleared l)) = ap (take 2) d.marks_are ∙ ap row_words (sym (passed_cleared l)) in
      let e1 : put_mid 16 (length rs1 - 16) rs1 nr ≡ row_numbers (passed_row (cleared l)) ++ flat_f passed_numbers us =
      tail-put 16 rs1 nr ∙ ap (λ (v : List Float). v ++ nr) t16 ∙ ap (λ (v : List Float). row_numbers (passed_row (cleared l)) ++ v) (g.1.0 ∙ ap (λ (v : Widest). flat_f passed_numbers v.nodes) ea) in
      let e2 : put_mid 2 (length ms1 - 2) ms1 nm ≡ row_words (passed_row (cleared l)) ++ flat_f passed_words us =
      tail-put 2 ms1 nm ∙ ap (λ (v : List ℕ). v ++ nm) t2 ∙ ap (λ (v : List ℕ). row_words (passed_row (cleared l)) ++ v) (g.1.1 ∙ ap (λ (v : Widest). flat_f passed_words v.nodes) ea) in
      let em : r ≡ found_width l.site.style q.parent (inside l q ks).most =
      hr ∙ ap (λ (v : Style). found_width v q.parent most) st ∙ ap (found_width l.site.style q.parent) (g.0 ∙ ap (λ (v : Widest). v.most) ea) in (
        em ∙ sym (ap (λ (v : Passed). v.found) p),
        (
          e1 ∙ sym (ap (λ (v : Passed). flat_t passed_numbers v.nodes) p ∙ flat_t_node passed_numbers (cleared l) us),
          e2 ∙ sym (ap (λ (v : Passed). flat_t passed_words v.nodes) p ∙ flat_t_node passed_words (cleared l) us),
        ),
      )
