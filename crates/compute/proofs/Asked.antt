-- A child kept, laid out, and placed, in plain terms.
use mathlib.Core.Path.{◌≡◌, refl, sym, ap, subst, ◌∙◌}
use mathlib.Core.Bool.{Bool, true, false, not, ◌&&◌}
use mathlib.Core.List.{List, [], ◌∷◌, ◌++◌}
use Prim.Native.Nat.{ℕ, suc, ◌+◌, ◌-◌, ◌/◌}
use native.Mathlib.Omega.{arith}
use lib.ListN.{length, take, drop, replicate, length-drop}
use lib.Seq.{take_at}
use lib.Ieee.{Float}
use borrow.Rule.Slice.PartMut.{put_mid}
use Rattle.geometry.specs.Geometry.{zero_f}
use Rattle.geometry.specs.declared.Line.{Line}
use Rattle.geometry.specs.declared.Point.{Point}
use Rattle.style.specs.Style.{style_at}
use Rattle.style.specs.declared.Style.{Style}
use Rattle.tree.specs.Tree.{Tree, Forest, node, count_t, count_f, flat_t, flat_f, map_t, map_f, root_t, on_root}
use Rattle.tree.proofs.Laws.{count_t_node, flat_t_node, map_t_node, on_root_node}
use Rattle.tree.proofs.Lists.{tail-part, tail-put}
use Rattle.style.specs.Flow.{flow_of}
use Rattle.steps.specs.Stack.{item_of, question_to, place_of, stepped, line_of, edges_of, past_aside, past_hidden}
use Rattle.steps.specs.Row.{Row, row_numbers, row_words, hidden_row, aside_row, laid_row, put_at, noted, probe_of, output_in}
use Rattle.steps.specs.Page.{Cell, staying, any_t}
use Rattle.steps.specs.Kept.{Laid, final_stands, edited_node, kept, keep, kept_row, zeros_t, zeros_f, fix_f}
use Rattle.steps.specs.Layout.{ask_t}
use Rattle.style.specs.declared.Flow.{Flow}
use Rattle.style.specs.declared.Flow.TheVariants.{Gone, Out, In}
use Rattle.steps.specs.declared.LayoutInput.{LayoutInput}
use Rattle.steps.specs.declared.LayoutOutput.{LayoutOutput}
use Rattle.steps.specs.declared.Frame.{Frame}
use Rattle.steps.specs.declared.Cursor.{Cursor}
use Rattle.steps.specs.declared.BlockItem.{BlockItem}
use Rattle.steps.specs.declared.Sizing.{Sizing}
use Rattle.stacking.specs.Footing.{footing_of, item_with, with_footing}
use Rattle.stacking.specs.declared.Footing.{Footing}
use Rattle.steps.proofs.Clauses.{ask_t_kept, ask_t_new}
use Rattle.steps.proofs.Codes.{same_code}
use Rattle.walks.specs.Tables.{old_numbers, old_words, new_numbers, new_words, TabledT, IsBelow, KeptBelow}
use Rattle.walks.proofs.Parts.{tree_facts}
use Rattle.walks.proofs.Given.{facts}
use Rattle.walks.proofs.Edited.{edited_stays}
use Rattle.rows.specs.Store.{Becomes, Reads}
use Rattle.compute.proofs.Placed.{placed_in, placed_by, placed_t}
use Rattle.compute.specs.Contract.{IsTree, AreT, LaidT, AskedT, Hidden, Aside, Settled, Stands, LeafPut}
use Rattle.compute.proofs.Shape.{sizes_map_f, same_count_f}
use Rattle.compute.proofs.OneTree.{flat_leaf, root_style}

kept_of : (l : Cell) (ks : Forest Cell) (q : LayoutInput) → kept (map_t staying (node l ks)) q ≡ (not (any_t edited_node (map_t staying (node l ks))) && final_stands q l.old)
unfolding kept root_t staying map_t
kept_of l ks q = refl

keep_of : (l : Cell) (ks : Forest Cell) → keep (map_t staying (node l ks)) ≡ record { out = output_in l.old; rows = node (kept_row (staying l)) (fix_f (map_f staying ks)) }
unfolding keep staying map_t
keep_of l ks = refl

kept_row_lem : (l : Cell) → (row_numbers (kept_row (staying l)) ≡ row_numbers l.old) × (row_words (kept_row (staying l)) ≡ row_words l.old)
unfolding kept_row staying noted probe_of
kept_row_lem l = (refl, ap (λ (b : ℕ). l.old.order ∷ b ∷ []) (same_code l.old.bits))

module _ (ws : List ℕ) (xs rs : List Float) (ms es : List ℕ) (b : ℕ) (q : LayoutInput) (flag : Bool) (stood : Stands rs ms es b (length ws / 4) q flag) where
  flag_is : (l : Cell) (ks : Forest Cell) → TabledT ws xs rs ms es b (node l ks) → kept (map_t staying (node l ks)) q ≡ flag
  flag_is l ks h =
      let k = tree_facts ws xs rs ms es b l ks h in
      let n : length ws / 4 ≡ count_t (node l ks) = omega (arith, h.words_long) in
      kept_of l ks q ∙ rw (edited_stays ws xs es b (node l ks) h.sites_are, ← n) (sym (stood l.old (flat_f old_numbers ks) (flat_f old_words ks) k.rows_head k.marks_head))

  pub new-asked : (o : LayoutOutput) (rs' : List Float) (ms' : List ℕ) → flag ≡ false → LaidT ws xs rs ms es b q zero_f o rs' ms' → AskedT ws xs rs ms es b q o rs' ms'
  new-asked o rs' ms' e laid (node l ks) h = rw (ask_t_new (map_t staying (node l ks)) q (flag_is l ks h ∙ e)) (laid (node l ks) h)

  pub kept-asked : (o : LayoutOutput) (nr : List Float) (nm : List ℕ) → flag ≡ true → Reads rs ms o output_in
      → KeptBelow (take (length ws - 4) (drop 4 ws)) (take (length rs - 16) (drop 16 rs)) (take (length ms - 2) (drop 2 ms)) nr nm
      → AskedT ws xs rs ms es b q o (put_mid 16 (length rs - 16) rs nr) (put_mid 2 (length ms - 2) ms nm)
  kept-asked o nr nm e ho hb (node l ks) h =
      let k = tree_facts ws xs rs ms es b l ks h in
      let a : ask_t (map_t staying (node l ks)) q ≡ record { out = output_in l.old; rows = node (kept_row (staying l)) (fix_f (map_f staying ks)) } =
      ask_t_kept (map_t staying (node l ks)) q (flag_is l ks h ∙ e) ∙ keep_of l ks in
      let g = hb xs es (b + 1) ks k.kids in
      let t16 : take 16 rs ≡ row_numbers (kept_row (staying l)) = ap (take 16) k.rows_head ∙ sym (kept_row_lem l).0 in
      let t2 : take 2 ms ≡ row_words (kept_row (staying l)) = ap (take 2) k.marks_head ∙ sym (kept_row_lem l).1 in (
        ho l.old (flat_f old_numbers ks) (flat_f old_words ks) k.rows_head k.marks_head ∙ sym (ap (λ (z : Laid). z.out) a),
        (
          tail-put 16 rs nr ∙ ap (λ (z : List Float). z ++ nr) t16 ∙ ap (λ (z : List Float). row_numbers (kept_row (staying l)) ++ z) g.0 ∙ sym (ap (λ (z : Laid). flat_t new_numbers z.rows) a ∙ flat_t_node new_numbers (kept_row (staying l)) (fix_f (map_f staying ks))),
          tail-put 2 ms nm ∙ ap (λ (z : List ℕ). z ++ nm) t2 ∙ ap (λ (z : List ℕ). row_words (kept_row (staying l)) ++ z) g.1 ∙ sym (ap (λ (z : Laid). flat_t new_words z.rows) a ∙ flat_t_node new_words (kept_row (staying l)) (fix_f (map_f staying ks))),
        ),
      )

-- what the walk below a kept node is given
pub keep_given : (ws : List ℕ) (xs rs : List Float) (ms es : List ℕ) (b depth : ℕ) → IsTree ws xs rs ms es b depth → IsBelow (take (length ws - 4) (drop 4 ws)) (take (length rs - 16) (drop 16 rs)) (take (length ms - 2) (drop 2 ms))
keep_given ws xs rs ms es b depth h =
    let f = facts ws xs rs ms es b depth h in
    let k = f.kids in
    let wl = k.tabled.words_long in
    record { numbers = xs; edits = es; base = b + 1; forest = k.forest; tabled = k.tabled; fit = omega (arith, k.fit) }

-- one child is placed
abbrev pub PlacedT : List ℕ → List Float → List Float → List ℕ → List ℕ → ℕ → Frame → Cursor → Cursor → List Float → List ℕ → Type 0
PlacedT ws xs rs ms es b f c end rs' ms' =
    (t : Tree Cell) → TabledT ws xs rs ms es b t → (end ≡ (placed_t f c (map_t staying t)).last) × AreT rs' ms' (placed_t f c (map_t staying t)).rows

module _ (ws : List ℕ) (xs rs : List Float) (ms es : List ℕ) (b : ℕ) (f : Frame) (c : Cursor) (s : Style) (flow : Flow) (hs : s ≡ style_at ws 0 xs b) (hf : flow ≡ flow_of s) where
  style-of : (l : Cell) (ks : Forest Cell) → TabledT ws xs rs ms es b (node l ks) → s ≡ (root_t (map_t staying (node l ks))).site.style
  style-of l ks h = hs ∙ (tree_facts ws xs rs ms es b l ks h).style_is ∙ sym (root_style l ks)

  placed_of : (l : Cell) (ks : Forest Cell) (w : Flow) → TabledT ws xs rs ms es b (node l ks) → flow ≡ w → placed_t f c (map_t staying (node l ks)) ≡ placed_by w f c (map_t staying (node l ks))
  unfolding placed_t
  placed_of l ks w h e = ap (λ (z : Flow). placed_by z f c (map_t staying (node l ks))) (ap flow_of (sym (style-of l ks h)) ∙ sym hf ∙ e)

  zeros-rows : (r : Row) (l : Cell) (ks : Forest Cell) → TabledT ws xs rs ms es b (node l ks) → AreT (row_numbers r ++ replicate (length rs - 16) zero_f) (row_words r ++ replicate (length ms - 2) 0) (on_root (λ _. r) (zeros_t (map_t staying (node l ks))))
  unfolding zeros_t zeros_f
  zeros-rows r l ks h =
      let k = tree_facts ws xs rs ms es b l ks h in
      let one : count_t (node l ks) ≡ suc (count_f ks) = count_t_node l ks in
      let cm : count_f (map_f staying ks) ≡ count_f ks = same_count_f _ ks (sizes_map_f staying ks) in
      let wl = h.words_long in
      let rl = k.rows_long in
      let ml = k.marks_long in
      let z : on_root (λ _. r) (zeros_t (map_t staying (node l ks))) ≡ node r (zeros_f (map_f staying ks)) = rw (map_t_node, map_t_node, on_root_node) in
      rw z (flat_leaf r (map_f staying ks) (length rs - 16) (length ms - 2) (omega arith) (omega arith))

  pub gone-placed : (end : Cursor) (rs' : List Float) (ms' : List ℕ) → flow ≡ Gone → Hidden rs ms c end rs' ms' → PlacedT ws xs rs ms es b f c end rs' ms'
  unfolding placed_by
  gone-placed end rs' ms' e hh (node l ks) h =
      let z = zeros-rows (hidden_row c.count) l ks h in
      rw (placed_of l ks Gone h e) (hh.0, (hh.1.0 ∙ z.0, hh.1.1 ∙ z.1))

  pub out-placed : (end : Cursor) (rs' : List Float) (ms' : List ℕ) → flow ≡ Out → Aside rs ms f c end rs' ms' → PlacedT ws xs rs ms es b f c end rs' ms'
  unfolding placed_by
  out-placed end rs' ms' e hh (node l ks) h =
      let z = zeros-rows (aside_row (edges_of f).start (line_of f c) (edges_of f).end c.shown.0) l ks h in
      rw (placed_of l ks Out h e) (hh.0, (hh.1.0 ∙ z.0, hh.1.1 ∙ z.1))

  root-put : (g : Row → Row) (rs1 rs' : List Float) (ms1 ms' : List ℕ) (u : Tree Row) → AreT rs1 ms1 u → Becomes rs1 ms1 rs' ms' g → AreT rs' ms' (on_root g u)
  root-put g rs1 rs' ms1 ms' (node r us) a h =
      let p = h r (flat_f new_numbers us) (flat_f new_words us) (a.0 ∙ flat_t_node new_numbers r us) (a.1 ∙ flat_t_node new_words r us) in
      rw on_root_node (p.0 ∙ sym (flat_t_node new_numbers (g r) us), p.1 ∙ sym (flat_t_node new_words (g r) us))

  item-placed : (end : Cursor) (q : LayoutInput) (o : LayoutOutput) (i : BlockItem) (rs1 rs' : List Float) (ms1 ms' : List ℕ) → flow ≡ In → q ≡ question_to f s → AskedT ws xs rs ms es b q o rs1 ms1 → i ≡ item_of f s
      → Becomes rs1 ms1 rs' ms' (put_at (place_of f c i o) c.shown.0) → end ≡ stepped f c i o → PlacedT ws xs rs ms es b f c end rs' ms'
  unfolding placed_by placed_in
  item-placed end q o i rs1 rs' ms1 ms' e hq ha hi hb he (node l ks) h =
      let t = map_t staying (node l ks) in
      let st = style-of l ks h in
      let a = ha (node l ks) h in
      let qq : q ≡ question_to f (root_t t).site.style = hq ∙ ap (question_to f) st in
      let oo : o ≡ (ask_t t (question_to f (root_t t).site.style)).out = a.0 ∙ ap (λ (z : LayoutInput). (ask_t t z).out) qq in
      let ii : i ≡ item_of f (root_t t).site.style = hi ∙ ap (item_of f) st in
      let z = root-put (put_at (place_of f c i o) c.shown.0) rs1 rs' ms1 ms' (ask_t t q).rows a.1 hb in
      let y : on_root (put_at (place_of f c i o) c.shown.0) (ask_t t q).rows ≡ (placed_in f c t (ask_t t (question_to f (root_t t).site.style))).rows = rw (ii, oo, qq) refl in
      rw (placed_of l ks In h e) (he ∙ rw (ii, oo) refl, (z.0 ∙ ap (flat_t new_numbers) y, z.1 ∙ ap (flat_t new_words) y))

  -- the same with what is held of the item
  pub in-placed : (end : Cursor) (q : LayoutInput) (o : LayoutOutput) (g : Footing) (rs1 rs' : List Float) (ms1 ms' : List ℕ) → flow ≡ In → q ≡ question_to f s → AskedT ws xs rs ms es b q o rs1 ms1 → g ≡ footing_of (item_of f s)
      → Settled rs1 ms1 f c g o end rs' ms' → PlacedT ws xs rs ms es b f c end rs' ms'
  in-placed end q o g rs1 rs' ms1 ms' e hq ha hg hh =
      let i = item_of f s in
      let w = with_footing i g hg in
      let k = hh i.sizing in
      item-placed end q o i rs1 rs' ms1 ms' e hq ha refl (subst (λ (j : BlockItem). Becomes rs1 ms1 rs' ms' (put_at (place_of f c j o) c.shown.0)) w k.1) (k.0 ∙ ap (λ (j : BlockItem). stepped f c j o) w)

-- what `settle` leaves
pub settled : (rs rs' : List Float) (ms ms' : List ℕ) (f : Frame) (c : Cursor) (i : Footing) (o : LayoutOutput) (end : Cursor) (p : Point Float) → ((z : Sizing) → p ≡ place_of f c (item_with z i) o)
    → Becomes rs ms rs' ms' (put_at p c.shown.0) → ((z : Sizing) → end ≡ stepped f c (item_with z i) o) → Settled rs ms f c i o end rs' ms'
settled rs rs' ms ms' f c i o end p hp hb he z = (he z, subst (λ (x : Point Float). Becomes rs ms rs' ms' (put_at x c.shown.0)) (hp z) hb)

-- a leaf's row, and what is cleared after it
clear_rest : {A : Type 0} (x z l nr : List A) (v : A) (k n : ℕ) → length x ≡ k → l ≡ x ++ z → length l ≡ n → nr ≡ replicate (length (take (length l - k) (drop k l))) v → put_mid k (length l - k) l nr ≡ x ++ replicate (n - k) v
clear_rest x z l nr v k n e el en er =
    let a : take k l ≡ x = ap (take k) el ∙ take_at x z k e in
    let b : length (take (length l - k) (drop k l)) ≡ n - k = rw (tail-part k l) (simp length-drop (omega arith)) in
    tail-put k l nr ∙ rw (a, er, b)

pub leaf_put : (rs : List Float) (ms : List ℕ) (q : LayoutInput) (o : LayoutOutput) (rs1 nr : List Float) (ms1 nm : List ℕ) → Becomes rs ms rs1 ms1 (λ r. laid_row q o (probe_of r)) → length rs1 ≡ length rs → length ms1 ≡ length ms
    → nr ≡ replicate (length (take (length rs1 - 16) (drop 16 rs1))) zero_f → nm ≡ replicate (length (take (length ms1 - 2) (drop 2 ms1))) 0 → LeafPut rs ms q o (put_mid 16 (length rs1 - 16) rs1 nr) (put_mid 2 (length ms1 - 2) ms1 nm)
leaf_put rs ms q o rs1 nr ms1 nm h lr lm hr hm r z y er em =
    let p = h r z y er em in
    (clear_rest (row_numbers (laid_row q o (probe_of r))) z rs1 nr zero_f 16 (length rs) refl p.0 lr hr, clear_rest {A = ℕ} (row_words (laid_row q o (probe_of r))) y ms1 nm 0 2 (length ms) refl p.1 lm hm)
