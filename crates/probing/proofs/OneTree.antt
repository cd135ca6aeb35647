-- What each member of the cycle does with one tree, in plain terms.
use Rattle.std.specs.Prelude.{Option, None, Some, is_some}
use Rattle.geometry.specs.declared.Size.{Size}
use mathlib.Core.Path.{◌≡◌, refl, sym, ap, ◌∙◌}
use mathlib.Core.Bool.{Bool, true, false, cond, true≢false}
use mathlib.Core.List.{List, [], ◌∷◌, ◌++◌}
use mathlib.Core.Logic.{inl, inr}
use Prim.Native.Nat.{ℕ, ◌+◌, ◌-◌, ◌/◌}
use native.Mathlib.Omega.{arith}
use lib.ListN.{length, get_or, take, drop}
use lib.Ieee.{Float, nan}
use borrow.Rule.Slice.PartMut.{put_mid}
use types.Run.{OneOf}
use denote.Enum.Declared.{tag_of}
use Rattle.steps.specs.contracts.Want.{the_type}
use Rattle.geometry.specs.Geometry.{zero_f}
use Rattle.util.specs.Math.{larger}
use Rattle.length.specs.declared.AvailableSpace.{AvailableSpace}
use Rattle.style.specs.Style.{style_at}
use Rattle.style.specs.declared.Style.{Style}
use Rattle.tree.specs.Tree.{Tree, Forest, node, count_t, flat_t, flat_f, map_t, map_f, root_t}
use Rattle.tree.proofs.Laws.{flat_t_node, root_t_node}
use Rattle.tree.proofs.Lists.{tail-put}
use Rattle.style.specs.Flow.{is_leaf}
use Rattle.steps.specs.Width.{want_of, outer_width, leaf_width}
use Rattle.steps.specs.Row.{Row, row_numbers, row_words, probe_note}
use Rattle.steps.specs.Page.{Cell, Node, cleared, staying, probed_anew}
use Rattle.steps.specs.Probe.{Probed, Widest, answered, probe_known, space_in, found_width, asked, stay, probe_t, probe_f, ask_p}
use Rattle.steps.specs.declared.ProbeInput.{ProbeInput}
use Rattle.steps.specs.declared.Want.{Want}
use Rattle.steps.specs.declared.Want.TheVariants.{Nothing, Outer}
use Rattle.steps.specs.declared.Want.TheVariants as want
use Rattle.steps.proofs.Clauses.{probe_t_leaf, ask_p_stands, ask_p_anew, widest_in, stay_nodes}
use Rattle.rows.specs.Store.{Becomes, AllBecome, OneRow, Whole, probed_row, cleared_row}
use Rattle.walks.specs.Tables.{old_numbers, TabledT}
use Rattle.walks.proofs.Parts.{tree_facts}
use Rattle.walks.proofs.Edited.{edited_run}
use Rattle.probing.specs.Passed.{passed_row, passed_numbers, passed_words}
use Rattle.widths.specs.AtOnce.{width_at_once}
use Rattle.probing.specs.Contract.{Rows, RestCleared, Stands, most_past, AreT, kids_t, Widened, widened_by, widened_t, ProbedT, AnewT, WidenedT, WidestF}
use Rattle.probing.proofs.PassedRows.{passed_probed, staying_rows, staying_marks, all_cleared, rest_cleared}
use Rattle.probing.proofs.Clauses.{probe_t_known, probe_t_below, asked_answer, asked_kids, anew_node, widened_t_is}

-- a row and the rest
pub all_rows : {rs : List Float} {ms : List ℕ} → OneRow rs ms → Whole rs ms → Rows rs ms
all_rows r w =
    let a = r.rows_some in
    let b = w.rows_long in
    let c = w.marks_long in
    record { n = w.n - 1; rows_long = omega arith; marks_long = omega arith }

-- the code's test is the definition's
stands_is : (ws : List ℕ) (xs rs : List Float) (ms es : List ℕ) (b : ℕ) (q : ProbeInput) (v : Bool) (l : Cell) (ks : Forest Cell) → TabledT ws xs rs ms es b (node l ks) → Stands rs ms es b (length ws / 4) q v
    → answered (node l ks) q ≡ v
unfolding answered
stands_is ws xs rs ms es b q v l ks h st =
    let k = tree_facts ws xs rs ms es b l ks h in
    let wl = h.words_long in
    let n : length ws / 4 ≡ count_t (node l ks) = omega arith in
    rw (root_t_node, edited_run ws xs es b (node l ks) h.sites_are, ← n) (sym (st l.old _ _ k.rows_head k.marks_head))

stay_answer : (l : Cell) (ks : Forest Cell) → (stay (node l ks)).answer ≡ l.old.probe.answer
unfolding stay root_t
stay_answer l ks = refl

number_13 : (r : Row) (z : List Float) → get_or (row_numbers r ++ z) 13 nan ≡ r.probe.answer
number_13 r z = refl

-- a probe that stands
pub probe_stood : (ws : List ℕ) (xs rs : List Float) (ms es : List ℕ) (b : ℕ) (q : ProbeInput) (v : Bool) → Stands rs ms es b (length ws / 4) q v → v ≡ true → ProbedT ws xs rs ms es b q (get_or rs 13 nan) rs ms
probe_stood ws xs rs ms es b q v st e (node l ks) h =
    let k = tree_facts ws xs rs ms es b l ks h in
    let a : ask_p (node l ks) q ≡ stay (node l ks) = ask_p_stands (node l ks) q (stands_is ws xs rs ms es b q v l ks h st ∙ e) in
    let nodes : (ask_p (node l ks) q).nodes ≡ map_t staying (node l ks) = ap (λ (p : Probed). p.nodes) a ∙ stay_nodes (node l ks) in (
      ap (λ (z : List Float). get_or z 13 nan) k.rows_head ∙ number_13 l.old (flat_f old_numbers ks) ∙ sym (ap (λ (p : Probed). p.answer) a ∙ stay_answer l ks),
      (h.rows_are ∙ sym (ap (flat_t passed_numbers) nodes ∙ staying_rows (node l ks)), h.marks_are ∙ sym (ap (flat_t passed_words) nodes ∙ staying_marks (node l ks))),
    )

-- a probe put anew, and its note
pub probe_noted : (ws : List ℕ) (xs rs : List Float) (ms es : List ℕ) (b : ℕ) (q : ProbeInput) (v : Bool) (w : Float) (rs1 : List Float) (ms1 : List ℕ) (rs2 : List Float) (ms2 : List ℕ)
    → Stands rs ms es b (length ws / 4) q v → v ≡ false → AnewT ws xs rs ms es b q w rs1 ms1 → Becomes rs1 ms1 rs2 ms2 (probed_row q w) → ProbedT ws xs rs ms es b q w rs2 ms2
probe_noted ws xs rs ms es b q v w rs1 ms1 rs2 ms2 st e an nt (node l ks) h =
    let a : ask_p (node l ks) q ≡ probe_t (node l ks) q = ask_p_anew (node l ks) q (stands_is ws xs rs ms es b q v l ks h st ∙ e) in
    let p = an (node l ks) h in
    let us = kids_t (probe_t (node l ks) q).nodes in
    let root : (root_t (node l ks)).old ≡ l.old = ap (λ (c : Cell). c.old) (root_t_node l ks) in
    let n = nt l.old (flat_f passed_numbers us) (flat_f passed_words us) (p.1 ∙ ap (λ (r : Row). row_numbers r ++ flat_f passed_numbers us) root) (p.2 ∙ ap (λ (r : Row). row_words r ++ flat_f passed_words us) root) in
    let row : passed_row (probed_anew l (probe_note q (probe_t (node l ks) q).answer)) ≡ probed_row q w l.old = passed_probed l q (probe_t (node l ks) q).answer ∙ ap (λ (x : Float). probed_row q x l.old) (sym p.0) in
    let nodes : (ask_p (node l ks) q).nodes ≡ node (probed_anew l (probe_note q (probe_t (node l ks) q).answer)) us = ap (λ (z : Probed). z.nodes) a ∙ anew_node l ks q in (
      p.0 ∙ sym (ap (λ (z : Probed). z.answer) a),
      (
        n.0 ∙ sym (ap (flat_t passed_numbers) nodes ∙ flat_t_node passed_numbers _ us ∙ ap (λ (r : Row). row_numbers r ++ flat_f passed_numbers us) row),
        n.1 ∙ sym (ap (flat_t passed_words) nodes ∙ flat_t_node passed_words _ us ∙ ap (λ (r : Row). row_words r ++ flat_f passed_words us) row),
      ),
    )

-- the style that the code reads is the root's
pub root_style : (ws : List ℕ) (xs rs : List Float) (ms es : List ℕ) (b : ℕ) (s : Style) (l : Cell) (ks : Forest Cell) → TabledT ws xs rs ms es b (node l ks) → s ≡ style_at ws 0 xs b → s ≡ l.site.style
root_style ws xs rs ms es b s l ks h hs = hs ∙ (tree_facts ws xs rs ms es b l ks h).style_is

-- a new answer with the rest cleared, or with what step F left
record Made (rs : List Float) (ms : List ℕ) (q : ProbeInput) (l : Cell) (ks : Forest Cell) (w : Float) (us : Forest Node) : Type 0 where
  made : probe_t (node l ks) q ≡ asked l q w us
  rows_are : rs ≡ row_numbers l.old ++ flat_f passed_numbers us
  marks_are : ms ≡ row_words l.old ++ flat_f passed_words us

made_anew : (rs : List Float) (ms : List ℕ) (q : ProbeInput) (l : Cell) (ks : Forest Cell) (r w : Float) (us : Forest Node) → r ≡ w → Made rs ms q l ks w us
    → (r ≡ (probe_t (node l ks) q).answer) × (rs ≡ row_numbers (root_t (node l ks)).old ++ flat_f passed_numbers (kids_t (probe_t (node l ks) q).nodes))
    × (ms ≡ row_words (root_t (node l ks)).old ++ flat_f passed_words (kids_t (probe_t (node l ks) q).nodes))
made_anew rs ms q l ks r w us e h =
    let kids : kids_t (probe_t (node l ks) q).nodes ≡ us = ap (λ (p : Probed). kids_t p.nodes) h.made ∙ asked_kids l q w us in
    let root : root_t (node l ks) ≡ l = root_t_node l ks in
    (e ∙ sym (ap (λ (p : Probed). p.answer) h.made ∙ asked_answer l q w us), h.rows_are ∙ rw (kids, root), h.marks_are ∙ rw (kids, root))

abbrev or_else : Float → Option Float → Float
or_else x None = x
or_else x (Some y) = y

module _ (ws : List ℕ) (xs rs : List Float) (ms es : List ℕ) (b : ℕ) (q : ProbeInput) (s : Style) (hs : s ≡ style_at ws 0 xs b) where
  anew-leaf : (r : Float) (rs' : List Float) (ms' : List ℕ) → is_leaf s.kind ≡ true → RestCleared rs ms rs' ms' → r ≡ leaf_width s.measure q.available → AnewT ws xs rs ms es b q r rs' ms'
  anew-leaf r rs' ms' lf cl hr (node l ks) h =
      let k = tree_facts ws xs rs ms es b l ks h in
      let st = root_style ws xs rs ms es b s l ks h hs in
      let c = rest_cleared rs ms rs' ms' l.old ks k.rows_head k.marks_head cl in
      let lf2 : is_leaf l.site.style.kind ≡ true = ap (λ (z : Style). is_leaf z.kind) (sym st) ∙ lf in
      made_anew rs' ms' q l ks r (leaf_width l.site.style.measure q.available) (map_f cleared ks) (hr ∙ ap (λ (z : Style). leaf_width z.measure q.available) st)
      (record { made = probe_t_leaf l ks q lf2; rows_are = c.0; marks_are = c.1 })

  anew-known : (known : Size (Option Float)) (w : Float) (rs' : List Float) (ms' : List ℕ) → is_leaf s.kind ≡ false → known ≡ probe_known s q → known.width ≡ Some w → RestCleared rs ms rs' ms' → AnewT ws xs rs ms es b q w rs' ms'
  anew-known known w rs' ms' lf hk kw cl (node l ks) h =
      let k = tree_facts ws xs rs ms es b l ks h in
      let st = root_style ws xs rs ms es b s l ks h hs in
      let c = rest_cleared rs ms rs' ms' l.old ks k.rows_head k.marks_head cl in
      let lf2 : is_leaf l.site.style.kind ≡ false = ap (λ (z : Style). is_leaf z.kind) (sym st) ∙ lf in
      let kn : (probe_known l.site.style q).width ≡ Some w = ap (λ (z : Style). (probe_known z q).width) (sym st) ∙ ap (λ (z : Size (Option Float)). z.width) (sym hk) ∙ kw in
      made_anew rs' ms' q l ks w w (map_f cleared ks) refl (record { made = probe_t_known l ks q w lf2 kn; rows_are = c.0; marks_are = c.1 })

  anew-below : (known : Size (Option Float)) (a : AvailableSpace) (most r : Float) (nr : List Float) (nm : List ℕ) → is_leaf s.kind ≡ false → known ≡ probe_known s q → known.width ≡ None → a ≡ space_in s None q.available
      → WidestF (take (length ws - 4) (drop 4 ws)) xs (take (length rs - 16) (drop 16 rs)) (take (length ms - 2) (drop 2 ms)) es (b + 1) a most nr nm → r ≡ found_width s None most
      → AnewT ws xs rs ms es b q r (put_mid 16 (length rs - 16) rs nr) (put_mid 2 (length ms - 2) ms nm)
  anew-below known a most r nr nm lf hk kw ha hw hr (node l ks) h =
      let k = tree_facts ws xs rs ms es b l ks h in
      let st = root_style ws xs rs ms es b s l ks h hs in
      let lf2 : is_leaf l.site.style.kind ≡ false = ap (λ (z : Style). is_leaf z.kind) (sym st) ∙ lf in
      let kn : (probe_known l.site.style q).width ≡ None = ap (λ (z : Style). (probe_known z q).width) (sym st) ∙ ap (λ (z : Size (Option Float)). z.width) (sym hk) ∙ kw in
      let ea : probe_f ks a zero_f ≡ widest_in l ks q = ap (λ (z : AvailableSpace). probe_f ks z zero_f) (ha ∙ ap (λ (z : Style). space_in z None q.available) st) in
      let g = hw ks k.kids in
      let t16 : take 16 rs ≡ row_numbers l.old = ap (take 16) k.rows_head in
      let t2 : take 2 ms ≡ row_words l.old = ap (take 2) k.marks_head in
      let e1 : put_mid 16 (length rs - 16) rs nr ≡ row_numbers l.old ++ nr = tail-put 16 rs nr ∙ ap (λ (z : List Float). z ++ nr) t16 in
      let e2 : put_mid 2 (length ms - 2) ms nm ≡ row_words l.old ++ nm = tail-put 2 ms nm ∙ ap (λ (z : List ℕ). z ++ nm) t2 in
      let em : r ≡ found_width l.site.style None (widest_in l ks q).most = hr ∙ ap (λ (z : Style). found_width z None most) st ∙ ap (found_width l.site.style None) (g.0 ∙ ap (λ (z : Widest). z.most) ea) in
      made_anew _ _ q l ks r (found_width l.site.style None (widest_in l ks q).most) (widest_in l ks q).nodes em (record {
        made = probe_t_below l ks q lf2 kn;
        rows_are = e1 ∙ ap (λ (z : List Float). row_numbers l.old ++ z) (g.1.0 ∙ ap (λ (z : Widest). flat_f passed_numbers z.nodes) ea);
        marks_are = e2 ∙ ap (λ (z : List ℕ). row_words l.old ++ z) (g.1.1 ∙ ap (λ (z : Widest). flat_f passed_words z.nodes) ea);
      })

  at-once-by : (v : Bool) → is_leaf s.kind ≡ v → width_at_once s q ≡ cond v (Some (leaf_width s.measure q.available)) (probe_known s q).width
  unfolding width_at_once
  at-once-by v e = rw e

  -- a width at once, and none
  pub anew-at-once : (w : Float) (rs' : List Float) (ms' : List ℕ) → width_at_once s q ≡ Some w → RestCleared rs ms rs' ms' → AnewT ws xs rs ms es b q w rs' ms'
  anew-at-once w rs' ms' e cl = go (is_leaf s.kind) refl
    where
      go : (v : Bool) → is_leaf s.kind ≡ v → AnewT ws xs rs ms es b q w rs' ms'
      go true lf = anew-leaf w rs' ms' lf cl (ap (or_else w) (sym e ∙ at-once-by true lf))
      go false lf = anew-known (probe_known s q) w rs' ms' lf refl (sym (at-once-by false lf) ∙ e) cl

  pub anew-inside : (a : AvailableSpace) (most r : Float) (nr : List Float) (nm : List ℕ) → width_at_once s q ≡ None → a ≡ space_in s None q.available
      → WidestF (take (length ws - 4) (drop 4 ws)) xs (take (length rs - 16) (drop 16 rs)) (take (length ms - 2) (drop 2 ms)) es (b + 1) a most nr nm → r ≡ found_width s None most
      → AnewT ws xs rs ms es b q r (put_mid 16 (length rs - 16) rs nr) (put_mid 2 (length ms - 2) ms nm)
  anew-inside a most r nr nm e ha hw hr = go (is_leaf s.kind) refl
    where
      go : (v : Bool) → is_leaf s.kind ≡ v → AnewT ws xs rs ms es b q r (put_mid 16 (length rs - 16) rs nr) (put_mid 2 (length ms - 2) ms nm)
      go true lf = absurd (true≢false (ap is_some (sym (at-once-by true lf) ∙ e)))
      go false lf = anew-below (probe_known s q) a most r nr nm lf refl (sym (at-once-by false lf) ∙ e) ha hw hr

-- one child of a container without a width
root_want : (l : Cell) (ks : Forest Cell) (s : Style) (a : AvailableSpace) (w v : Want) → s ≡ l.site.style → w ≡ want_of s a → w ≡ v → want_of (root_t (node l ks)).site.style a ≡ v
root_want l ks s a w v st hw e = ap (λ (c : Cell). want_of c.site.style a) (root_t_node l ks) ∙ ap (λ (z : Style). want_of z a) (sym st) ∙ sym hw ∙ e

by_nothing : (m : Float) (a : AvailableSpace) (t : Tree Cell) → widened_by Nothing m a t ≡ record { most = m; nodes = map_t cleared t }
unfolding widened_by
by_nothing m a t = refl

by_outer : (m : Float) (a : AvailableSpace) (t : Tree Cell) (o : Float) → widened_by (Outer o) m a t ≡ record { most = larger m o; nodes = map_t cleared t }
unfolding widened_by
by_outer m a t o = refl

by_probe : (m : Float) (a : AvailableSpace) (t : Tree Cell) (q : ProbeInput) → widened_by (want.Probe q) m a t ≡ record { most = larger m (outer_width (root_t t).site.style a (ask_p t q).answer); nodes = (ask_p t q).nodes }
unfolding widened_by
by_probe m a t q = refl

module _ (ws : List ℕ) (xs rs : List Float) (ms es : List ℕ) (b : ℕ) (a : AvailableSpace) (most : Float) (s : Style) (w : Want) (rs' : List Float) (ms' : List ℕ) (hs : s ≡ style_at ws 0 xs b) (hw : w ≡ want_of s a) where
  by-child : (l : Cell) (ks : Forest Cell) (r : Float) (x : Widened) → widened_t most a (node l ks) ≡ x → r ≡ x.most → AreT rs' ms' x.nodes → (r ≡ (widened_t most a (node l ks)).most) × AreT rs' ms' (widened_t most a (node l ks)).nodes
  by-child l ks r x e hm h =
      (hm ∙ sym (ap (λ (z : Widened). z.most) e), (h.0 ∙ sym (ap (λ (z : Widened). flat_t passed_numbers z.nodes) e), h.1 ∙ sym (ap (λ (z : Widened). flat_t passed_words z.nodes) e)))

  pub widened-nothing : w ≡ Nothing → AllBecome rs ms rs' ms' cleared_row → WidenedT ws xs rs ms es b a most most rs' ms'
  widened-nothing e cl (node l ks) h =
      let t : Tree Cell = node l ks in
      by-child l ks most (record { most = most; nodes = map_t cleared t }) (widened_t_is most a t Nothing (root_want l ks s a w Nothing (root_style ws xs rs ms es b s l ks h hs) hw e) ∙ by_nothing most a t) refl
      (all_cleared rs ms rs' ms' t h.rows_are h.marks_are cl)

  pub widened-outer : (o r : Float) → w ≡ Outer o → AllBecome rs ms rs' ms' cleared_row → r ≡ larger most o → WidenedT ws xs rs ms es b a most r rs' ms'
  widened-outer o r e cl hr (node l ks) h =
      let t : Tree Cell = node l ks in
      by-child l ks r (record { most = larger most o; nodes = map_t cleared t }) (widened_t_is most a t (Outer o) (root_want l ks s a w (Outer o) (root_style ws xs rs ms es b s l ks h hs) hw e) ∙ by_outer most a t o) hr
      (all_cleared rs ms rs' ms' t h.rows_are h.marks_are cl)

  pub widened-probe : (q : ProbeInput) (x o r : Float) → w ≡ want.Probe q → ProbedT ws xs rs ms es b q x rs' ms' → o ≡ outer_width s a x → r ≡ larger most o → WidenedT ws xs rs ms es b a most r rs' ms'
  widened-probe q x o r e hp ho hr (node l ks) h =
      let t : Tree Cell = node l ks in
      let st = root_style ws xs rs ms es b s l ks h hs in
      let p = hp t h in
      let st2 : s ≡ (root_t t).site.style = st ∙ sym (ap (λ (c : Cell). c.site.style) (root_t_node l ks)) in
      let om : o ≡ outer_width (root_t t).site.style a (ask_p t q).answer = ho ∙ ap (λ (z : Style). outer_width z a x) st2 ∙ ap (outer_width (root_t t).site.style a) p.0 in
      by-child l ks r (record { most = larger most (outer_width (root_t t).site.style a (ask_p t q).answer); nodes = (ask_p t q).nodes })
      (widened_t_is most a t (want.Probe q) (root_want l ks s a w (want.Probe q) st hw e) ∙ by_probe most a t q) (hr ∙ ap (larger most) om) p.1

  -- one that is not probed, by the tags of the other two
  pub widened-past : (r : Float) → OneOf (0 ∷ 1 ∷ []) (tag_of the_type w) → AllBecome rs ms rs' ms' cleared_row → r ≡ most_past w most → WidenedT ws xs rs ms es b a most r rs' ms'
  unfolding most_past
  widened-past r one cl hr = go w refl one
    where
      go : (v : Want) → w ≡ v → OneOf (0 ∷ 1 ∷ []) (tag_of the_type v) → WidenedT ws xs rs ms es b a most r rs' ms'
      go Nothing e _ = λ t h. rw (hr ∙ ap (λ (z : Want). most_past z most) e) (widened-nothing e cl t h)
      go (Outer o) e _ = widened-outer o r e cl (hr ∙ ap (λ (z : Want). most_past z most) e)
      go (want.Probe p) e (inl k) = absurd (omega (arith, k))
      go (want.Probe p) e (inr k) = absurd (omega (arith, k))
