-- The final pass of a page of the profile, over the tree: answers, rows and candidates. Assumes nothing.
-- w bounds the width of a box: start and end of the candidates below it stay within 2 w + 40960 for each level.
use Rattle.std.specs.Prelude.{◌≡◌, refl, Bool, true, false, ℕ, suc, ◌+◌, ◌*◌, ◌^◌, ◌≤◌, ℤ, pos, ◌-ℤ◌, Float}
use Rattle.std.proofs.Common.{◌∙◌, arith, lit≤}
use Rattle.geometry.specs.Geometry.{zero_f}
use Rattle.geometry.specs.declared.Point.{Point}
use Rattle.style.specs.Flow.{is_leaf, flow_of}
use Rattle.style.specs.declared.Flow.{Flow}
use Rattle.style.specs.declared.Flow.TheVariants.{Gone, Out, In}
use Rattle.style.specs.declared.Style.{Style}
use Rattle.tree.specs.Tree.{Tree, Forest, node, none, more, root_t, count_t, count_f, depth_t, depth_f}
use Rattle.steps.specs.Page.{Node}
use Rattle.steps.specs.Edges.{frame_of}
use Rattle.steps.specs.Stack.{item_of, asked_width, question_to, place_of, stepped}
use Rattle.steps.specs.Kept.{Laid}
use Rattle.steps.specs.Layout.{Stacked, leaf_laid, block_laid, place, lay_t, lay_f}
use Rattle.steps.specs.declared.LayoutInput.{LayoutInput}
use Rattle.steps.specs.declared.Frame.{Frame}
use Rattle.steps.specs.declared.Cursor.{Cursor}
use Rattle.steps.proofs.Clauses.{style_t, lay_t_leaf, lay_t_block, lay_f_gone, lay_f_out, lay_f_in}
use Rattle.laws.specs.Bits.{laid_row_lem}
use Rattle.whole.specs.Range.{zero_is}
use Rattle.integers.specs.Styles.{StyleZ, InputZ}
use Rattle.integers.specs.Numbers.{PointZ, across_z}
use Rattle.integers.specs.Rows.{ProbeWordsZ}
use Rattle.integers.specs.Widths.{NodeZ}
use Rattle.integers.specs.Stacks.{FrameZ, CursorZ, frame_of_z, inner_width_z, item_of_z, asked_width_z, question_to_z, place_of_z, stepped_z}
use Rattle.integers.specs.Layout.{LaidZ, StackedZ, leaf_laid_z, block_laid_z, place_z, lay_tz, lay_fz}
use Rattle.integers.proofs.Clauses.{lay_tz_at, lay_fz_at}
use Rattle.profile.specs.Profile.{two_autos}
use Rattle.profile.specs.Page.{InProfile}
use Rattle.exact.specs.Near.{Near, wide}
use Rattle.exact.specs.Tall.{Tall, short, same}
use Rattle.exact.specs.Read.{style_z}
use Rattle.exact.specs.Trees.{RelT, RelF, rel_root}
use Rattle.exact.specs.Widths.{WordsAre}
use Rattle.exact.specs.Probes.{NodeIs, KidIs}
use Rattle.exact.specs.Frames.{InputIs, FrameIs, PointIs, asked_width_is}
use Rattle.exact.proofs.Frames.{frame_is, item_is, question_is}
use Rattle.exact.specs.Stacks.{CursorAt, start_is, place_short, place_filled, stepped_is}
use Rattle.exact.proofs.Heights.{finished_is, leaf_by, leaf_is}
use Rattle.exact.specs.Candidates.{cands_wide, more_listed, zeros-listed, placed_listed}
use Rattle.exact.specs.Rows.{RowsT, RowsF, laid_row_is, zeros_f_lem, align_f_lem, put_t}
use Rattle.exact.specs.Layout.{LaidAt, StackedAt, KidsLay, TreeLays, kind_at, none_lay, RestLays, skip_is, aside_is, rows_bits, flow_at_lem, asks_new, kept_at, deeper, some_node}

leaf_laid_is : (l : Node) (s : StyleZ) (p : ProbeWordsZ) (ks : Forest Node) (us : Forest NodeZ) (k D w : ℕ) {q : LayoutInput} {z : InputZ} → s ≡ style_z l.site.style → InProfile l.site.style → WordsAre l.probe p → RelF KidIs ks us → InputIs w q z → 5120 ≤ w → w ≤ 2 ^ 20
    → LaidAt w (suc k) D (leaf_laid l q ks) (leaf_laid_z (record { style = s; probe = p }) z us)
unfolding leaf_laid leaf_laid_z RowsT style_z root_t
leaf_laid_is l s p ks us k D w {q} e i h r j u v =
    rw e (record {
      out = leaf_is l.site.style k D i j (omega arith);
      rows = (laid_row_is j (leaf_by l.site.style i j (omega arith)) h (omega arith) (lit≤ tt) (lit≤ tt), zeros_f_lem KidIs ks us r);
      laid = laid_row_lem q _ l.probe;
      below = zeros-listed KidIs ks us r;
    })

block_laid_is : (l : Node) (s : StyleZ) (p : ProbeWordsZ) (k D w n : ℕ) {q : LayoutInput} {z : InputZ} {f : Frame} {g : FrameZ} {a : Stacked} {b : StackedZ} → s ≡ style_z l.site.style → InProfile l.site.style → WordsAre l.probe p → InputIs w q z → FrameIs w f g
    → w ≤ 2 ^ 20 → k ≤ 1023 → D ≤ 31 → StackedAt w k D n a b → LaidAt w (suc k) (suc D) (block_laid l q f a) (block_laid_z (record { style = s; probe = p }) z g b)
unfolding block_laid block_laid_z RowsT root_t
block_laid_is l s p k D w n {q} e i h j f u v t c =
    let d = finished_is l.site.style q k D i f c.last v t in
    let o = d.output in
    let x = o.low in
    let y = o.sum in
    let by = d.near in
    let lined = d.lined in
    let line = c.last.line in
    rw e (record {
      out = o;
      rows = (laid_row_is j o.is h (omega arith) (omega arith) (omega arith), align_f_lem _ _ 7340032 d.by d.shift (omega arith) c.rows);
      laid = laid_row_lem q _ l.probe;
      below = λ m. cands_wide (c.listed d.by _ _ d.shift (omega arith) m) (omega arith) lined;
    })

frame_at_is : (s : Style) (r : StyleZ) {w : ℕ} {q : LayoutInput} {z : InputZ} {x : Float} {k : ℤ} → r ≡ style_z s → InProfile s → InputIs w q z → Near x k w → 5120 ≤ w → FrameIs w (frame_of s q x) (frame_of_z r z k)
frame_at_is s r e p i x u = rw e (frame_is s p i x u)

pub node_lays : (l : Node) (y : NodeZ) (ks : Forest Node) (us : Forest NodeZ) (n D : ℕ) → NodeIs l y → RelF KidIs ks us → KidsLay ks us n D → n ≤ 1023 → D ≤ 31 → TreeLays (node l ks) (node y us) (suc n) (suc D)
node_lays l y ks us n D p r h a b w q z x k i j u v = go (is_leaf l.site.style.kind) refl
  where
    s : Style
    s = l.site.style

    go : (t : Bool) → is_leaf l.site.style.kind ≡ t → LaidAt w (suc n) (suc D) (lay_t (node l ks) q x) (lay_tz (node y us) z k)
    go true e =
        rw (lay_t_leaf l ks q x e, lay_tz_at y us z k true (kind_at s y.style p.style ∙ e))
        (leaf_laid_is l y.style y.probe ks us n (suc D) w p.style p.profile p.probe r i u (omega arith))
    go false e =
        let f = frame_at_is s y.style p.style p.profile i j u in
        let none_yet : 0 + n ≡ n = omega arith in
        rw (lay_t_block l ks q x e, lay_tz_at y us z k false (kind_at s y.style p.style ∙ e))
        (block_laid_is l y.style y.probe n D w _ p.style p.profile p.probe i f (omega arith) a b (rw none_yet at (h 0 w _ _ _ _ f v (start_is D f) (omega arith))))

-- a child that is answered within v, at x within `far`
place_by : (st : Style) (y : StyleZ) (r : Cursor → Stacked) (s : CursorZ → StackedZ) (k j n D w v far : ℕ) (f : Frame) (g : FrameZ) (c : Cursor) (z : CursorZ) (a : Laid) (b : LaidZ) → y ≡ style_z st → InProfile st → two_autos st ≡ false → FrameIs w f g → w ≤ 2 ^ 20 → (q : CursorAt k D c z)
    → k + j ≤ 1023 → D ≤ 32 → LaidAt v j D a b → PointIs far (q.reach + 2048) (place_of f c (item_of f st) a.out) (place_of_z g z (item_of_z g (style_z st)) b.out) → 2 * v + 40960 * D + far ≤ 2 * w + 40960 * suc D
    → RestLays r s w (k + j) n D → StackedAt w (k + j + n) D q.line (place f c st a r) (place_z g z y b s)
unfolding place place_z RowsF
place_by st y r s k j n D w v far f g c z a b e p t i u q m deep o x wide_enough h =
    let next = stepped_is k j D i q (item_is st p t i) o.out (omega arith) deep in
    let l = h (stepped f c (item_of f st) a.out) (stepped_z g z (item_of_z g (style_z st)) b.out) next.next in
    let low = q.low in
    let one = next.grows in
    let two = l.grows in
    let down = next.covers in
    let row = put_t _ _ 7340032 16777215 far (point-wide x (omega arith)) (omega arith) q.is.shown o.rows in
    rw e (record {
      last = l.last;
      grows = omega arith;
      rows = (row, l.rows);
      listed =
          λ m d e a' b' n.
          more_listed _ _ _ _ 7340032 d e n row (cands_wide (placed_listed _ _ c.shown.0 z.shown o.laid (rows_bits _ _ 16777215 o.rows) o.below x a' (omega arith) (omega arith) n) wide_enough (omega arith)) (l.listed m d e a' b');
    })
  where
    point-wide : {a n m : ℕ} {p : Point Float} {q : PointZ} → PointIs a n p q → n ≤ m → PointIs a m p q
    point-wide p u = record { x = p.x; y = wide p.y u }

-- the width asked, in both engines; the question; and that the child keeps the width
asked_at : (s : Style) (r : StyleZ) {w : ℕ} {f : Frame} {g : FrameZ} → r ≡ style_z s → InProfile s → two_autos s ≡ false → FrameIs w f g → w + 8192 ≤ 2 ^ 24
    → Tall (w + 6144 + 2048) (inner_width_z g -ℤ across_z (item_of_z g (style_z s)).margin) (asked_width f (item_of f s)) (asked_width_z g (item_of_z g (style_z s)))
asked_at s r e p t i u = asked_width_is i (item_is s p t i) u

question_at : (s : Style) (r : StyleZ) {w v : ℕ} {f : Frame} {g : FrameZ} → r ≡ style_z s → InProfile s → two_autos s ≡ false → FrameIs w f g → w + 6144 ≤ 1048576 → Near (asked_width f (item_of f s)) (asked_width_z g (item_of_z g (style_z s))) v
    → InputIs v (question_to f s) (question_to_z g r)
question_at s r e p t i u a = rw e (question_is s p t i u a)

-- an in-flow child and the rest
module _ (t : Tree Node) (u : Tree NodeZ) (r : Cursor → Stacked) (s : CursorZ → StackedZ) (k j n D w : ℕ) (f : Frame) (g : FrameZ) (c : Cursor) (z : CursorZ) (kid : KidIs (root_t t) (root_t u)) (h : TreeLays t u j D) (i : FrameIs w f g) (q : CursorAt k D c z) where
  abbrev InLays : Type 0
  InLays = StackedAt w (k + j + n) D q.line (place f c (style_t t) (lay_t t (question_to f (style_t t)) zero_f) r) (place_z g z (root_t u).style (lay_tz u (question_to_z g (root_t u).style) (pos 0)) s)

  in-lays : w + 8192 * suc D ≤ 2 ^ 20 → k + j ≤ 1023 → D ≤ 32 → RestLays r s w (k + j) n D
      → Tall (w + 6144 + 2048) (inner_width_z g -ℤ across_z (item_of_z g (style_z (style_t t))).margin) (asked_width f (item_of f (style_t t))) (asked_width_z g (item_of_z g (style_z (style_t t)))) → InLays
  in-lays v m deep rest (short a) =
      let e = kid.node.style in
      let p = kid.node.profile in
      let o = h 5120 _ _ _ _ (question_at (style_t t) (root_t u).style e p kid.sides i (omega arith) a) zero_is (lit≤ tt) (omega arith) in
      let low = q.low in
      place_by (style_t t) (root_t u).style r s k j n D w 5120 (w + w + 30720) f g c z _ _ e p kid.sides i (omega arith) q m deep o (place_short i q.is (item_is (style_t t) p kid.sides i) o.out.is (omega arith) (omega arith)) (omega arith) rest
  in-lays v m deep rest (same a x) =
      let e = kid.node.style in
      let p = kid.node.profile in
      let o = h (w + 6144 + 2048) _ _ _ _ (question_at (style_t t) (root_t u).style e p kid.sides i (omega arith) a) zero_is (omega arith) (omega arith) in
      let low = q.low in
      place_by (style_t t) (root_t u).style r s k j n D w (w + 6144 + 2048) 7168 f g c z _ _ e p kid.sides i (omega arith) q m deep o
      (place_filled i q.is (item_is (style_t t) p kid.sides i) o.out.is (omega arith) (omega arith) (kept_at u (style_z (style_t t)) g e ∙ x)) (omega arith) rest

more_lay : (t : Tree Node) (u : Tree NodeZ) (ts : Forest Node) (us : Forest NodeZ) (j n D : ℕ) → RelT KidIs t u → TreeLays t u j D → KidsLay ts us n D → 1 ≤ j → D ≤ 32 → KidsLay (more t ts) (more u us) (j + n) D
more_lay t u ts us j n D p h r one y k w f g c z i v q m = go (flow_of (style_t t)) refl
  where
    kid : KidIs (root_t t) (root_t u)
    kid = rel_root KidIs t u p

    rest : RestLays (lay_f ts f) (lay_fz us g) w (k + j) n D
    rest d e x = r (k + j) w f g d e i v x (omega arith)

    assoc : k + (j + n) ≡ k + j + n
    assoc = omega arith

    go : (b : Flow) → flow_of (style_t t) ≡ b → StackedAt w (k + (j + n)) D q.line (lay_f (more t ts) f c) (lay_fz (more u us) g z)
    go Gone e = rw (assoc, lay_f_gone t ts f c e, lay_fz_at u us g z Gone (flow_at_lem (style_t t) (root_t u).style kid.node.style ∙ e)) (skip_is t u (lay_f ts f) (lay_fz us g) k j n D w c z p q rest)
    go Out e = rw (assoc, lay_f_out t ts f c e, lay_fz_at u us g z Out (flow_at_lem (style_t t) (root_t u).style kid.node.style ∙ e)) (aside_is t u (lay_f ts f) (lay_fz us g) k j n D w f g c z p i (omega arith) q one (omega arith) y rest)
    go In e =
        rw (assoc, lay_f_in t ts f c e, lay_fz_at u us g z In (flow_at_lem (style_t t) (root_t u).style kid.node.style ∙ e), asks_new t (question_to f (style_t t)) kid.node.unlaid)
        (in-lays t u (lay_f ts f) (lay_fz us g) k j n D w f g c z kid h i q v (omega arith) y rest (asked_at (style_t t) (root_t u).style kid.node.style kid.node.profile kid.sides i (omega arith)))

mutual
  unfolding RelT count_t depth_t

  pub lay_t_lem : (t : Tree Node) (u : Tree NodeZ) (D : ℕ) → RelT KidIs t u → count_t t ≤ 1024 → depth_t t ≤ D → D ≤ 32 → TreeLays t u (count_t t) D
  lay_t_lem (node l ks) (node y us) D p a b c =
      deeper (node l ks) (node y us) (suc (count_f ks)) (suc (depth_f ks)) D
      (node_lays l y ks us (count_f ks) (depth_f ks) p.0.node p.1 (lay_f_lem ks us (depth_f ks) p.1 (omega arith) (omega arith) (omega arith)) (omega arith) (omega arith)) b

  pub lay_f_lem : (ts : Forest Node) (us : Forest NodeZ) (D : ℕ) → RelF KidIs ts us → count_f ts ≤ 1023 → depth_f ts ≤ D → D ≤ 32 → KidsLay ts us (count_f ts) D
  lay_f_lem none none D p a b c = none_lay D
  lay_f_lem none (more u us) D p a b c = absurd p
  lay_f_lem (more t ts) none D p a b c = absurd p
  lay_f_lem (more t ts) (more u us) D p a b c =
      more_lay t u ts us (count_t t) (count_f ts) D p.0 (lay_t_lem t u D p.0 (omega arith) (omega arith) c) (lay_f_lem ts us D p.1 (omega arith) (omega arith) c) (some_node t) c
