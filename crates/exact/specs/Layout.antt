-- The final pass of a page of the profile, over the tree: answers, rows and candidates. Assumes nothing.
-- w bounds the width of a box: start and end of the candidates below it stay within 2 w + 40960 for each level.
use Rattle.std.specs.Prelude.{◌≡◌, refl, true, false, ℕ, suc, ◌+◌, ◌*◌, ◌^◌, ◌≤◌, ℤ, pos, Float, Option}
use Rattle.std.proofs.Common.{ap, ◌∙◌, arith, lit≤}
use Rattle.geometry.specs.Geometry.{zero_f}
use Rattle.style.specs.Flow.{is_leaf, flow_of}
use Rattle.style.specs.declared.Style.{Style}
use Rattle.tree.specs.Tree.{Tree, Forest, node, none, root_t, count_t}
use Rattle.steps.specs.Row.{Row, is_laid}
use Rattle.steps.specs.Candidates.{candidates_f}
use Rattle.steps.specs.Page.{Node}
use Rattle.steps.specs.Stack.{edges_of, past_aside, past_hidden}
use Rattle.steps.specs.Kept.{Laid}
use Rattle.steps.specs.Layout.{Stacked, align_f, skip, aside, lay_t, lay_f, ask_t}
use Rattle.steps.specs.declared.LayoutInput.{LayoutInput}
use Rattle.steps.specs.declared.Frame.{Frame}
use Rattle.steps.specs.declared.Cursor.{Cursor}
use Rattle.steps.proofs.Clauses.{lay_f_none, ask_t_new}
use Rattle.steps.proofs.Zeros.{unlaid_kept}
use Rattle.integers.specs.Styles.{StyleZ, flow_z, InputZ}
use Rattle.integers.specs.Numbers.{MayZ}
use Rattle.integers.specs.Rows.{RowZ}
use Rattle.integers.specs.Candidates.{candidates_fz}
use Rattle.integers.specs.Widths.{NodeZ}
use Rattle.integers.specs.Stacks.{FrameZ, CursorZ, item_of_z, asked_width_z, question_to_z, past_aside_z, past_hidden_z}
use Rattle.integers.specs.Layout.{LaidZ, StackedZ, align_fz, skip_z, aside_z, lay_tz, lay_fz}
use Rattle.integers.proofs.Clauses.{lay_fz_none}
use Rattle.exact.specs.Near.{Near, wide, minus_is, MayIs}
use Rattle.exact.specs.Read.{style_z}
use Rattle.exact.specs.Trees.{RelT}
use Rattle.exact.specs.Widths.{flow_is}
use Rattle.exact.specs.Probes.{KidIs}
use Rattle.exact.specs.Frames.{InputIs, FrameIs}
use Rattle.exact.specs.Stacks.{OutAt, CursorAt, aside_past_is, hidden_past_is, line_is}
use Rattle.exact.specs.Asked.{asked_kept}
use Rattle.exact.specs.Candidates.{CandsAre, cands_wide, Below, none_listed, more_listed, hidden-listed, aside-listed}
use Rattle.exact.specs.Rows.{RowsT, RowsF, hidden_row_is, aside_row_is, bare_rows}

-- what a subtree of k nodes and D levels is answered, its rows, and the candidates below it
pub record LaidAt (w k D : ℕ) (a : Laid) (z : LaidZ) : Type 0 where
  pub out : OutAt w k D a.out z.out
  pub rows : RowsT 16777215 a.rows z.rows
  pub laid : is_laid (root_t a.rows) ≡ true
  pub below : Below (2 * w + 40960 * D) out.line a.rows z.rows

-- the candidates of the rows of a stack, whatever shift is still to come: l bounds their lines before it
abbrev pub Listed : ℕ → ℕ → Forest Row → Forest RowZ → Type 0
Listed s l ts us = (m : ℕ) (d : Option Float) (e : MayZ) → MayIs m d e → l + m ≤ 2 ^ 24 → (b : ℕ) → CandsAre s (l + m) (candidates_f b (align_f d ts)) (candidates_fz b (align_fz e us))

-- the stack past k nodes, from a cursor whose lines l bounds; rows are still to be lowered
pub record StackedAt (w k D l : ℕ) (s : Stacked) (z : StackedZ) : Type 0 where
  pub last : CursorAt k D s.last z.last
  pub grows : l ≤ last.line
  pub rows : RowsF 7340032 s.rows z.rows
  pub listed : Listed (2 * w + 40960 * suc D) last.line s.rows z.rows

-- ---- a node
kind_is : (s : Style) → (style_z s).kind ≡ s.kind
unfolding style_z
kind_is s = refl

-- the children: what is supposed of them
abbrev pub KidsLay : Forest Node → Forest NodeZ → ℕ → ℕ → Type 0
KidsLay ts us n D =
    (k w : ℕ) (f : Frame) (g : FrameZ) (c : Cursor) (z : CursorZ) → FrameIs w f g → w + 8192 * suc D ≤ 2 ^ 20 → (p : CursorAt k D c z) → k + n ≤ 1023 → StackedAt w (k + n) D p.line (lay_f ts f c) (lay_fz us g z)

abbrev pub TreeLays : Tree Node → Tree NodeZ → ℕ → ℕ → Type 0
TreeLays t u n D =
    (w : ℕ) (q : LayoutInput) (z : InputZ) (x : Float) (k : ℤ) → InputIs w q z → Near x k w → 5120 ≤ w → w + 8192 * D ≤ 2 ^ 20 → LaidAt w n D (lay_t t q x) (lay_tz u z k)

pub kind_at : (s : Style) (r : StyleZ) → r ≡ style_z s → is_leaf r.kind ≡ is_leaf s.kind
kind_at s r e = ap (λ (z : StyleZ). is_leaf z.kind) e ∙ ap is_leaf (kind_is s)

laid_deeper : {w k D E : ℕ} {a : Laid} {z : LaidZ} → LaidAt w k D a z → D ≤ E → LaidAt w k E a z
laid_deeper p u =
    let o = p.out in
    let s = o.sum in
    record {
      out = record { tall = o.tall; line = o.line; is = o.is; low = o.low; sum = omega arith };
      rows = p.rows;
      laid = p.laid;
      below = λ b. cands_wide (p.below b) (omega arith) (omega arith);
    }

-- ---- the stack
pub none_lay : (D : ℕ) → KidsLay none none 0 D
unfolding RowsF
none_lay D k w f g c z p u q v =
    let a = q.low in
    let b = q.sum in
    rw (lay_f_none f c, lay_fz_none g z) (record { last = record { reach = q.reach; line = q.line; is = q.is; low = omega arith; sum = omega arith }; grows = omega arith; rows = tt; listed = λ m d e o i n. none_listed n d e })

-- the rest of the stack, from any cursor past k nodes
abbrev pub RestLays : (Cursor → Stacked) → (CursorZ → StackedZ) → ℕ → ℕ → ℕ → ℕ → Type 0
RestLays r s w k n D = (c : Cursor) (z : CursorZ) (p : CursorAt k D c z) → StackedAt w (k + n) D p.line (r c) (s z)

pub skip_is : (t : Tree Node) (u : Tree NodeZ) (r : Cursor → Stacked) (s : CursorZ → StackedZ) (k j n D w : ℕ) (c : Cursor) (z : CursorZ) → RelT KidIs t u → (q : CursorAt k D c z) → RestLays r s w (k + j) n D → StackedAt w (k + j + n) D q.line (skip c t r) (skip_z z u s)
unfolding skip skip_z RowsF
skip_is t u r s k j n D w c z p q h =
    let next = hidden_past_is k j D q in
    let a = h (past_hidden c) (past_hidden_z z) next.next in
    let x = next.grows in
    let y = a.grows in
    let row = bare_rows KidIs t u 7340032 _ _ (hidden_row_is q.is.count) p in
    record {
      last = a.last;
      grows = omega arith;
      rows = (row, a.rows);
      listed = λ m d e o v b. more_listed _ _ _ _ 7340032 d e b row (hidden-listed KidIs t u m c.count z.count o b) (a.listed m d e o v);
    }

pub aside_is : (t : Tree Node) (u : Tree NodeZ) (r : Cursor → Stacked) (s : CursorZ → StackedZ) (k j n D w : ℕ) (f : Frame) (g : FrameZ) (c : Cursor) (z : CursorZ) → RelT KidIs t u → FrameIs w f g → w ≤ 2 ^ 20 → (q : CursorAt k D c z) → 1 ≤ j → k + j ≤ 1023 → D ≤ 32 → RestLays r s w (k + j) n D
    → StackedAt w (k + j + n) D q.line (aside f c t r) (aside_z g z u s)
unfolding aside aside_z RowsF edges_of
aside_is t u r s k j n D w f g c z p i v q one many deep h =
    let next = aside_past_is k j D q one (omega arith) deep in
    let a = h (past_aside c) (past_aside_z z) next.next in
    let low = q.low in
    let x = next.grows in
    let y = a.grows in
    let far = next.covers in
    let end = minus_is i.width i.inset.right (omega arith) in
    let line = line_is i q.is (omega arith) in
    let row = bare_rows KidIs t u 7340032 _ _ (aside_row_is (wide i.inset.left (lit≤ tt)) (wide line (omega arith)) (wide end (omega arith)) q.is.shown) p in
    record {
      last = a.last;
      grows = omega arith;
      rows = (row, a.rows);
      listed =
          λ m d e o m' b.
          more_listed _ _ _ _ 7340032 d e b row
          (cands_wide (aside-listed KidIs {s = 2 * w + 40960 * suc D} t u m c.shown.0 z.shown o (wide i.inset.left (omega arith)) line (wide end (omega arith)) q.is.shown (omega arith) b) (omega arith) (omega arith))
          (a.listed m d e o m');
    }

pub rows_bits : (t : Tree Row) (u : Tree RowZ) (n : ℕ) → RowsT n t u → (root_t t).bits ≡ (root_t u).bits
unfolding RowsT root_t
rows_bits (node r ks) (node z us) n p = p.0.bits

pub flow_at_lem : (s : Style) (r : StyleZ) → r ≡ style_z s → flow_z r ≡ flow_of s
flow_at_lem s r e = ap flow_z e ∙ flow_is s

pub asks_new : (t : Tree Node) (q : LayoutInput) → is_laid (root_t t).old ≡ false → ask_t t q ≡ lay_t t q zero_f
asks_new t q e = ask_t_new t q (unlaid_kept t q e)

pub kept_at : (u : Tree NodeZ) (s : StyleZ) (g : FrameZ) → (root_t u).style ≡ s → (lay_tz u (question_to_z g (root_t u).style) (pos 0)).out.size.width ≡ asked_width_z g (item_of_z g s)
kept_at u s g e = asked_kept u g ∙ ap (λ (y : StyleZ). asked_width_z g (item_of_z g y)) e

pub deeper : (t : Tree Node) (u : Tree NodeZ) (n D E : ℕ) → TreeLays t u n D → D ≤ E → TreeLays t u n E
deeper t u n D E h a w q z x k i j b c = laid_deeper (h w q z x k i j b (omega arith)) a

pub some_node : (t : Tree Node) → 1 ≤ count_t t
unfolding count_t
some_node (node l ks) = omega arith
