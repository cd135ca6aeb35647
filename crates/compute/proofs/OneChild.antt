-- One child of the stack: the rest of the stack stands behind it, and the cursor counts it.
use mathlib.Core.Path.{◌≡◌, refl, ◌∙◌}
use mathlib.Core.Bool.{Bool, true, false, cond}
use Prim.Native.Nat.{◌+◌, ◌≤◌}
use native.Mathlib.Omega.{arith}
use Rattle.tree.specs.Tree.{Tree, Forest, more, root_t}
use Rattle.style.specs.Flow.{flow_of}
use Rattle.steps.specs.Stack.{question_to, stepped, past_aside, past_hidden, past_through, past_box, item_of}
use Rattle.steps.specs.Page.{Node}
use Rattle.steps.specs.Layout.{Stacked, skip, aside, place, lay_f, ask_t}
use Rattle.style.specs.declared.Flow.{Flow}
use Rattle.style.specs.declared.Flow.TheVariants.{Gone, Out, In}
use Rattle.steps.specs.declared.Frame.{Frame}
use Rattle.steps.specs.declared.Cursor.{Cursor}
use Rattle.steps.specs.declared.BlockItem.{BlockItem}
use Rattle.steps.specs.declared.LayoutOutput.{LayoutOutput}
use Rattle.steps.proofs.Clauses.{by_flow, style_t, place_in, lay_f_at}
use Rattle.compute.proofs.Placed.{Placed, placed_in, placed_by, placed_t}

-- the rest of the stack, behind one child
abbrev pub and_then : Placed → (Cursor → Stacked) → Stacked
and_then p rest = record { last = (rest p.last).last; rows = more p.rows (rest p.last).rows }

more_by : (t : Tree Node) (ts : Forest Node) (f : Frame) (c : Cursor) (w : Flow) → by_flow w (skip c t (lay_f ts f)) (aside f c t (lay_f ts f)) (place_in t ts f c) ≡ and_then (placed_by w f c t) (lay_f ts f)
unfolding skip aside place placed_by placed_in
more_by t ts f c Gone = refl
more_by t ts f c Out = refl
more_by t ts f c In = refl

pub lay_f_more : (t : Tree Node) (ts : Forest Node) (f : Frame) (c : Cursor) → lay_f (more t ts) f c ≡ and_then (placed_t f c t) (lay_f ts f)
unfolding placed_t
lay_f_more t ts f c = lay_f_at t ts f c (flow_of (style_t t)) refl ∙ more_by t ts f c (flow_of (style_t t))

-- the cursor counts one more
step_counts : (f : Frame) (c : Cursor) (b : Bool) (x y : Cursor) → (x.count ≡ c.count + 1) × (x.shown.0 ≡ c.shown.0 + 1) → (y.count ≡ c.count + 1) × (y.shown.0 ≡ c.shown.0 + 1)
    → ((cond b x y).count ≡ c.count + 1) × ((cond b x y).shown.0 ≡ c.shown.0 + 1)
step_counts f c true x y p q = p
step_counts f c false x y p q = q

pub stepped_counts : (f : Frame) (c : Cursor) (i : BlockItem) (o : LayoutOutput) → ((stepped f c i o).count ≡ c.count + 1) × ((stepped f c i o).shown.0 ≡ c.shown.0 + 1)
unfolding stepped past_through past_box
stepped_counts f c i o = step_counts f c o.through _ _ (refl, refl) (refl, refl)

counts_by : (f : Frame) (c : Cursor) (t : Tree Node) (w : Flow) → ((placed_by w f c t).last.count ≡ c.count + 1) × ((placed_by w f c t).last.shown.0 ≤ c.shown.0 + 1)
unfolding placed_by placed_in past_hidden past_aside
counts_by f c t Gone = (refl, omega arith)
counts_by f c t Out = (refl, omega arith)
counts_by f c t In =
    let h = stepped_counts f c (item_of f (root_t t).site.style) (ask_t t (question_to f (root_t t).site.style)).out in
    (h.0, omega arith)

pub counts_more : (f : Frame) (c : Cursor) (t : Tree Node) → ((placed_t f c t).last.count ≡ c.count + 1) × ((placed_t f c t).last.shown.0 ≤ c.shown.0 + 1)
unfolding placed_t
counts_more f c t = counts_by f c t (flow_of (root_t t).site.style)
