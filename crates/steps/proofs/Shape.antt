-- The final pass leaves a row for every node: the trees have one shape.
use Rattle.std.specs.Prelude.{Option, None, Some}
use mathlib.Core.Path.{◌≡◌, refl, sym, ap, ◌∙◌}
use mathlib.Core.Bool.{Bool, true, false}
use lib.Ieee.{Float}
use Rattle.geometry.specs.Geometry.{zero_f}
use Rattle.tree.specs.Tree.{Tree, Forest, node, none, more, map_t, map_f, on_root}
use Rattle.tree.proofs.Laws.{map_f_none, map_f_more, map_map_t, map_map_f}
use Rattle.style.specs.Flow.{is_leaf, flow_of}
use Rattle.steps.specs.Stack.{question_to, past_aside, past_hidden}
use Rattle.steps.specs.Row.{Row, no_row}
use Rattle.steps.specs.Page.{Node}
use Rattle.steps.specs.Kept.{Laid, kept, keep, fix_t, fix_f, zeros_t, zeros_f}
use Rattle.steps.specs.Layout.{Stacked, lay_t, lay_f, ask_t, skip, aside, place, lower_f, align_f}
use Rattle.style.specs.declared.Flow.{Flow}
use Rattle.style.specs.declared.Flow.TheVariants.{Gone, Out, In}
use Rattle.steps.specs.declared.LayoutInput.{LayoutInput}
use Rattle.steps.specs.declared.Frame.{Frame}
use Rattle.steps.specs.declared.Cursor.{Cursor}
use Rattle.steps.proofs.Clauses.{style_t, leaf_rows, block_rows, lay_f_none, lay_f_gone, lay_f_out, lay_f_in, ask_t_kept, ask_t_new, fix_t_at, fix_f_none, fix_f_more}

-- a tree without its labels
abbrev pub mute : {A : Type 0} → A → Unit {0}
mute a = tt

pub shape_on : (f : Row → Row) (u : Tree Row) → map_t mute (on_root f u) ≡ map_t mute u
unfolding on_root map_t
shape_on f (node r ks) = refl

shape_low : (d : Float) (ts : Forest Row) → map_f mute (lower_f d ts) ≡ map_f mute ts
unfolding lower_f on_root map_t
shape_low d none = refl
shape_low d (more (node r ks) ts) = ap (more (map_t mute (node r ks))) (shape_low d ts)

shape_align : (d : Option Float) (ts : Forest Row) → map_f mute (align_f d ts) ≡ map_f mute ts
unfolding align_f
shape_align None ts = refl
shape_align (Some d) ts = shape_low d ts

pub shape_zeros_t : {A : Type 0} (t : Tree A) → map_t mute (zeros_t t) ≡ map_t mute t
unfolding zeros_t
shape_zeros_t {A} t = map_map_t mute (λ (_ : A). no_row) t

shape_zeros_f : {A : Type 0} (ts : Forest A) → map_f mute (zeros_f ts) ≡ map_f mute ts
unfolding zeros_f
shape_zeros_f {A} ts = map_map_f mute (λ (_ : A). no_row) ts

-- below a kept node
fix_shape_node : (n : Node) (ks : Forest Node) → map_f mute (fix_f ks) ≡ map_f mute ks → map_t mute (fix_t (node n ks)) ≡ map_t mute (node n ks)
unfolding map_t
fix_shape_node n ks h = go (flow_of n.site.style) refl
  where
    go : (w : Flow) → flow_of n.site.style ≡ w → map_t mute (fix_t (node n ks)) ≡ map_t mute (node n ks)
    go Gone e = ap (map_t mute) (fix_t_at n ks Gone e) ∙ ap (node tt) (shape_zeros_f ks)
    go Out e = ap (map_t mute) (fix_t_at n ks Out e) ∙ ap (node tt) (shape_zeros_f ks)
    go In e = ap (map_t mute) (fix_t_at n ks In e) ∙ ap (node tt) h

mutual
  fix_shape_t : (t : Tree Node) → map_t mute (fix_t t) ≡ map_t mute t
  fix_shape_t (node n ks) = fix_shape_node n ks (fix_shape_f ks)

  fix_shape_f : (ts : Forest Node) → map_f mute (fix_f ts) ≡ map_f mute ts
  fix_shape_f none = ap (map_f mute) fix_f_none ∙ map_f_none mute ∙ sym (map_f_none mute)
  fix_shape_f (more t ts) = rw (fix_f_more, map_f_more, map_f_more, fix_shape_t t, fix_shape_f ts)

keep_shape : (t : Tree Node) → map_t mute (keep t).rows ≡ map_t mute t
unfolding keep map_t
keep_shape (node n ks) = ap (node tt) (fix_shape_f ks)

-- both passes, for any old rows
node_shape : (n : Node) (ks : Forest Node) (q : LayoutInput) (found : Float) → ((f : Frame) (c : Cursor) → map_f mute (lay_f ks f c).rows ≡ map_f mute ks) → map_t mute (lay_t (node n ks) q found).rows ≡ map_t mute (node n ks)
unfolding map_t
node_shape n ks q found h = go (is_leaf n.site.style.kind) refl
  where
    go : (b : Bool) → is_leaf n.site.style.kind ≡ b → map_t mute (lay_t (node n ks) q found).rows ≡ map_t mute (node n ks)
    go true e = ap (map_t mute) (leaf_rows n ks q found e) ∙ ap (node tt) (shape_zeros_f ks)
    go false e = ap (map_t mute) (block_rows n ks q found e) ∙ ap (node tt) (shape_align _ _ ∙ h _ _)

ask_shape : (t : Tree Node) (q : LayoutInput) → map_t mute (lay_t t q zero_f).rows ≡ map_t mute t → map_t mute (ask_t t q).rows ≡ map_t mute t
ask_shape t q h = go (kept t q) refl
  where
    go : (b : Bool) → kept t q ≡ b → map_t mute (ask_t t q).rows ≡ map_t mute t
    go true e = ap (λ (l : Laid). map_t mute l.rows) (ask_t_kept t q e) ∙ keep_shape t
    go false e = ap (λ (l : Laid). map_t mute l.rows) (ask_t_new t q e) ∙ h

more_shape : (t : Tree Node) (ts : Forest Node) (f : Frame) (c : Cursor) → ((q : LayoutInput) → map_t mute (ask_t t q).rows ≡ map_t mute t) → ((d : Cursor) → map_f mute (lay_f ts f d).rows ≡ map_f mute ts)
    → map_f mute (lay_f (more t ts) f c).rows ≡ map_f mute (more t ts)
unfolding skip aside place
more_shape t ts f c h r = rw (map_f_more mute t ts) (go (flow_of (style_t t)) refl)
  where
    go : (w : Flow) → flow_of (style_t t) ≡ w → map_f mute (lay_f (more t ts) f c).rows ≡ more (map_t mute t) (map_f mute ts)
    go Gone e = rw (lay_f_gone t ts f c e, map_f_more, shape_on, shape_zeros_t t, r (past_hidden c))
    go Out e = rw (lay_f_out t ts f c e, map_f_more, shape_on, shape_zeros_t t, r (past_aside c))
    go In e = rw (lay_f_in t ts f c e, map_f_more, shape_on, h (question_to f (style_t t)), r _)

mutual
  pub shape_t : (t : Tree Node) (q : LayoutInput) (found : Float) → map_t mute (lay_t t q found).rows ≡ map_t mute t
  shape_t (node n ks) q found = node_shape n ks q found (λ f c. shape_f ks f c)

  pub shape_f : (ts : Forest Node) (f : Frame) (c : Cursor) → map_f mute (lay_f ts f c).rows ≡ map_f mute ts
  shape_f none f c = ap (λ (s : Stacked). map_f mute s.rows) (lay_f_none f c) ∙ map_f_none mute ∙ sym (map_f_none mute)
  shape_f (more t ts) f c = more_shape t ts f c (λ q. ask_shape t q (shape_t t q zero_f)) (λ d. shape_f ts f d)

pub shape_ask : (t : Tree Node) (q : LayoutInput) → map_t mute (ask_t t q).rows ≡ map_t mute t
shape_ask t q = ask_shape t q (shape_t t q zero_f)
