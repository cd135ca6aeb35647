-- The final pass leaves the shape of a tree, so the sizes in its table stay.
use mathlib.Core.Path.{◌≡◌, refl, sym, ap, ◌∙◌}
use mathlib.Core.List.{List}
use Prim.Native.Nat.{ℕ}
use native.Mathlib.Omega.{arith}
use lib.ListN.{length}
use lib.Ieee.{Float}
use Rattle.tree.specs.Tree.{Tree, Forest, count_t, count_f, flat_t, flat_f, map_t, map_f, root_t}
use Rattle.tree.proofs.Laws.{length-flatT, length-flatF, flat_map_t, flat_map_f}
use Rattle.style.specs.Flow.{flow_of}
use Rattle.steps.specs.Stack.{question_to}
use Rattle.steps.specs.Page.{Node}
use Rattle.steps.specs.Kept.{zeros_t}
use Rattle.steps.specs.Layout.{lay_t, lay_f, ask_t}
use Rattle.style.specs.declared.Flow.{Flow}
use Rattle.style.specs.declared.Flow.TheVariants.{Gone, Out, In}
use Rattle.steps.specs.declared.LayoutInput.{LayoutInput}
use Rattle.steps.specs.declared.Frame.{Frame}
use Rattle.steps.specs.declared.Cursor.{Cursor}
use Rattle.steps.proofs.Shape.{mute, shape_on, shape_zeros_t, shape_t, shape_f, shape_ask}
use Rattle.walks.specs.Tables.{size_only}
use Rattle.compute.proofs.Placed.{placed_in, placed_by, placed_t}

abbrev pub sizes_t : {A : Type 0} → Tree A → List ℕ
sizes_t t = flat_t size_only t

abbrev pub sizes_f : {A : Type 0} → Forest A → List ℕ
sizes_f ts = flat_f size_only ts

count_sizes_t : {A : Type 0} (t : Tree A) → length (sizes_t t) ≡ count_t t
count_sizes_t t = length-flatT size_only 1 (λ _ _. refl) t ∙ omega arith

count_sizes_f : {A : Type 0} (ts : Forest A) → length (sizes_f ts) ≡ count_f ts
count_sizes_f ts = length-flatF size_only 1 (λ _ _. refl) ts ∙ omega arith

pub same_count_t : {A B : Type 0} (t : Tree A) (u : Tree B) → sizes_t t ≡ sizes_t u → count_t t ≡ count_t u
same_count_t t u e = sym (count_sizes_t t) ∙ ap length e ∙ count_sizes_t u

pub same_count_f : {A B : Type 0} (ts : Forest A) (us : Forest B) → sizes_f ts ≡ sizes_f us → count_f ts ≡ count_f us
same_count_f ts us e = sym (count_sizes_f ts) ∙ ap length e ∙ count_sizes_f us

pub sizes_map : {A B : Type 0} (f : A → B) (t : Tree A) → sizes_t (map_t f t) ≡ sizes_t t
sizes_map f t = flat_map_t size_only f t

pub sizes_map_f : {A B : Type 0} (f : A → B) (ts : Forest A) → sizes_f (map_f f ts) ≡ sizes_f ts
sizes_map_f f ts = flat_map_f size_only f ts

-- trees of one shape have the same sizes
sizes_shape_t : {A B : Type 0} (t : Tree A) (u : Tree B) → map_t mute t ≡ map_t mute u → sizes_t t ≡ sizes_t u
sizes_shape_t t u e = sym (sizes_map mute t) ∙ ap sizes_t e ∙ sizes_map mute u

sizes_shape_f : {A B : Type 0} (ts : Forest A) (us : Forest B) → map_f mute ts ≡ map_f mute us → sizes_f ts ≡ sizes_f us
sizes_shape_f ts us e = sym (sizes_map_f mute ts) ∙ ap sizes_f e ∙ sizes_map_f mute us

pub sizes_lay_t : (t : Tree Node) (q : LayoutInput) (w : Float) → sizes_t (lay_t t q w).rows ≡ sizes_t t
sizes_lay_t t q w = sizes_shape_t (lay_t t q w).rows t (shape_t t q w)

pub sizes_lay_f : (ts : Forest Node) (f : Frame) (c : Cursor) → sizes_f (lay_f ts f c).rows ≡ sizes_f ts
sizes_lay_f ts f c = sizes_shape_f (lay_f ts f c).rows ts (shape_f ts f c)

-- one child of the stack
shape_by : (w : Flow) (f : Frame) (c : Cursor) (t : Tree Node) → map_t mute (placed_by w f c t).rows ≡ map_t mute t
unfolding placed_by placed_in
shape_by Gone f c t = shape_on _ (zeros_t t) ∙ shape_zeros_t t
shape_by Out f c t = shape_on _ (zeros_t t) ∙ shape_zeros_t t
shape_by In f c t = shape_on _ (ask_t t (question_to f (root_t t).site.style)).rows ∙ shape_ask t (question_to f (root_t t).site.style)

pub sizes_placed : (f : Frame) (c : Cursor) (t : Tree Node) → sizes_t (placed_t f c t).rows ≡ sizes_t t
unfolding placed_t
sizes_placed f c t = sizes_shape_t (placed_t f c t).rows t (shape_by (flow_of (root_t t).site.style) f c t)
