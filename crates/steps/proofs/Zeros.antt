-- Rows of zeros: those of a changed tree are those of the tree, and they answer no question.
use mathlib.Core.Path.{◌≡◌, refl, ap, ◌∙◌}
use mathlib.Core.Bool.{Bool, false, not, ◌&&◌}
use Rattle.limits.specs.Bools.{and_false}
use Rattle.tree.specs.Tree.{Tree, Forest, map_t, map_f, root_t}
use Rattle.tree.proofs.Laws.{map_map_t, map_map_f}
use Rattle.steps.specs.Row.{Row, no_row, bare, is_laid}
use Rattle.steps.specs.Page.{Cell, Node, any_t, edits}
use Rattle.steps.specs.Probe.{probe_stands, answered}
use Rattle.steps.specs.Kept.{final_stands, edited_node, kept, zeros_t, zeros_f}
use Rattle.steps.specs.declared.ProbeInput.{ProbeInput}
use Rattle.steps.specs.declared.LayoutInput.{LayoutInput}

pub zeros_t_lem : {A B : Type 0} (f : A → B) (t : Tree A) → zeros_t (map_t f t) ≡ zeros_t t
unfolding zeros_t
zeros_t_lem f t = map_map_t (λ _. no_row) f t

pub zeros_f_lem : {A B : Type 0} (f : A → B) (ts : Forest A) → zeros_f (map_f f ts) ≡ zeros_f ts
unfolding zeros_f
zeros_f_lem f ts = map_map_f (λ _. no_row) f ts

pub no_row_lem : is_laid no_row ≡ false
unfolding is_laid no_row bare
no_row_lem = refl

-- an old row of zeros is not kept
pub unlaid_kept : (t : Tree Node) (q : LayoutInput) → is_laid (root_t t).old ≡ false → kept t q ≡ false
unfolding kept final_stands
unlaid_kept t q e = rw e (ap (λ (b : Bool). not (any_t edited_node t) && b) (and_false (not (root_t t).anew)) ∙ and_false (not (any_t edited_node t)))

-- and answers no probe
pub unprobed : (q : ProbeInput) (r : Row) → r ≡ no_row → probe_stands q r ≡ false
unfolding probe_stands no_row bare
unprobed q r e = rw e

pub not_answered : (t : Tree Cell) (q : ProbeInput) → probe_stands q (root_t t).old ≡ false → answered t q ≡ false
unfolding answered
not_answered t q e = rw e (and_false (not (any_t edits t)))
