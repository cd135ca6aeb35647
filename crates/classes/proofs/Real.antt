-- The boxes of a page as the steps lay it out; the stack of Plain on them is the stack of the steps.
use Rattle.std.specs.Prelude.{◌≡◌, refl, Bool, true, false, Float}
use Rattle.std.proofs.Common.{sym, ap, subst, ◌∙◌}
use Rattle.tree.specs.Tree.{Tree, Forest, node, none, more, root_t}
use Rattle.style.specs.Flow.{is_leaf}
use Rattle.steps.specs.Stack.{start_of}
use Rattle.steps.specs.Page.{Node}
use Rattle.steps.specs.Layout.{lay_t}
use Rattle.steps.specs.declared.LayoutInput.{LayoutInput}
use Rattle.steps.proofs.Clauses.{frame_at, style_t, lay_f_none, leaf_out, stack_of}
use Rattle.classes.specs.Margins.{Box}
use Rattle.classes.specs.Stacking.{begin, stack, NotedF}
use Rattle.classes.specs.Real.{box_t, box_f, box_t_at, box_f_none, UnlaidT, UnlaidF, cut, cut_start, Same, same_leaf, same_block, SameT, StackF, stack_none, stack_step, NoteT, NoteF, note_node, note_more}

same_node : (l : Node) (ks : Forest Node) (q : LayoutInput) (found gap : Float) (p : Bool) → (cut (stack_of l ks q found).last ≡ stack (box_f ks (frame_at l q found) (start_of (frame_at l q found))) begin)
    → Same (lay_t (node l ks) q found).out (style_t (node l ks)) q (box_t (node l ks) q found gap p)
unfolding root_t
same_node l ks q found gap p h = go (is_leaf l.site.style.kind) refl
  where
    go : (b : Bool) → is_leaf l.site.style.kind ≡ b → Same (lay_t (node l ks) q found).out l.site.style q (box_t (node l ks) q found gap p)
    go true e = rw (box_t_at l ks q found gap p true e, leaf_out l ks q found e) (same_leaf l q gap p)
    go false e = rw (box_t_at l ks q found gap p false e) (same_block l ks q found gap p _ e h)

mutual
  pub same_t : (t : Tree Node) → UnlaidT t → SameT t
  same_t (node l ks) u = λ q found gap p. same_node l ks q found gap p (stack_f ks u.1 (frame_at l q found) (start_of (frame_at l q found)) ∙ ap (stack (box_f ks (frame_at l q found) (start_of (frame_at l q found)))) (cut_start (frame_at l q found)))

  pub stack_f : (ts : Forest Node) → UnlaidF ts → StackF ts
  stack_f none u = λ f c. ap (λ z. cut z.last) (lay_f_none f c) ∙ sym (ap (λ (z : Forest Box). stack z (cut c)) (box_f_none f c) ∙ stack_none (cut c))
  stack_f (more t ts) u = stack_step t ts u.0 (same_t t u.0) (stack_f ts u.1)

mutual
  pub note_t : (t : Tree Node) → UnlaidT t → NoteT t
  note_t (node l ks) u = note_node l ks (note_f ks u.1)

  pub note_f : (ts : Forest Node) → UnlaidF ts → NoteF ts
  note_f none u = λ f c. subst (λ (z : Forest Box). NotedF z f.ownStart (cut c)) (sym (box_f_none f c)) tt
  note_f (more t ts) u = note_more t ts (same_t t u.0) (note_t t u.0) (note_f ts u.1)
