-- Ask once, trust it (request 14): the both-axes size question gives the root's size of a fresh layout.
use Rattle.std.specs.Prelude.{◌≡◌, refl, false, Float, Option, None, Some}
use Rattle.std.proofs.Common.{◌∙◌}
use Rattle.geometry.specs.declared.Size.{Size}
use Rattle.style.specs.Flow.{is_leaf}
use Rattle.style.specs.declared.Style.{Style}
use Rattle.tree.specs.Tree.{Forest, node, map_t, map_f}
use Rattle.tree.proofs.Laws.{map_t_node}
use Rattle.steps.specs.Sizing.{step_a, step_b, step_d}
use Rattle.steps.specs.Page.{Site, Node, blank, cleared}
use Rattle.steps.specs.Probe.{width_pass}
use Rattle.steps.specs.Layout.{lay_t, relaid, fresh}
use Rattle.steps.specs.SizeQuestion.{step_c, size_below, size_of}
use Rattle.steps.specs.declared.LayoutInput.{LayoutInput}
use Rattle.steps.specs.declared.RequestedAxis.TheVariants.{Both}
use Rattle.steps.specs.declared.Sizing.{Sizing}
use Rattle.steps.proofs.Clauses.{block_out}
use Rattle.laws.specs.AskOnce.{laid_size, rest_is, stays, stays_tall, open_width, open_height, both_axes, known_both, LaidSize, frame_size, pass_root, root_of, kind_kept}

-- so does C
module _ (s : Style) (z : Sizing) (k : Size (Option Float)) (found content : Float) where
  abbrev rest : Size Float
  rest = size_below Both z (step_d s z (step_b z k)) found (laid_size z (step_d s z (step_b z k)) found content)

  tall : (w : Float) → (step_b z k).width ≡ Some w → (o : Option Float) → (step_b z k).height ≡ o → step_c Both (Some w) o rest ≡ laid_size z (step_d s z (step_b z k)) found content
  tall w e None g = open_height w rest ∙ rest_is z (step_d s z (step_b z k)) found content
  tall w e (Some h) g = both_axes w h rest ∙ rw (stays s z (step_b z k) w e, stays_tall s z (step_b z k) h g) (known_both z k w h found content g)

  wide : (o : Option Float) → (step_b z k).width ≡ o → step_c Both o (step_b z k).height rest ≡ laid_size z (step_d s z (step_b z k)) found content
  wide None e = open_width (step_b z k).height rest ∙ rest_is z (step_d s z (step_b z k)) found content
  wide (Some w) e = tall w e (step_b z k).height refl

  asked_is : step_c Both (step_b z k).width (step_b z k).height rest ≡ laid_size z (step_d s z (step_b z k)) found content
  asked_is = wide (step_b z k).width refl

block_size : (l : Site) (us : Forest Node) (q : LayoutInput) (found : Float) → is_leaf l.style.kind ≡ false → q.basis ≡ None
    → LaidSize (lay_t (node (root_of l) us) q found).out.size (step_a l.style q.parent) (step_d l.style (step_a l.style q.parent) (step_b (step_a l.style q.parent) q.known)) found
unfolding cleared blank
block_size l us q found e n = rw (block_out (root_of l) us q found (kind_kept l ∙ e)) (frame_size l.style q found _ n)

fresh_size : (l : Site) (ks : Forest Site) (q : LayoutInput) → is_leaf l.style.kind ≡ false → q.basis ≡ None
    → LaidSize (fresh (node l ks) q).out.size (step_a l.style q.parent) (step_d l.style (step_a l.style q.parent) (step_b (step_a l.style q.parent) q.known)) (width_pass (map_t blank (node l ks)) q).found
unfolding fresh relaid
fresh_size l ks q e n =
    let m : map_t blank (node l ks) ≡ node (blank l) (map_f blank ks) = map_t_node blank l ks in
    let r = pass_root (blank l) (map_f blank ks) q in
    rw (m, r.is) (block_size l r.kids q (width_pass (node (blank l) (map_f blank ks)) q).found e n)

-- ---- The both-axes size question gives the size that a layout gives the root. The root of a page that is accepted is no leaf, and a caller's question has no height basis.
pub size_is_laid : (l : Site) (ks : Forest Site) (q : LayoutInput) → is_leaf l.style.kind ≡ false → q.basis ≡ None → size_of (node l ks) q Both ≡ (fresh (node l ks) q).out.size
unfolding size_of
size_is_laid l ks q e n =
    let h = fresh_size l ks q e n in
    rw h.is (asked_is l.style (step_a l.style q.parent) q.known (width_pass (map_t blank (node l ks)) q).found h.content)
