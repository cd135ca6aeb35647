-- Rows that differ in their place alone say the same of baselines; the first child of a stack that has one, before and after M.
use Rattle.std.specs.Prelude.{◌≡◌, refl, Float, Option, None, Some}
use Rattle.std.proofs.Common.{◌∙◌, inl, inr}
use Rattle.geometry.specs.Floats.{◌⊕◌}
use Rattle.util.specs.Maybe.{add_opt}
use Rattle.tree.specs.Tree.{Forest, none, more, root_t}
use Rattle.steps.specs.Row.{Row, lowered}
use Rattle.steps.specs.Page.{Site}
use Rattle.steps.specs.Baseline.{shifted}
use Rattle.steps.specs.Layout.{lower_f, align_f}
use Rattle.baseline.specs.Carried.{FirstF}
use Rattle.baseline.specs.Origins.{some_some, no_some, lower_alike, OriginF, plain_first, root_on, lower_here}

pub lower_first : (d : Float) (ks : Forest Site) (us : Forest Row) (b : Float) → OriginF ks us b → FirstF ks (lower_f d us) (b ⊕ d)
unfolding lower_f
lower_first d none us b h = h
lower_first d (more t ts) none b h = h
lower_first d (more t ts) (more u us) b (inl h) = inl (lower_here d t u b h)
lower_first d (more t ts) (more u us) b (inr h) = inr (rw (root_on (lowered d) u) ((lower_alike d).has (root_t u) ∙ h.0), lower_first d ts us b h.1)

-- a baseline that M moved, of one that was found
pub align_first : (d : Option Float) (o : Option Float) (ks : Forest Site) (us : Forest Row) (b : Float) → ((x : Float) → o ≡ Some x → OriginF ks us x) → shifted o d ≡ Some b → FirstF ks (align_f d us) b
unfolding align_f shifted add_opt
align_first None o ks us b h e = plain_first ks us b (h b e)
align_first (Some d) None ks us b h e = no_some b e
align_first (Some d) (Some x) ks us b h e = rw (some_some (x ⊕ d) b e) at (lower_first d ks us x (h x refl))
