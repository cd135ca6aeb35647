-- How a node takes part in its parent: hidden, out of flow or in flow.
use Rattle.std.specs.Prelude.{Bool, true, false, ℕ}
use Rattle.style.specs.Codes.{code_at, kind_of, position_of}
use Rattle.style.specs.declared.Kind.{Kind}
use Rattle.style.specs.declared.Kind.TheVariants.{Block, Leaf, Hidden}
use Rattle.style.specs.declared.Position.{Position}
use Rattle.style.specs.declared.Position.TheVariants.{Static, Relative, Absolute}
use Rattle.style.specs.declared.Flow.{Flow}
use Rattle.style.specs.declared.Flow.TheVariants.{Gone, Out, In}
use Rattle.style.specs.declared.Style.{Style}

-- plain and relative are in flow
unfoldable pub positioned : Position → Flow
positioned Static = In
positioned Relative = In
positioned Absolute = Out

-- hidden wins over out of flow
unfoldable pub flow_by : Kind → Position → Flow
flow_by Block p = positioned p
flow_by Leaf p = positioned p
flow_by Hidden p = Gone

-- of a style word, and of a style
unfoldable pub flow_at : ℕ → Flow
flow_at w = flow_by (kind_of (code_at w 0)) (position_of (code_at w 2))

unfoldable pub flow_of : Style → Flow
flow_of s = flow_by s.kind s.position

unfoldable pub is_in : Flow → Bool
is_in Gone = false
is_in Out = false
is_in In = true

unfoldable pub is_leaf : Kind → Bool
is_leaf Block = false
is_leaf Leaf = true
is_leaf Hidden = false
