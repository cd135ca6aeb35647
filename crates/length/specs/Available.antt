-- The available width: definite, min-content or max-content.
use Rattle.std.specs.Prelude.{Float, Option, None, Some}
use Rattle.geometry.specs.Floats.{◌⊖◌}
use Rattle.length.specs.declared.AvailableSpace.{AvailableSpace}
use Rattle.length.specs.declared.AvailableSpace.TheVariants.{Definite, MinContent, MaxContent}

-- a definite width loses x
unfoldable pub available_less : AvailableSpace → Float → AvailableSpace
available_less (Definite a) x = Definite (a ⊖ x)
available_less MinContent x = MinContent
available_less MaxContent x = MaxContent

-- the definite width, where there is one
unfoldable pub definite : AvailableSpace → Option Float
definite (Definite a) = Some a
definite MinContent = None
definite MaxContent = None
