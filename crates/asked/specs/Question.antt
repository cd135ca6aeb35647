-- The question that four floats and a word ask.
use Rattle.std.specs.Prelude.{Bool, false, cond, ℕ, Float, Option, None, Some}
use Rattle.length.specs.declared.AvailableSpace.{AvailableSpace}
use Rattle.length.specs.declared.AvailableSpace.TheVariants.{Definite, MinContent, MaxContent}
use Rattle.style.specs.Codes.{code_at, flag_at, pick4}
use Rattle.steps.specs.declared.Question.{Question}
use Rattle.steps.specs.declared.RequestedAxis.{RequestedAxis}
use Rattle.steps.specs.declared.RequestedAxis.TheVariants.{Horizontal, Both}

-- a number that is given or none
unfoldable pub given : Bool → Float → Option Float
given b x = cond b (Some x) None

-- the kinds of 01's rows: 1 definite, 2 min-content, 3 max-content; 0 is max-content too
unfoldable pub available_of : ℕ → Float → AvailableSpace
available_of k x = pick4 k MaxContent (Definite x) MinContent MaxContent

-- bit 0 known width given, bit 1 known height given, bits 2-3 the kind of available width, bits 4 and 5 the two flags, bit 7 known height definite
unfoldable pub plain_question : Float → Float → Float → Float → ℕ → Question
plain_question width height parent available how =
    record {
      known = record { width = given (flag_at how 0) width; height = given (flag_at how 1) height };
      parent = parent;
      definiteHeight = flag_at how 7;
      available = available_of (code_at how 1) available;
      collapseStart = flag_at how 4;
      collapseEnd = flag_at how 5;
    }

-- bit 6: width only
unfoldable pub axis_of : ℕ → RequestedAxis
axis_of how = cond (flag_at how 6) Horizontal Both

-- bit 8: asked as profile. Bits from 9 on mean nothing.
unfoldable pub as_profile : ℕ → Bool
as_profile how = flag_at how 8
