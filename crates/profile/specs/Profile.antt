-- The whole-pixel profile (request 12): a page of whole pixels, at most 1,024 in magnitude.
--   pixel lengths, and no fraction                                 whole_length; sizes: whole_sizes; sides: whole_sides
--   leaf numbers                                                   whole_table, and number 27 (of_profile)
--   no ratio, whole scrollbars, no center                          plain_style, over centers
--   no child with two auto side margins                            two_autos (of_profile)
--   question numbers                                               whole_question
-- a node: of_profile; the yes or no with its place: profile_spot.
use Rattle.geometry.specs.declared.Size.{Size}
use Rattle.geometry.specs.declared.Rect.{Rect}
use Rattle.std.specs.Prelude.{Bool, true, false, cond, not, ◌&&◌, ◌||◌, List, ℕ, eqb, Float, Option, None, Some, is_some}
use Rattle.length.specs.Length.{is_auto}
use Rattle.length.specs.Available.{definite}
use Rattle.length.specs.declared.Length.{Length}
use Rattle.length.specs.declared.Length.TheVariants.{Auto, Pixels, Fraction}
use Rattle.style.specs.Style.{number_at, style_at}
use Rattle.style.specs.declared.AlignContent.{AlignContent}
use Rattle.style.specs.declared.AlignContent.TheVariants.{Normal, Start, Center, End, SpaceBetween, SpaceAround, SpaceEvenly, Stretch}
use Rattle.style.specs.declared.Measure.{Measure}
use Rattle.style.specs.declared.Style.{Style}
use Rattle.steps.specs.Scan.{first_of}
use Rattle.steps.specs.Page.{nodes_in}
use Rattle.steps.specs.declared.LayoutInput.{LayoutInput}
use Rattle.whole.specs.Test.{pixel}

-- a pixel length is a whole pixel; what an auto field holds is no length; a fraction is not of the profile
abbrev pub whole_length : Length → Bool
whole_length Auto = true
whole_length (Pixels x) = pixel x
whole_length (Fraction f) = false

-- a number that may be missing is a whole pixel where it is there
abbrev pub whole_option : Option Float → Bool
whole_option None = true
whole_option (Some x) = pixel x

-- center, and the two words that act as center
abbrev pub centers : AlignContent → Bool
centers Normal = false
centers Start = false
centers Center = true
centers End = false
centers SpaceBetween = false
centers SpaceAround = true
centers SpaceEvenly = true
centers Stretch = false

abbrev pub whole_size : Size Length → Bool
whole_size l = whole_length l.width && whole_length l.height

abbrev pub whole_rect : Rect Length → Bool
whole_rect l = whole_length l.top && (whole_length l.right && (whole_length l.bottom && whole_length l.left))

-- size, minimum and maximum; margin, padding, border and inset
unfoldable pub whole_sizes : Style → Bool
whole_sizes s = whole_size s.size && (whole_size s.min && whole_size s.max)

unfoldable pub whole_sides : Style → Bool
whole_sides s = whole_rect s.margin && (whole_rect s.padding && (whole_rect s.border && whole_rect s.inset))

-- leaf numbers 24 to 26
abbrev pub whole_table : Measure → Bool
whole_table m = pixel m.least && (pixel m.most && pixel m.height)

-- no ratio, a whole scrollbar, no center
unfoldable pub plain_style : Style → Bool
plain_style s = not (is_some s.ratio) && (pixel s.scrollbar && not (centers s.align))

-- the list at a style, whatever its kind
unfoldable pub profile_style : Style → Bool
profile_style s = whole_sizes s && (whole_sides s && (whole_table s.measure && plain_style s))

-- both side margins are auto
abbrev pub two_autos : Style → Bool
two_autos s = is_auto s.margin.left && is_auto s.margin.right

-- node i of lent tables: its style; number 27, a leaf number whatever bit 16 says; and the root alone may have two auto side margins
unfoldable pub of_profile : List ℕ → List Float → ℕ → Bool
of_profile ws xs i = profile_style (style_at ws i xs i) && (pixel (number_at xs i 27) && (eqb i 0 || not (two_autos (style_at ws i xs i))))

unfoldable pub outside : List ℕ → List Float → ℕ → Bool
outside ws xs i = not (of_profile ws xs i)

-- a question's numbers
abbrev pub whole_question : LayoutInput → Bool
whole_question q =
    whole_option q.known.width && (whole_option q.known.height && (whole_option q.parent && (whole_option q.basis && whole_option (definite q.available))))

-- The yes or no: nowhere, or the lowest node that is not of the profile, or n where the question alone is not.
unfoldable pub else_at : Option ℕ → Bool → ℕ → Option ℕ
else_at (Some k) whole n = Some k
else_at None whole n = cond whole None (Some n)

unfoldable pub profile_spot : List ℕ → List Float → LayoutInput → Option ℕ
profile_spot ws xs q = else_at (first_of (outside ws xs) (nodes_in ws)) (whole_question q) (nodes_in ws)
