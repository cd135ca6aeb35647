-- The whole result of each call asked as profile (request 12): 1 to 4, then 11, then the plain call's result.
use Rattle.steps.specs.declared.Refusal.{Refusal}
use Rattle.profiled.specs.declared.ProfileRefusal.TheVariants.{Plain, Outside}
use Rattle.profiled.specs.declared.ProfileRefusal.{ProfileRefusal}
use Rattle.std.specs.Prelude.{List, ℕ, Float, Option, None, Some, Result, Ok, Err, ⊤}
use Rattle.geometry.specs.Geometry.{zero_f}
use Rattle.geometry.specs.declared.Size.{Size}
use Rattle.steps.specs.SizeQuestion.{axes}
use Rattle.steps.specs.Noes.{refusal_paper, size_tested}
use Rattle.steps.specs.Results.{Reply, layout_result, relayout_result, size_result}
use Rattle.steps.specs.declared.LayoutInput.{LayoutInput}
use Rattle.steps.specs.declared.RequestedAxis.{RequestedAxis}
use Rattle.tables.specs.Early.{early_tested}
use Rattle.profile.specs.Profile.{profile_spot}

-- number and place of a refusal: 11 is the request's own
unfoldable pub no_paper : ProfileRefusal → ℕ × ℕ
no_paper (Plain a) = refusal_paper a
no_paper (Outside k) = (11, k)

-- and of an answer: 0 and the count, or the refusal's
unfoldable pub profile_paper : Result ℕ ProfileRefusal → ℕ × ℕ
profile_paper (Ok n) = (0, n)
profile_paper (Err a) = no_paper a

-- what a plain call answers, as one of these
unfoldable pub plainly : {T : Type 0} → Result T Refusal → Result T ProfileRefusal
plainly (Ok x) = Ok x
plainly (Err a) = Err (Plain a)

-- the same of a size answer, and its size, 0x0 if refused
unfoldable pub profile_size_paper : Result (Size Float) ProfileRefusal → (ℕ × ℕ) × Size Float
profile_size_paper (Ok s) = ((0, 0), s)
profile_size_paper (Err a) = (no_paper a, axes zero_f zero_f)

-- 1 to 4, then 11 at its place
unfoldable pub profile_tested : Result ⊤ Refusal → Option ℕ → Result ⊤ ProfileRefusal
profile_tested (Err a) s = Err (Plain a)
profile_tested (Ok _) (Some k) = Err (Outside k)
profile_tested (Ok _) None = Ok tt

-- the answer, the rows' numbers and words, the candidates' words and numbers
pub record ProfileReply : Type 0 where
  pub answer : Result ℕ ProfileRefusal
  pub rows : List Float
  pub marks : List ℕ
  pub words : List ℕ
  pub numbers : List Float

-- a refusal leaves all as lent; else the plain call's result
unfoldable pub profile_reply : Result ⊤ ProfileRefusal → Reply → List Float → List ℕ → List ℕ → List Float → ProfileReply
profile_reply (Err a) r rs ms cw cx = record { answer = Err a; rows = rs; marks = ms; words = cw; numbers = cx }
profile_reply (Ok _) r rs ms cw cx = record { answer = plainly r.answer; rows = r.rows; marks = r.marks; words = r.words; numbers = r.numbers }

unfoldable pub profiled_layout_result : List ℕ → List Float → List Float → List ℕ → List ℕ → List Float → LayoutInput → ProfileReply
profiled_layout_result ws xs rs ms cw cx q =
    profile_reply (profile_tested (early_tested ws xs rs ms q) (profile_spot ws xs q)) (layout_result ws xs rs ms cw cx q) rs ms cw cx

unfoldable pub profiled_relayout_result : List ℕ → List Float → List Float → List ℕ → List ℕ → List Float → List ℕ → LayoutInput → ProfileReply
profiled_relayout_result ws xs rs ms cw cx es q =
    profile_reply (profile_tested (early_tested ws xs rs ms q) (profile_spot ws xs q)) (relayout_result ws xs rs ms cw cx es q) rs ms cw cx

unfoldable pub size_or : Result ⊤ ProfileRefusal → Result (Size Float) ProfileRefusal → Result (Size Float) ProfileRefusal
size_or (Err a) s = Err a
size_or (Ok _) s = s

unfoldable pub profiled_size_result : List ℕ → List Float → LayoutInput → RequestedAxis → Result (Size Float) ProfileRefusal
profiled_size_result ws xs q a = size_or (profile_tested (size_tested ws xs q) (profile_spot ws xs q)) (plainly (size_result ws xs q a))

-- the yes or no: 1 to 4 of a size question, then 11, else 0
unfoldable pub yes_by : Result ⊤ ProfileRefusal → Result ℕ ProfileRefusal
yes_by (Err a) = Err a
yes_by (Ok _) = Ok 0

unfoldable pub yes_or_no : List ℕ → List Float → LayoutInput → Result ℕ ProfileRefusal
yes_or_no ws xs q = yes_by (profile_tested (size_tested ws xs q) (profile_spot ws xs q))
