-- What the scroll key answers.
use Rattle.scroll.specs.declared.ScrollRefusal.TheVariants.{NotFinite}
use Rattle.scroll.specs.declared.ScrollRefusal.{ScrollRefusal}
use Rattle.std.specs.Prelude.{◌≡◌, Bool, true, false, cond, List, ℕ, ◌<◌, length, ltb, Float, Option, Result, Ok, Err, Some, None}
use Rattle.limits.specs.Limits.{in_range}
use Rattle.scroll.specs.Running.{lowest_f, highest_f}
use Rattle.scroll.specs.Halving.{beyond, halved}

-- 10: y is a finite number
unfoldable pub is_finite : Float → Bool
is_finite y = in_range y lowest_f highest_f

-- a place below n is a position, n is none
unfoldable pub position : ℕ → ℕ → Result (Option ℕ) ScrollRefusal
position k n = cond (ltb k n) (Ok (Some k)) (Ok None)

-- the whole answer, for any slice and any y
unfoldable pub scroll_answer : List Float → Float → Result (Option ℕ) ScrollRefusal
scroll_answer l y = cond (is_finite y) (position (halved (beyond l y) (length l) 0 (length l)) (length l)) (Err NotFinite)

-- this paper's number and place of each answer, and what was found: a position, or none
unfoldable pub scroll_paper : Result (Option ℕ) ScrollRefusal → (ℕ × ℕ) × Option ℕ
scroll_paper (Ok found) = ((0, 0), found)
scroll_paper (Err NotFinite) = ((10, 0), None)

-- what the call promises: its answer, by its number, place and position too, is the definition's
pub record ScrollReplied (want answer : Result (Option ℕ) ScrollRefusal) : Type 0 where
  pub answer_is : answer ≡ want
  pub paper_is : scroll_paper answer ≡ scroll_paper want

-- what each answer is given for, where the slice is the running largest of these bottoms
abbrev pub ScrollDue : List Float → Float → Result (Option ℕ) ScrollRefusal → Type 0
ScrollDue bs y (Ok (Some k)) = (is_finite y ≡ true) × (k < length bs) × (beyond bs y k ≡ true) × ((j : ℕ) → j < k → beyond bs y j ≡ false)
ScrollDue bs y (Ok None) = (is_finite y ≡ true) × ((j : ℕ) → j < length bs → beyond bs y j ≡ false)
ScrollDue bs y (Err NotFinite) = is_finite y ≡ false
