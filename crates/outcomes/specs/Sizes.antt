-- A size question: each of its answers exactly if it is due.
use Rattle.steps.specs.declared.Refusal.TheVariants.{Lengths, Tree, Codes, Numbers, Room, Edits, NotLaid, TooLarge}
use Rattle.steps.specs.declared.Refusal.{Refusal}
use Rattle.std.specs.Prelude.{◌≡◌, Bool, true, false, ◌||◌, List, [], ℕ, Float, Result, Ok, Err}
use Rattle.geometry.specs.declared.Size.{Size}
use Rattle.limits.specs.Limits.{too_large}
use Rattle.steps.specs.Page.{page_of}
use Rattle.steps.specs.SizeQuestion.{size_of}
use Rattle.steps.specs.declared.LayoutInput.{LayoutInput}
use Rattle.steps.specs.declared.RequestedAxis.{RequestedAxis}
use Rattle.tables.specs.Refusals.{SizeDue}

-- one of the two numbers is too large
abbrev pub large_size : Size Float → Bool
large_size s = too_large s.width || too_large s.height

module _ (ws : List ℕ) (xs : List Float) (q : LayoutInput) (axis : RequestedAxis) where
  abbrev pub whole : Size Float
  whole = size_of (page_of ws xs []) q axis

  -- 1 to 4: what the tests refuse for; 8, at place 0: they pass, and the size is too large; 0: they pass, it is not, and this is the size
  abbrev pub SizeGiven : Result (Size Float) Refusal → Type 0
  SizeGiven (Ok s) = SizeDue ws xs q (Ok tt) × (large_size whole ≡ false) × (s ≡ whole)
  SizeGiven (Err (TooLarge i)) = SizeDue ws xs q (Ok tt) × (large_size whole ≡ true) × (i.0 ≡ 0)
  SizeGiven (Err Lengths) = SizeDue ws xs q (Err Lengths)
  SizeGiven (Err (Tree i)) = SizeDue ws xs q (Err (Tree i))
  SizeGiven (Err (Codes i)) = SizeDue ws xs q (Err (Codes i))
  SizeGiven (Err (Numbers k)) = SizeDue ws xs q (Err (Numbers k))
  SizeGiven (Err Room) = ⊥
  SizeGiven (Err (Edits k)) = ⊥
  SizeGiven (Err NotLaid) = ⊥
