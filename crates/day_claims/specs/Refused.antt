-- Refused events: 1 to 7 leave the day as it was, and after 8, as before the first layout, only a layout helps.
use Rattle.steps.specs.declared.Refusal.TheVariants.{Lengths, Tree, Codes, Numbers, Room, Edits, NotLaid, TooLarge}
use Rattle.steps.specs.declared.Refusal.{Refusal}
use Rattle.std.specs.Prelude.{◌≡◌, refl, Bool, true, false, ◌||◌, List, [], ◌∷◌, ℕ, ◌≤◌, length, get_or, Result, Ok, Err, ⊤}
use Rattle.std.proofs.Common.{sym, ◌∙◌, ne_eqb}
use Rattle.std.proofs.Math.Bool.{true≢false}
use native.Mathlib.Omega.{arith}
use Rattle.style.specs.Codes.{flag_at}
use Rattle.steps.specs.Noes.{paper, refusal_paper, relayout_tested}
use Rattle.steps.specs.Question.{root_input}
use Rattle.steps.specs.Results.{Reply}
use Rattle.laws.specs.Answers.{relayout_accepted}
use Rattle.tables.proofs.Exactly.{relayout-exactly}
use Rattle.layout.specs.Public.{Replied}
use Rattle.outcomes.specs.Left.{LeftBy}
use Rattle.outcomes.proofs.LayoutLaws.{layout-leaves}
use Rattle.outcomes.proofs.Relayout.{relayout-leaves}
use Rattle.day.specs.Day.{Day, edits_of, layout_of, relayout_of, edit_event, call_event, count_after, event_result}
use Rattle.day.specs.declared.Event.{Event}
use Rattle.day.specs.declared.Event.TheVariants as event
use Rattle.day_claims.specs.Called.{Kind, is_as_lent, zeroed, done, relayout-kind, root_laid, zero_marks}

itself : (r : Reply) → Replied r r.answer r.rows r.marks r.words r.numbers
itself r = record { answer_is = refl; paper_is = refl; rows_are = refl; marks_are = refl; words_are = refl; numbers_are = refl }

-- what a call leaves, by the number of its answer
abbrev Leaves : Day → Reply → Type 0
Leaves d r = LeftBy (paper r.answer).0 d.rows r.rows d.marks r.marks d.pairs r.words d.triples r.numbers

layout_does : (d : Day) → Leaves d (layout_of d)
layout_does d = layout-leaves _ _ _ _ _ _ _ (layout_of d).answer (layout_of d).rows (layout_of d).marks (layout_of d).words (layout_of d).numbers (itself (layout_of d))

relayout_does : (d : Day) → Leaves d (relayout_of d)
relayout_does d = relayout-leaves _ _ _ _ _ _ _ _ (relayout_of d).answer (relayout_of d).rows (relayout_of d).marks (relayout_of d).words (relayout_of d).numbers (itself (relayout_of d))

count_stands : (a : Result ℕ Refusal) (c : ℕ) → 1 ≤ (paper a).0 → count_after a c ≡ c
unfolding count_after paper
count_stands (Ok n) c h = absurd (omega arith)
count_stands (Err a) c h = refl

call_lent : (d : Day) (r : Reply) → Leaves d r → 1 ≤ (paper r.answer).0 → (paper r.answer).0 ≤ 7 → (call_event r d).after ≡ d
unfolding call_event
call_lent d r h l m =
    let z = h.is_as_lent l m in
    rw (count_stands r.answer d.page.count l, z.rows, z.marks, z.words, z.numbers)

-- a layout or a relayout refused by 1 to 7 leaves the whole day as it was: page, rows, candidates and list
pub refused_layout_leaves : (d : Day) → 1 ≤ (paper (layout_of d).answer).0 → (paper (layout_of d).answer).0 ≤ 7 → (event_result event.Layout d).after ≡ d
unfolding event_result
refused_layout_leaves d l m = call_lent d (layout_of d) (layout_does d) l m

pub refused_relayout_leaves : (d : Day) → 1 ≤ (paper (relayout_of d).answer).0 → (paper (relayout_of d).answer).0 ≤ 7 → (event_result event.Relayout d).after ≡ d
unfolding event_result
refused_relayout_leaves d l m = call_lent d (relayout_of d) (relayout_does d) l m

-- the root is not laid
abbrev pub Unlaid : Day → Type 0
Unlaid d = flag_at (get_or d.marks 1 0) 0 ≡ false

-- 7, or an earlier number
abbrev pub SevenOrEarlier : Result ℕ Refusal → Type 0
SevenOrEarlier a = (1 ≤ (paper a).0) × ((paper a).0 ≤ 7)

module _ (d : Day) (h : Unlaid d) where
  tests : Result ⊤ Refusal
  tests = relayout_tested d.page.words d.page.numbers d.rows d.marks d.pairs d.triples (edits_of d.page) (root_input d.question)

  no_pass : tests ≡ Ok tt → ⊥
  unfolding tests
  no_pass e = true≢false (sym (root_laid _ _ _ _ _ _ _ _ e) ∙ h)

  seven : (a : Refusal) → tests ≡ Err a → SevenOrEarlier (Err a)
  unfolding tests paper refusal_paper
  seven Lengths e = (omega arith, omega arith)
  seven (Tree i) e = (omega arith, omega arith)
  seven (Codes i) e = (omega arith, omega arith)
  seven (Numbers k) e = (omega arith, omega arith)
  seven Room e = (omega arith, omega arith)
  seven (Edits k) e = (omega arith, omega arith)
  seven NotLaid e = (omega arith, omega arith)
  seven (TooLarge i) e = absurd ((relayout-exactly _ _ _ _ _ _ _ _ (Err (TooLarge i))).only e)

  by_kind : Kind tests d.rows d.marks d.pairs d.triples (relayout_of d) → SevenOrEarlier (relayout_of d).answer
  unfolding tests
  by_kind (is_as_lent a e r) = rw r (seven a e)
  by_kind (zeroed i e z m) = absurd (no_pass e)
  by_kind (done k e) = absurd (no_pass (relayout_accepted _ _ _ _ _ _ _ _ k e).passed)

  pub unlaid-answer : SevenOrEarlier (relayout_of d).answer
  unfolding tests
  unlaid-answer = by_kind (relayout-kind _ _ _ _ _ _ _ _)

-- is there a layout among these events?
unfoldable pub is_layout : Event → Bool
is_layout (event.Number x) = false
is_layout (event.Word x) = false
is_layout (event.Ask a) = false
is_layout event.Relayout = false
is_layout event.Layout = true

unfoldable pub layout_in : List Event → Bool
layout_in [] = false
layout_in (e ∷ es) = is_layout e || layout_in es

pub event_unlaid : (e : Event) (d : Day) → is_layout e ≡ false → Unlaid d → Unlaid (event_result e d).after
unfolding event_result edit_event is_layout
event_unlaid (event.Number x) d n h = h
event_unlaid (event.Word x) d n h = h
event_unlaid (event.Ask a) d n h = h
event_unlaid event.Relayout d n h = let s = unlaid-answer d h in rw (call_lent d (relayout_of d) (relayout_does d) s.0 s.1) h
event_unlaid event.Layout d n h = absurd (true≢false n)

pub or_left : (a b : Bool) → a || b ≡ false → a ≡ false
or_left true b e = e
or_left false b e = refl

pub or_right : (a b : Bool) → a || b ≡ false → b ≡ false
or_right true b e = absurd (true≢false e)
or_right false b e = e

pub eight_unlaid : (e : Event) (d : Day) → (paper (event_result e d).answer).0 ≡ 8 → Unlaid (event_result e d).after
unfolding event_result edit_event call_event paper refusal_paper
eight_unlaid (event.Number x) d n = absurd (omega arith)
eight_unlaid (event.Word x) d n = absurd (omega arith)
eight_unlaid (event.Ask a) d n = absurd (omega arith)
eight_unlaid event.Relayout d n = zero_marks (length d.marks) (relayout_of d).marks ((relayout_does d).zeroed n).marks
eight_unlaid event.Layout d n = zero_marks (length d.marks) (layout_of d).marks ((layout_does d).zeroed n).marks
