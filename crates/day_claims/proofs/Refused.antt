-- Refused events: 1 to 7 leave the day as it was, and after 8, as before the first layout, only a layout helps.
use Rattle.std.specs.Prelude.{◌≡◌, false, List, [], ◌∷◌, length}
use Rattle.steps.specs.Noes.{paper}
use Rattle.day.specs.Day.{Day, relayout_of, event_result, day_after}
use Rattle.day.specs.declared.Event.{Event}
use Rattle.day_claims.specs.Called.{zero_marks}
use Rattle.day_claims.specs.Replay.{Starts}
use Rattle.day_claims.specs.Refused.{Unlaid, SevenOrEarlier, unlaid-answer, is_layout, layout_in, event_unlaid, or_left, or_right, eight_unlaid}

day_unlaid : (es : List Event) (d : Day) → layout_in es ≡ false → Unlaid d → Unlaid (day_after es d)
unfolding day_after layout_in
day_unlaid [] d n h = h
day_unlaid (e ∷ es) d n h = day_unlaid es (event_result e d).after (or_right (is_layout e) (layout_in es) n) (event_unlaid e d (or_left (is_layout e) (layout_in es) n) h)

-- After an event that answered 8, and any events but a layout, a relayout answers 7 or an earlier number.
pub after_eight : (e : Event) (d : Day) → (paper (event_result e d).answer).0 ≡ 8 → (es : List Event) → layout_in es ≡ false → SevenOrEarlier (relayout_of (day_after es (event_result e d).after)).answer
after_eight e d n es l = unlaid-answer (day_after es (event_result e d).after) (day_unlaid es (event_result e d).after l (eight_unlaid e d n))

-- So it does from zero rows, before the first layout.
pub before_a_layout : (d : Day) → Starts d → (es : List Event) → layout_in es ≡ false → SevenOrEarlier (relayout_of (day_after es d)).answer
before_a_layout d s es l = unlaid-answer (day_after es d) (day_unlaid es d l (zero_marks (length d.marks) d.marks s.marks_zero))
