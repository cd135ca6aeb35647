-- Events done one after the other, and their answers printed. Assumes nothing.
use Rattle.std.specs.Prelude.{None, Some}
use mathlib.Core.Path.{◌≡◌, refl, sym, ◌∙◌, ap}
use mathlib.Core.List.{List, [], ◌∷◌, ◌++◌, append-nil, append_assoc}
use Prim.Native.Nat.{ℕ, ◌+◌, ◌-◌, ◌<◌, ◌≤◌}
use lib.ListN.{length, take, drop, drop_of_length-le}
use Rattle.steps.specs.Noes.{paper}
use Rattle.text.specs.Pieces.{lines_of, Ends}
use Rattle.text.specs.Laws.{no_lines}
use Rattle.print.specs.Pen.{Pen, put_all}
use Rattle.print.specs.Text.{answer_text, each}
use Rattle.print.proofs.PenLaws.{then}
use Rattle.rowtext.specs.RowText.{row_line}
use Rattle.day.specs.Day.{Day, Outcome, event_result, day_after, answers_of}
use Rattle.day.specs.declared.Event.{Event}
use Rattle.trace.specs.Event.{event_line, event_of, events_of}
use Rattle.trace.proofs.Lines.{lines_at}
use Rattle.replays.specs.Output.{answers_text, day_text, RunOf}

-- no event
pub ran_none : (d : Day) (p : Pen) → RunOf [] d p d p
unfolding day_after answers_of answers_text put_all
ran_none d p = record { after = refl; printed = refl }

-- one
pub ran_one : (e : Event) (d : Day) (o : Outcome) (p p' : Pen) → o ≡ event_result e d → p' ≡ put_all (answer_text (paper o.answer).0 (paper o.answer).1) p → RunOf (e ∷ []) d p o.after p'
unfolding day_after answers_of answers_text
ran_one e d o p p' h w =
    record {
      after = ap (λ (x : Outcome). x.after) h;
      printed = w ∙ rw (← h) (ap (λ (l : List ℕ). put_all l p) (sym (append-nil (answer_text (paper o.answer).0 (paper o.answer).1))));
    }

days_join : (es fs : List Event) (d : Day) → day_after (es ++ fs) d ≡ day_after fs (day_after es d)
unfolding day_after
days_join [] fs d = refl
days_join (e ∷ es) fs d = days_join es fs (event_result e d).after

texts_join : (es fs : List Event) (d : Day) → answers_text (answers_of (es ++ fs) d) ≡ answers_text (answers_of es d) ++ answers_text (answers_of fs (day_after es d))
unfolding day_after answers_of answers_text
texts_join [] fs d = refl
texts_join (e ∷ es) fs d =
    let a = (event_result e d).answer in
    rw (texts_join es fs (event_result e d).after) (sym (append_assoc (answer_text (paper a).0 (paper a).1) (answers_text (answers_of es (event_result e d).after)) (answers_text (answers_of fs (day_after es (event_result e d).after)))))

-- some, and then some
pub ran_then : (es fs : List Event) (d d1 d2 : Day) (p p1 p2 : Pen) → RunOf es d p d1 p1 → RunOf fs d1 p1 d2 p2 → RunOf (es ++ fs) d p d2 p2
ran_then es fs d d1 d2 p p1 p2 r s =
    record {
      after = s.after ∙ ap (day_after fs) r.after ∙ sym (days_join es fs d);
      printed =
          then (answers_text (answers_of es d)) (answers_text (answers_of fs (day_after es d))) p p1 p2 r.printed (rw (← r.after) s.printed)
          ∙ ap (λ (l : List ℕ). put_all l p) (sym (texts_join es fs d));
    }

-- a line that is no event, and one that is
module _ (n : ℕ) (l : List ℕ) where
  pub line-none : event_line n l ≡ None → event_of (event_line n l) ≡ []
  unfolding event_of
  line-none e = rw e

  pub line-one : (x : Event) → event_line n l ≡ Some x → event_of (event_line n l) ≡ x ∷ []
  unfolding event_of
  line-one x e = rw e

-- the events from a place on
pub events_at : (n : ℕ) (s : List ℕ) (at e : ℕ) → at < length s → Ends 10 at s e → events_of n (lines_of (drop at s)) ≡ event_of (event_line n (take (e - at) (drop at s))) ++ events_of n (lines_of (drop (e + 1) s))
unfolding events_of
events_at n s at e h ends = rw (lines_at s at e h ends)

pub events_end : (n : ℕ) (s : List ℕ) (at : ℕ) → length s ≤ at → events_of n (lines_of (drop at s)) ≡ []
unfolding events_of
events_end n s at h = rw (drop_of_length-le s h, no_lines)

-- a turn: what is left leads where all led
pub turn : (n : ℕ) (s : List ℕ) (at e : ℕ) (all : List Event) (d₀ d d1 : Day) (p₀ p p1 : Pen) → at < length s → Ends 10 at s e
    → ((d' : Day) (p' : Pen) → RunOf (events_of n (lines_of (drop at s))) d p d' p' → RunOf all d₀ p₀ d' p')
    → RunOf (event_of (event_line n (take (e - at) (drop at s)))) d p d1 p1
    → (d' : Day) (p' : Pen) → RunOf (events_of n (lines_of (drop (e + 1) s))) d1 p1 d' p' → RunOf all d₀ p₀ d' p'
turn n s at e all d₀ d d1 p₀ p p1 h ends inv one d' p' r =
    inv d' p' (rw (events_at n s at e h ends) (ran_then (event_of (event_line n (take (e - at) (drop at s)))) (events_of n (lines_of (drop (e + 1) s))) d d1 d' p p1 p' one r))

pub last_turn : (n : ℕ) (s : List ℕ) (at : ℕ) (all : List Event) (d₀ d : Day) (p₀ p : Pen) → length s ≤ at
    → ((d' : Day) (p' : Pen) → RunOf (events_of n (lines_of (drop at s))) d p d' p' → RunOf all d₀ p₀ d' p') → RunOf all d₀ p₀ d p
last_turn n s at all d₀ d p₀ p h inv = inv d p (rw (events_end n s at h) (ran_none d p))

-- all answers, then the rows
pub day_shown : (n : ℕ) (es : List Event) (d d' : Day) (p p1 p2 : Pen) → RunOf es d p d' p1 → p2 ≡ put_all (each (row_line d'.rows d'.marks) n) p1 → p2 ≡ put_all (day_text n es d) p
unfolding day_text
day_shown n es d d' p p1 p2 r w =
    then (answers_text (answers_of es d)) (each (row_line (day_after es d).rows (day_after es d).marks) n) p p1 p2 r.printed (rw (← r.after) w)
