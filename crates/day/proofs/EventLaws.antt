-- What the functions of one event promise, put together. Assumes nothing.
use Rattle.std.specs.Prelude.{Result}
use Rattle.steps.specs.declared.Refusal.{Refusal}
use mathlib.Core.Path.{◌≡◌, refl, sym, ◌∙◌, ap}
use mathlib.Core.Bool.{Bool, true, false}
use mathlib.Core.List.{List}
use Prim.Native.Nat.{ℕ, min}
use native.Mathlib.Omega.{arith}
use lib.ListN.{length, take}
use lib.Seq.{take_all}
use lib.Dec.{ltb}
use lib.Ieee.{Float}
use borrow.Author.Tests.{ne_eqb, ltb-true, ltb-false}
use Rattle.steps.specs.Noes.{paper}
use Rattle.steps.specs.Results.{Reply}
use Rattle.layout.specs.Public.{Replied}
use Rattle.day.specs.Day.{Outcome, day, left, call_event, count_after, EventReplied}
use Rattle.day.specs.declared.State.{State}
use Rattle.day.specs.declared.Turn.{Turn}

min_by : (c : ℕ) (l : List ℕ) (b : Bool) → ltb c (length l) ≡ b → take (min c (length l)) l ≡ take c l
min_by c l true e =
    let z : min c (length l) ≡ c = omega (arith, ltb-true c (length l) e) in
    rw z
min_by c l false e =
    let z : min c (length l) ≡ length l = omega (arith, ltb-false c (length l) e) in
    rw z (take_all (length l) l (omega arith) ∙ sym (take_all c l (ltb-false c (length l) e)))

-- a list that says more edits than it has room for ends where it ends
pub cut_list : (c : ℕ) (l : List ℕ) → take (min c (length l)) l ≡ take c l
cut_list c l = min_by c l (ltb c (length l)) refl

-- what a layout or a relayout left is the event's outcome
pub called : (s : State) (ws : List ℕ) (xs rs : List Float) (ms cw : List ℕ) (cx : List Float) (l : List ℕ) (want : Reply) (a : Result ℕ Refusal) (c : ℕ) (rs' : List Float) (ms' cw' : List ℕ) (cx' : List Float)
    → Replied want a rs' ms' cw' cx' → c ≡ count_after a s.count
    → left (record { answer = a; state = record { question = s.question; count = c } }) ws xs rs' ms' cw' cx' l ≡ call_event want (day s ws xs rs ms cw cx l)
unfolding call_event
called s ws xs rs ms cw cx l want a c rs' ms' cw' cx' r e = rw (e, r.answer_is, r.rows_are, r.marks_are, r.words_are, r.numbers_are)

-- the outcome has its answer's number and place
pub told : {want : Outcome} {t : Turn} {ws : List ℕ} {xs rs : List Float} {ms cw : List ℕ} {cx : List Float} {l : List ℕ} → left t ws xs rs ms cw cx l ≡ want → EventReplied want t ws xs rs ms cw cx l
told e = record { left_is = e; paper_is = ap (λ (o : Outcome). paper o.answer) e }
