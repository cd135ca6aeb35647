use mathlib.Core.Path.{◌≡◌, refl, sym, ap, ◌∙◌}
use mathlib.Core.List.{List}
use Prim.Native.Nat.{ℕ, ◌+◌, ◌*◌, ◌-◌, ◌≤◌}
use native.Mathlib.Omega.{arith}
use borrow.Author.Rules.{rules}
use lib.ListN.{length, length-set}
use lib.Ieee.{Float}
use Rattle.tree.specs.Tree.{Forest}
use Rattle.style.specs.Flow.{flow_at}
use Rattle.steps.specs.Page.{Cell}
use Rattle.walks.specs.Tables.{TabledF}
use Rattle.walks.proofs.KeepLoop.{Rest, Turn, begin, turn, end}
use Rattle.walks.proofs.keep_below.Goals as goal

pub loop-i-init : goal.loop-i-init
loop-i-init c = (refl, refl, omega arith, λ xs es b ts h. begin _ _ _ _ _ _ ts h)

pub overflow_mul-i : goal.overflow_mul-i
overflow_mul-i c = let w = c.requires.fit in omega (arith, c.loop-i.invariant.2)

pub overflow_cast-e : goal.overflow_cast-e
overflow_cast-e c = let at_turn : Turn c.args.words.now c.requires.numbers c.loop-i.rows c.loop-i.marks c.requires.edits c.requires.base c.requires.forest c.loop-i.i (c.loop-i.i + c.word.result) = let s = c.requires in turn _ _ _ _ _ _ s.forest _ _ (ap (λ (k : ℕ). c.loop-i.i + k) c.word.ensures) (c.loop-i.invariant.3 s.numbers s.edits s.base s.forest s.tabled) c.loop-i-test.true in let f = at_turn in let w = c.requires.fit in omega arith

pub overflow_add-e : goal.overflow_add-e
overflow_add-e c = let at_turn : Turn c.args.words.now c.requires.numbers c.loop-i.rows c.loop-i.marks c.requires.edits c.requires.base c.requires.forest c.loop-i.i (c.loop-i.i + c.word.result) = let s = c.requires in turn _ _ _ _ _ _ s.forest _ _ (ap (λ (k : ℕ). c.loop-i.i + k) c.word.ensures) (c.loop-i.invariant.3 s.numbers s.edits s.base s.forest s.tabled) c.loop-i-test.true in let f = at_turn in let w = c.requires.fit in omega arith

pub overflow_mul-i16 : goal.overflow_mul-i16
overflow_mul-i16 c = let at_turn : Turn c.args.words.now c.requires.numbers c.loop-i.rows c.loop-i.marks c.requires.edits c.requires.base c.requires.forest c.loop-i.i (c.loop-i.i + c.word.result) = let s = c.requires in turn _ _ _ _ _ _ s.forest _ _ (ap (λ (k : ℕ). c.loop-i.i + k) c.word.ensures) (c.loop-i.invariant.3 s.numbers s.edits s.base s.forest s.tabled) c.loop-i-test.true in let f = at_turn in let w = c.requires.fit in omega arith

pub overflow_mul-e16 : goal.overflow_mul-e16
overflow_mul-e16 c = let at_turn : Turn c.args.words.now c.requires.numbers c.loop-i.rows c.loop-i.marks c.requires.edits c.requires.base c.requires.forest c.loop-i.i (c.loop-i.i + c.word.result) = let s = c.requires in turn _ _ _ _ _ _ s.forest _ _ (ap (λ (k : ℕ). c.loop-i.i + k) c.word.ensures) (c.loop-i.invariant.3 s.numbers s.edits s.base s.forest s.tabled) c.loop-i-test.true in let f = at_turn in let w = c.requires.fit in omega arith

pub overflow_mul-i2 : goal.overflow_mul-i2
overflow_mul-i2 c = let at_turn : Turn c.args.words.now c.requires.numbers c.loop-i.rows c.loop-i.marks c.requires.edits c.requires.base c.requires.forest c.loop-i.i (c.loop-i.i + c.word.result) = let s = c.requires in turn _ _ _ _ _ _ s.forest _ _ (ap (λ (k : ℕ). c.loop-i.i + k) c.word.ensures) (c.loop-i.invariant.3 s.numbers s.edits s.base s.forest s.tabled) c.loop-i-test.true in let f = at_turn in let w = c.requires.fit in omega arith

pub overflow_mul-e2 : goal.overflow_mul-e2
overflow_mul-e2 c = let at_turn : Turn c.args.words.now c.requires.numbers c.loop-i.rows c.loop-i.marks c.requires.edits c.requires.base c.requires.forest c.loop-i.i (c.loop-i.i + c.word.result) = let s = c.requires in turn _ _ _ _ _ _ s.forest _ _ (ap (λ (k : ℕ). c.loop-i.i + k) c.word.ensures) (c.loop-i.invariant.3 s.numbers s.edits s.base s.forest s.tabled) c.loop-i-test.true in let f = at_turn in let w = c.requires.fit in omega arith

pub offset_bounds-marks-i2 : goal.offset_bounds-marks-i2
offset_bounds-marks-i2 c = let at_turn : Turn c.args.words.now c.requires.numbers c.loop-i.rows c.loop-i.marks c.requires.edits c.requires.base c.requires.forest c.loop-i.i (c.loop-i.i + c.word.result) = let s = c.requires in turn _ _ _ _ _ _ s.forest _ _ (ap (λ (k : ℕ). c.loop-i.i + k) c.word.ensures) (c.loop-i.invariant.3 s.numbers s.edits s.base s.forest s.tabled) c.loop-i-test.true in let f = at_turn in let w = c.requires.fit in omega arith

pub bounds-marks-i2 : goal.bounds-marks-i2
bounds-marks-i2 c = let at_turn : Turn c.args.words.now c.requires.numbers c.loop-i.rows c.loop-i.marks c.requires.edits c.requires.base c.requires.forest c.loop-i.i (c.loop-i.i + c.word.result) = let s = c.requires in turn _ _ _ _ _ _ s.forest _ _ (ap (λ (k : ℕ). c.loop-i.i + k) c.word.ensures) (c.loop-i.invariant.3 s.numbers s.edits s.base s.forest s.tabled) c.loop-i-test.true in let f = at_turn in let w = c.requires.fit in omega arith

pub offset_bounds-rows-i16 : goal.offset_bounds-rows-i16
offset_bounds-rows-i16 c = let at_turn : Turn c.args.words.now c.requires.numbers c.loop-i.rows c.loop-i.marks c.requires.edits c.requires.base c.requires.forest c.loop-i.i (c.loop-i.i + c.word.result) = let s = c.requires in turn _ _ _ _ _ _ s.forest _ _ (ap (λ (k : ℕ). c.loop-i.i + k) c.word.ensures) (c.loop-i.invariant.3 s.numbers s.edits s.base s.forest s.tabled) c.loop-i-test.true in let f = at_turn in let w = c.requires.fit in omega arith

pub slice_bounds-put_hidden-count : goal.slice_bounds-put_hidden-count
slice_bounds-put_hidden-count c = let at_turn : Turn c.args.words.now c.requires.numbers c.loop-i.rows c.loop-i.marks c.requires.edits c.requires.base c.requires.forest c.loop-i.i (c.loop-i.i + c.word.result) = let s = c.requires in turn _ _ _ _ _ _ s.forest _ _ (ap (λ (k : ℕ). c.loop-i.i + k) c.word.ensures) (c.loop-i.invariant.3 s.numbers s.edits s.base s.forest s.tabled) c.loop-i-test.true in let f = at_turn in let w = c.requires.fit in omega arith

pub slice_bounds-put_hidden-start : goal.slice_bounds-put_hidden-start
slice_bounds-put_hidden-start c = let at_turn : Turn c.args.words.now c.requires.numbers c.loop-i.rows c.loop-i.marks c.requires.edits c.requires.base c.requires.forest c.loop-i.i (c.loop-i.i + c.word.result) = let s = c.requires in turn _ _ _ _ _ _ s.forest _ _ (ap (λ (k : ℕ). c.loop-i.i + k) c.word.ensures) (c.loop-i.invariant.3 s.numbers s.edits s.base s.forest s.tabled) c.loop-i-test.true in let f = at_turn in let w = c.requires.fit in omega arith

pub slice_bounds-put_hidden-end : goal.slice_bounds-put_hidden-end
slice_bounds-put_hidden-end c = let at_turn : Turn c.args.words.now c.requires.numbers c.loop-i.rows c.loop-i.marks c.requires.edits c.requires.base c.requires.forest c.loop-i.i (c.loop-i.i + c.word.result) = let s = c.requires in turn _ _ _ _ _ _ s.forest _ _ (ap (λ (k : ℕ). c.loop-i.i + k) c.word.ensures) (c.loop-i.invariant.3 s.numbers s.edits s.base s.forest s.tabled) c.loop-i-test.true in let f = at_turn in let w = c.requires.fit in omega arith

pub offset_bounds-marks-i2-in-Gone : goal.offset_bounds-marks-i2-in-Gone
offset_bounds-marks-i2-in-Gone c = let at_turn : Turn c.args.words.now c.requires.numbers c.loop-i.rows c.loop-i.marks c.requires.edits c.requires.base c.requires.forest c.loop-i.i (c.loop-i.i + c.word.result) = let s = c.requires in turn _ _ _ _ _ _ s.forest _ _ (ap (λ (k : ℕ). c.loop-i.i + k) c.word.ensures) (c.loop-i.invariant.3 s.numbers s.edits s.base s.forest s.tabled) c.loop-i-test.true in let f = at_turn in let w = c.requires.fit in omega arith

pub slice_bounds-put_hidden-count-in-Gone : goal.slice_bounds-put_hidden-count-in-Gone
slice_bounds-put_hidden-count-in-Gone c = let at_turn : Turn c.args.words.now c.requires.numbers c.loop-i.rows c.loop-i.marks c.requires.edits c.requires.base c.requires.forest c.loop-i.i (c.loop-i.i + c.word.result) = let s = c.requires in turn _ _ _ _ _ _ s.forest _ _ (ap (λ (k : ℕ). c.loop-i.i + k) c.word.ensures) (c.loop-i.invariant.3 s.numbers s.edits s.base s.forest s.tabled) c.loop-i-test.true in let f = at_turn in let w = c.requires.fit in omega arith

pub slice_bounds-put_hidden-start-in-Gone : goal.slice_bounds-put_hidden-start-in-Gone
slice_bounds-put_hidden-start-in-Gone c = let at_turn : Turn c.args.words.now c.requires.numbers c.loop-i.rows c.loop-i.marks c.requires.edits c.requires.base c.requires.forest c.loop-i.i (c.loop-i.i + c.word.result) = let s = c.requires in turn _ _ _ _ _ _ s.forest _ _ (ap (λ (k : ℕ). c.loop-i.i + k) c.word.ensures) (c.loop-i.invariant.3 s.numbers s.edits s.base s.forest s.tabled) c.loop-i-test.true in let f = at_turn in let w = c.requires.fit in omega arith

pub slice_bounds-put_hidden-end-in-Gone : goal.slice_bounds-put_hidden-end-in-Gone
slice_bounds-put_hidden-end-in-Gone c = let at_turn : Turn c.args.words.now c.requires.numbers c.loop-i.rows c.loop-i.marks c.requires.edits c.requires.base c.requires.forest c.loop-i.i (c.loop-i.i + c.word.result) = let s = c.requires in turn _ _ _ _ _ _ s.forest _ _ (ap (λ (k : ℕ). c.loop-i.i + k) c.word.ensures) (c.loop-i.invariant.3 s.numbers s.edits s.base s.forest s.tabled) c.loop-i-test.true in let f = at_turn in let w = c.requires.fit in omega arith

pub put_hidden-requires : goal.put_hidden-requires
put_hidden-requires c = let at_turn : Turn c.args.words.now c.requires.numbers c.loop-i.rows c.loop-i.marks c.requires.edits c.requires.base c.requires.forest c.loop-i.i (c.loop-i.i + c.word.result) = let s = c.requires in turn _ _ _ _ _ _ s.forest _ _ (ap (λ (k : ℕ). c.loop-i.i + k) c.word.ensures) (c.loop-i.invariant.3 s.numbers s.edits s.base s.forest s.tabled) c.loop-i-test.true in let f = at_turn in record { rows_some = f.rows_room; marks_some = f.marks_room }

pub loop-i-smaller-in-Gone : goal.loop-i-smaller-in-Gone
loop-i-smaller-in-Gone c = let at_turn : Turn c.args.words.now c.requires.numbers c.loop-i.rows c.loop-i.marks c.requires.edits c.requires.base c.requires.forest c.loop-i.i (c.loop-i.i + c.word.result) = let s = c.requires in turn _ _ _ _ _ _ s.forest _ _ (ap (λ (k : ℕ). c.loop-i.i + k) c.word.ensures) (c.loop-i.invariant.3 s.numbers s.edits s.base s.forest s.tabled) c.loop-i-test.true in let f = at_turn in let w = c.requires.fit in omega arith

pub loop-i-preserved-in-Gone : goal.loop-i-preserved-in-Gone
loop-i-preserved-in-Gone c = let at_turn : Turn c.args.words.now c.requires.numbers c.loop-i.rows c.loop-i.marks c.requires.edits c.requires.base c.requires.forest c.loop-i.i (c.loop-i.i + c.word.result) = let s = c.requires in turn _ _ _ _ _ _ s.forest _ _ (ap (λ (k : ℕ). c.loop-i.i + k) c.word.ensures) (c.loop-i.invariant.3 s.numbers s.edits s.base s.forest s.tabled) c.loop-i-test.true in let f = at_turn in (omega arith, omega arith, omega arith, λ xs es b ts h. (turn _ _ _ _ _ _ ts _ _ (ap (λ (k : ℕ). c.loop-i.i + k) c.word.ensures) (c.loop-i.invariant.3 xs es b ts h) c.loop-i-test.true).gone _ _ (sym (c.flow_at-flow.ensures ∙ ap (λ (k : ℕ). flow_at k) c.word-in-loop-i.ensures) ∙ c.in-Gone.is) c.put_hidden.ensures.numbers c.put_hidden.ensures.words)

pub offset_bounds-rows-i16-in-Out : goal.offset_bounds-rows-i16-in-Out
offset_bounds-rows-i16-in-Out c = let at_turn : Turn c.args.words.now c.requires.numbers c.loop-i.rows c.loop-i.marks c.requires.edits c.requires.base c.requires.forest c.loop-i.i (c.loop-i.i + c.word.result) = let s = c.requires in turn _ _ _ _ _ _ s.forest _ _ (ap (λ (k : ℕ). c.loop-i.i + k) c.word.ensures) (c.loop-i.invariant.3 s.numbers s.edits s.base s.forest s.tabled) c.loop-i-test.true in let f = at_turn in let w = c.requires.fit in omega arith

pub bounds-rows-i16 : goal.bounds-rows-i16
bounds-rows-i16 c = let at_turn : Turn c.args.words.now c.requires.numbers c.loop-i.rows c.loop-i.marks c.requires.edits c.requires.base c.requires.forest c.loop-i.i (c.loop-i.i + c.word.result) = let s = c.requires in turn _ _ _ _ _ _ s.forest _ _ (ap (λ (k : ℕ). c.loop-i.i + k) c.word.ensures) (c.loop-i.invariant.3 s.numbers s.edits s.base s.forest s.tabled) c.loop-i-test.true in let f = at_turn in let w = c.requires.fit in omega arith

pub overflow_add-edges : goal.overflow_add-edges
overflow_add-edges c = let at_turn : Turn c.args.words.now c.requires.numbers c.loop-i.rows c.loop-i.marks c.requires.edits c.requires.base c.requires.forest c.loop-i.i (c.loop-i.i + c.word.result) = let s = c.requires in turn _ _ _ _ _ _ s.forest _ _ (ap (λ (k : ℕ). c.loop-i.i + k) c.word.ensures) (c.loop-i.invariant.3 s.numbers s.edits s.base s.forest s.tabled) c.loop-i-test.true in let f = at_turn in let w = c.requires.fit in omega arith

pub offset_bounds-rows-i16-in-Out-2 : goal.offset_bounds-rows-i16-in-Out-2
offset_bounds-rows-i16-in-Out-2 c = let at_turn : Turn c.args.words.now c.requires.numbers c.loop-i.rows c.loop-i.marks c.requires.edits c.requires.base c.requires.forest c.loop-i.i (c.loop-i.i + c.word.result) = let s = c.requires in turn _ _ _ _ _ _ s.forest _ _ (ap (λ (k : ℕ). c.loop-i.i + k) c.word.ensures) (c.loop-i.invariant.3 s.numbers s.edits s.base s.forest s.tabled) c.loop-i-test.true in let f = at_turn in let w = c.requires.fit in omega arith

pub bounds-rows-i16-in-Out : goal.bounds-rows-i16-in-Out
bounds-rows-i16-in-Out c = let at_turn : Turn c.args.words.now c.requires.numbers c.loop-i.rows c.loop-i.marks c.requires.edits c.requires.base c.requires.forest c.loop-i.i (c.loop-i.i + c.word.result) = let s = c.requires in turn _ _ _ _ _ _ s.forest _ _ (ap (λ (k : ℕ). c.loop-i.i + k) c.word.ensures) (c.loop-i.invariant.3 s.numbers s.edits s.base s.forest s.tabled) c.loop-i-test.true in let f = at_turn in let w = c.requires.fit in omega arith

pub overflow_add-line : goal.overflow_add-line
overflow_add-line c = let at_turn : Turn c.args.words.now c.requires.numbers c.loop-i.rows c.loop-i.marks c.requires.edits c.requires.base c.requires.forest c.loop-i.i (c.loop-i.i + c.word.result) = let s = c.requires in turn _ _ _ _ _ _ s.forest _ _ (ap (λ (k : ℕ). c.loop-i.i + k) c.word.ensures) (c.loop-i.invariant.3 s.numbers s.edits s.base s.forest s.tabled) c.loop-i-test.true in let f = at_turn in let w = c.requires.fit in omega arith

pub offset_bounds-rows-i16-in-Out-3 : goal.offset_bounds-rows-i16-in-Out-3
offset_bounds-rows-i16-in-Out-3 c = let at_turn : Turn c.args.words.now c.requires.numbers c.loop-i.rows c.loop-i.marks c.requires.edits c.requires.base c.requires.forest c.loop-i.i (c.loop-i.i + c.word.result) = let s = c.requires in turn _ _ _ _ _ _ s.forest _ _ (ap (λ (k : ℕ). c.loop-i.i + k) c.word.ensures) (c.loop-i.invariant.3 s.numbers s.edits s.base s.forest s.tabled) c.loop-i-test.true in let f = at_turn in let w = c.requires.fit in omega arith

pub bounds-rows-i16-in-Out-2 : goal.bounds-rows-i16-in-Out-2
bounds-rows-i16-in-Out-2 c = let at_turn : Turn c.args.words.now c.requires.numbers c.loop-i.rows c.loop-i.marks c.requires.edits c.requires.base c.requires.forest c.loop-i.i (c.loop-i.i + c.word.result) = let s = c.requires in turn _ _ _ _ _ _ s.forest _ _ (ap (λ (k : ℕ). c.loop-i.i + k) c.word.ensures) (c.loop-i.invariant.3 s.numbers s.edits s.base s.forest s.tabled) c.loop-i-test.true in let f = at_turn in let w = c.requires.fit in omega arith

pub offset_bounds-marks-i2-in-Out : goal.offset_bounds-marks-i2-in-Out
offset_bounds-marks-i2-in-Out c = let at_turn : Turn c.args.words.now c.requires.numbers c.loop-i.rows c.loop-i.marks c.requires.edits c.requires.base c.requires.forest c.loop-i.i (c.loop-i.i + c.word.result) = let s = c.requires in turn _ _ _ _ _ _ s.forest _ _ (ap (λ (k : ℕ). c.loop-i.i + k) c.word.ensures) (c.loop-i.invariant.3 s.numbers s.edits s.base s.forest s.tabled) c.loop-i-test.true in let f = at_turn in let w = c.requires.fit in omega arith

pub bounds-marks-i2-in-Out : goal.bounds-marks-i2-in-Out
bounds-marks-i2-in-Out c = let at_turn : Turn c.args.words.now c.requires.numbers c.loop-i.rows c.loop-i.marks c.requires.edits c.requires.base c.requires.forest c.loop-i.i (c.loop-i.i + c.word.result) = let s = c.requires in turn _ _ _ _ _ _ s.forest _ _ (ap (λ (k : ℕ). c.loop-i.i + k) c.word.ensures) (c.loop-i.invariant.3 s.numbers s.edits s.base s.forest s.tabled) c.loop-i-test.true in let f = at_turn in let w = c.requires.fit in omega arith

pub offset_bounds-rows-i16-in-Out-4 : goal.offset_bounds-rows-i16-in-Out-4
offset_bounds-rows-i16-in-Out-4 c = let at_turn : Turn c.args.words.now c.requires.numbers c.loop-i.rows c.loop-i.marks c.requires.edits c.requires.base c.requires.forest c.loop-i.i (c.loop-i.i + c.word.result) = let s = c.requires in turn _ _ _ _ _ _ s.forest _ _ (ap (λ (k : ℕ). c.loop-i.i + k) c.word.ensures) (c.loop-i.invariant.3 s.numbers s.edits s.base s.forest s.tabled) c.loop-i-test.true in let f = at_turn in let w = c.requires.fit in omega arith

pub slice_bounds-put_aside-count : goal.slice_bounds-put_aside-count
slice_bounds-put_aside-count c = let at_turn : Turn c.args.words.now c.requires.numbers c.loop-i.rows c.loop-i.marks c.requires.edits c.requires.base c.requires.forest c.loop-i.i (c.loop-i.i + c.word.result) = let s = c.requires in turn _ _ _ _ _ _ s.forest _ _ (ap (λ (k : ℕ). c.loop-i.i + k) c.word.ensures) (c.loop-i.invariant.3 s.numbers s.edits s.base s.forest s.tabled) c.loop-i-test.true in let f = at_turn in let w = c.requires.fit in omega arith

pub slice_bounds-put_aside-start : goal.slice_bounds-put_aside-start
slice_bounds-put_aside-start c = let at_turn : Turn c.args.words.now c.requires.numbers c.loop-i.rows c.loop-i.marks c.requires.edits c.requires.base c.requires.forest c.loop-i.i (c.loop-i.i + c.word.result) = let s = c.requires in turn _ _ _ _ _ _ s.forest _ _ (ap (λ (k : ℕ). c.loop-i.i + k) c.word.ensures) (c.loop-i.invariant.3 s.numbers s.edits s.base s.forest s.tabled) c.loop-i-test.true in let f = at_turn in let w = c.requires.fit in omega arith

pub slice_bounds-put_aside-end : goal.slice_bounds-put_aside-end
slice_bounds-put_aside-end c = let at_turn : Turn c.args.words.now c.requires.numbers c.loop-i.rows c.loop-i.marks c.requires.edits c.requires.base c.requires.forest c.loop-i.i (c.loop-i.i + c.word.result) = let s = c.requires in turn _ _ _ _ _ _ s.forest _ _ (ap (λ (k : ℕ). c.loop-i.i + k) c.word.ensures) (c.loop-i.invariant.3 s.numbers s.edits s.base s.forest s.tabled) c.loop-i-test.true in let f = at_turn in let w = c.requires.fit in omega arith

pub offset_bounds-marks-i2-in-Out-2 : goal.offset_bounds-marks-i2-in-Out-2
offset_bounds-marks-i2-in-Out-2 c = let at_turn : Turn c.args.words.now c.requires.numbers c.loop-i.rows c.loop-i.marks c.requires.edits c.requires.base c.requires.forest c.loop-i.i (c.loop-i.i + c.word.result) = let s = c.requires in turn _ _ _ _ _ _ s.forest _ _ (ap (λ (k : ℕ). c.loop-i.i + k) c.word.ensures) (c.loop-i.invariant.3 s.numbers s.edits s.base s.forest s.tabled) c.loop-i-test.true in let f = at_turn in let w = c.requires.fit in omega arith

pub slice_bounds-put_aside-count-in-Out : goal.slice_bounds-put_aside-count-in-Out
slice_bounds-put_aside-count-in-Out c = let at_turn : Turn c.args.words.now c.requires.numbers c.loop-i.rows c.loop-i.marks c.requires.edits c.requires.base c.requires.forest c.loop-i.i (c.loop-i.i + c.word.result) = let s = c.requires in turn _ _ _ _ _ _ s.forest _ _ (ap (λ (k : ℕ). c.loop-i.i + k) c.word.ensures) (c.loop-i.invariant.3 s.numbers s.edits s.base s.forest s.tabled) c.loop-i-test.true in let f = at_turn in let w = c.requires.fit in omega arith

pub slice_bounds-put_aside-start-in-Out : goal.slice_bounds-put_aside-start-in-Out
slice_bounds-put_aside-start-in-Out c = let at_turn : Turn c.args.words.now c.requires.numbers c.loop-i.rows c.loop-i.marks c.requires.edits c.requires.base c.requires.forest c.loop-i.i (c.loop-i.i + c.word.result) = let s = c.requires in turn _ _ _ _ _ _ s.forest _ _ (ap (λ (k : ℕ). c.loop-i.i + k) c.word.ensures) (c.loop-i.invariant.3 s.numbers s.edits s.base s.forest s.tabled) c.loop-i-test.true in let f = at_turn in let w = c.requires.fit in omega arith

pub slice_bounds-put_aside-end-in-Out : goal.slice_bounds-put_aside-end-in-Out
slice_bounds-put_aside-end-in-Out c = let at_turn : Turn c.args.words.now c.requires.numbers c.loop-i.rows c.loop-i.marks c.requires.edits c.requires.base c.requires.forest c.loop-i.i (c.loop-i.i + c.word.result) = let s = c.requires in turn _ _ _ _ _ _ s.forest _ _ (ap (λ (k : ℕ). c.loop-i.i + k) c.word.ensures) (c.loop-i.invariant.3 s.numbers s.edits s.base s.forest s.tabled) c.loop-i-test.true in let f = at_turn in let w = c.requires.fit in omega arith

pub put_aside-requires : goal.put_aside-requires
put_aside-requires c = let at_turn : Turn c.args.words.now c.requires.numbers c.loop-i.rows c.loop-i.marks c.requires.edits c.requires.base c.requires.forest c.loop-i.i (c.loop-i.i + c.word.result) = let s = c.requires in turn _ _ _ _ _ _ s.forest _ _ (ap (λ (k : ℕ). c.loop-i.i + k) c.word.ensures) (c.loop-i.invariant.3 s.numbers s.edits s.base s.forest s.tabled) c.loop-i-test.true in let f = at_turn in record { rows_some = f.rows_room; marks_some = f.marks_room }

pub loop-i-smaller-in-Out : goal.loop-i-smaller-in-Out
loop-i-smaller-in-Out c = let at_turn : Turn c.args.words.now c.requires.numbers c.loop-i.rows c.loop-i.marks c.requires.edits c.requires.base c.requires.forest c.loop-i.i (c.loop-i.i + c.word.result) = let s = c.requires in turn _ _ _ _ _ _ s.forest _ _ (ap (λ (k : ℕ). c.loop-i.i + k) c.word.ensures) (c.loop-i.invariant.3 s.numbers s.edits s.base s.forest s.tabled) c.loop-i-test.true in let f = at_turn in let w = c.requires.fit in omega arith

pub loop-i-preserved-in-Out : goal.loop-i-preserved-in-Out
loop-i-preserved-in-Out c = let at_turn : Turn c.args.words.now c.requires.numbers c.loop-i.rows c.loop-i.marks c.requires.edits c.requires.base c.requires.forest c.loop-i.i (c.loop-i.i + c.word.result) = let s = c.requires in turn _ _ _ _ _ _ s.forest _ _ (ap (λ (k : ℕ). c.loop-i.i + k) c.word.ensures) (c.loop-i.invariant.3 s.numbers s.edits s.base s.forest s.tabled) c.loop-i-test.true in let f = at_turn in (omega arith, omega arith, omega arith, λ xs es b ts h. (turn _ _ _ _ _ _ ts _ _ (ap (λ (k : ℕ). c.loop-i.i + k) c.word.ensures) (c.loop-i.invariant.3 xs es b ts h) c.loop-i-test.true).out _ _ (sym (c.flow_at-flow.ensures ∙ ap (λ (k : ℕ). flow_at k) c.word-in-loop-i.ensures) ∙ c.in-Out.is) c.put_aside.ensures.numbers c.put_aside.ensures.words)

pub overflow_add-i2 : goal.overflow_add-i2
overflow_add-i2 c = let at_turn : Turn c.args.words.now c.requires.numbers c.loop-i.rows c.loop-i.marks c.requires.edits c.requires.base c.requires.forest c.loop-i.i (c.loop-i.i + c.word.result) = let s = c.requires in turn _ _ _ _ _ _ s.forest _ _ (ap (λ (k : ℕ). c.loop-i.i + k) c.word.ensures) (c.loop-i.invariant.3 s.numbers s.edits s.base s.forest s.tabled) c.loop-i-test.true in let f = at_turn in let w = c.requires.fit in omega arith

pub offset_bounds-marks-i2-in-In : goal.offset_bounds-marks-i2-in-In
offset_bounds-marks-i2-in-In c = let at_turn : Turn c.args.words.now c.requires.numbers c.loop-i.rows c.loop-i.marks c.requires.edits c.requires.base c.requires.forest c.loop-i.i (c.loop-i.i + c.word.result) = let s = c.requires in turn _ _ _ _ _ _ s.forest _ _ (ap (λ (k : ℕ). c.loop-i.i + k) c.word.ensures) (c.loop-i.invariant.3 s.numbers s.edits s.base s.forest s.tabled) c.loop-i-test.true in let f = at_turn in let w = c.requires.fit in omega arith

pub bounds-marks-i2-in-In : goal.bounds-marks-i2-in-In
bounds-marks-i2-in-In c = let at_turn : Turn c.args.words.now c.requires.numbers c.loop-i.rows c.loop-i.marks c.requires.edits c.requires.base c.requires.forest c.loop-i.i (c.loop-i.i + c.word.result) = let s = c.requires in turn _ _ _ _ _ _ s.forest _ _ (ap (λ (k : ℕ). c.loop-i.i + k) c.word.ensures) (c.loop-i.invariant.3 s.numbers s.edits s.base s.forest s.tabled) c.loop-i-test.true in let f = at_turn in let w = c.requires.fit in omega arith

pub overflow_add-marks : goal.overflow_add-marks
overflow_add-marks c = let at_turn : Turn c.args.words.now c.requires.numbers c.loop-i.rows c.loop-i.marks c.requires.edits c.requires.base c.requires.forest c.loop-i.i (c.loop-i.i + c.word.result) = let s = c.requires in turn _ _ _ _ _ _ s.forest _ _ (ap (λ (k : ℕ). c.loop-i.i + k) c.word.ensures) (c.loop-i.invariant.3 s.numbers s.edits s.base s.forest s.tabled) c.loop-i-test.true in let f = at_turn in let w = c.requires.fit in omega arith

pub offset_bounds-marks-i2-in-In-2 : goal.offset_bounds-marks-i2-in-In-2
offset_bounds-marks-i2-in-In-2 c = let at_turn : Turn c.args.words.now c.requires.numbers c.loop-i.rows c.loop-i.marks c.requires.edits c.requires.base c.requires.forest c.loop-i.i (c.loop-i.i + c.word.result) = let s = c.requires in turn _ _ _ _ _ _ s.forest _ _ (ap (λ (k : ℕ). c.loop-i.i + k) c.word.ensures) (c.loop-i.invariant.3 s.numbers s.edits s.base s.forest s.tabled) c.loop-i-test.true in let f = at_turn in let w = c.requires.fit in omega arith

pub bounds-marks-i2-in-In-2 : goal.bounds-marks-i2-in-In-2
bounds-marks-i2-in-In-2 c = let at_turn : Turn c.args.words.now c.requires.numbers c.loop-i.rows c.loop-i.marks c.requires.edits c.requires.base c.requires.forest c.loop-i.i (c.loop-i.i + c.word.result) = let s = c.requires in turn _ _ _ _ _ _ s.forest _ _ (ap (λ (k : ℕ). c.loop-i.i + k) c.word.ensures) (c.loop-i.invariant.3 s.numbers s.edits s.base s.forest s.tabled) c.loop-i-test.true in let f = at_turn in let w = c.requires.fit in omega arith

pub overflow_add-i : goal.overflow_add-i
overflow_add-i c = let at_turn : Turn c.args.words.now c.requires.numbers c.loop-i.rows c.loop-i.marks c.requires.edits c.requires.base c.requires.forest c.loop-i.i (c.loop-i.i + c.word.result) = let s = c.requires in turn _ _ _ _ _ _ s.forest _ _ (ap (λ (k : ℕ). c.loop-i.i + k) c.word.ensures) (c.loop-i.invariant.3 s.numbers s.edits s.base s.forest s.tabled) c.loop-i-test.true in let f = at_turn in let w = c.requires.fit in omega arith

pub loop-i-smaller : goal.loop-i-smaller
loop-i-smaller c = let at_turn : Turn c.args.words.now c.requires.numbers c.loop-i.rows c.loop-i.marks c.requires.edits c.requires.base c.requires.forest c.loop-i.i (c.loop-i.i + c.word.result) = let s = c.requires in turn _ _ _ _ _ _ s.forest _ _ (ap (λ (k : ℕ). c.loop-i.i + k) c.word.ensures) (c.loop-i.invariant.3 s.numbers s.edits s.base s.forest s.tabled) c.loop-i-test.true in let f = at_turn in let w = c.requires.fit in omega arith

pub loop-i-preserved : goal.loop-i-preserved
loop-i-preserved c = let at_turn : Turn c.args.words.now c.requires.numbers c.loop-i.rows c.loop-i.marks c.requires.edits c.requires.base c.requires.forest c.loop-i.i (c.loop-i.i + c.word.result) = let s = c.requires in turn _ _ _ _ _ _ s.forest _ _ (ap (λ (k : ℕ). c.loop-i.i + k) c.word.ensures) (c.loop-i.invariant.3 s.numbers s.edits s.base s.forest s.tabled) c.loop-i-test.true in let f = at_turn in (omega arith, simp length-set (omega arith), omega arith, λ xs es b ts h. rw c.laid_bits.ensures ((turn _ _ _ _ _ _ ts _ _ (ap (λ (k : ℕ). c.loop-i.i + k) c.word.ensures) (c.loop-i.invariant.3 xs es b ts h) c.loop-i-test.true).stays (sym (c.flow_at-flow.ensures ∙ ap (λ (k : ℕ). flow_at k) c.word-in-loop-i.ensures) ∙ c.in-In.is)))

pub shape_of-rows : goal.shape_of-rows
shape_of-rows c = c.loop-i.invariant.0

pub shape_of-marks : goal.shape_of-marks
shape_of-marks c = c.loop-i.invariant.1

pub returns : goal.returns
returns c = λ xs es b ts h. end _ _ _ _ _ _ ts _ (c.loop-i.invariant.3 xs es b ts h) c.loop-i-test.false
