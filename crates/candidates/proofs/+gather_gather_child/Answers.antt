use mathlib.Core.Path.{◌≡◌, refl, sym, ap, ◌∙◌}
use mathlib.Core.List.{List}
use Prim.Native.Nat.{◌+◌, ◌*◌, ◌-◌, ◌≤◌, ℕ, ◌<◌}
use native.Mathlib.Omega.{arith}
use borrow.Author.Rules.{rules}
use lib.ListN.{length}
use Rattle.tree.specs.Tree.{Forest}
use Rattle.steps.specs.Row.{Row}
use Rattle.steps.specs.Candidates.{candidates_f}
use Rattle.walks.specs.Tables.{RowsOf}
use Rattle.candidates.specs.Gathered.{RoomFor}
use Rattle.candidates.proofs.GatherLoop.{Rest, Turn, begin, turn, end}
use Rattle.candidates.proofs.OneTree.{Given-facts, given, one_room, moved_room, out_gathered, none_gathered, kids_given, laid_gathered}
use Rattle.candidates.proofs.+gather_gather_child.Goals as goal

pub gather-loop-a-init : goal.gather-loop-a-init
gather-loop-a-init t c = (refl, refl, omega arith, omega arith, λ ts h r. begin c.args.words.now c.args.rows.now c.args.marks.now c.args.base c.args.pairs.now c.args.triples.now ts h)

pub gather-overflow_mul-a : goal.gather-overflow_mul-a
gather-overflow_mul-a t c = let w = c.requires.fit in let v = c.requires.rows_of.words_long in omega (arith, c.loop-a.invariant.2)

pub gather-overflow_cast-e : goal.gather-overflow_cast-e
gather-overflow_cast-e t c = let gather-turn : Turn c.args.words.now c.args.rows.now c.args.marks.now c.args.base c.args.pairs.now c.args.triples.now c.loop-a.pairs c.loop-a.triples c.requires.forest c.loop-a.a (c.loop-a.a + c.word.result) c.loop-a.used = let s = c.requires in turn _ _ _ _ _ _ _ _ s.forest _ _ _ (ap (λ (k : ℕ). c.loop-a.a + k) c.word.ensures) c.loop-a.invariant.0 c.loop-a.invariant.1 s.room (c.loop-a.invariant.4 s.forest s.rows_of s.room) c.loop-a-test.true in let f = gather-turn in let w = c.requires.fit in let v = c.requires.rows_of.words_long in let i = c.loop-a.invariant in omega (arith, i.0, i.1, i.3)

pub gather-overflow_add-e : goal.gather-overflow_add-e
gather-overflow_add-e t c = let gather-turn : Turn c.args.words.now c.args.rows.now c.args.marks.now c.args.base c.args.pairs.now c.args.triples.now c.loop-a.pairs c.loop-a.triples c.requires.forest c.loop-a.a (c.loop-a.a + c.word.result) c.loop-a.used = let s = c.requires in turn _ _ _ _ _ _ _ _ s.forest _ _ _ (ap (λ (k : ℕ). c.loop-a.a + k) c.word.ensures) c.loop-a.invariant.0 c.loop-a.invariant.1 s.room (c.loop-a.invariant.4 s.forest s.rows_of s.room) c.loop-a-test.true in let f = gather-turn in let w = c.requires.fit in let v = c.requires.rows_of.words_long in let i = c.loop-a.invariant in omega (arith, i.0, i.1, i.3)

pub gather-overflow_mul-a4 : goal.gather-overflow_mul-a4
gather-overflow_mul-a4 t c = let gather-turn : Turn c.args.words.now c.args.rows.now c.args.marks.now c.args.base c.args.pairs.now c.args.triples.now c.loop-a.pairs c.loop-a.triples c.requires.forest c.loop-a.a (c.loop-a.a + c.word.result) c.loop-a.used = let s = c.requires in turn _ _ _ _ _ _ _ _ s.forest _ _ _ (ap (λ (k : ℕ). c.loop-a.a + k) c.word.ensures) c.loop-a.invariant.0 c.loop-a.invariant.1 s.room (c.loop-a.invariant.4 s.forest s.rows_of s.room) c.loop-a-test.true in let f = gather-turn in let w = c.requires.fit in let v = c.requires.rows_of.words_long in let i = c.loop-a.invariant in omega (arith, i.0, i.1, i.3)

pub gather-overflow_mul-e4 : goal.gather-overflow_mul-e4
gather-overflow_mul-e4 t c = let gather-turn : Turn c.args.words.now c.args.rows.now c.args.marks.now c.args.base c.args.pairs.now c.args.triples.now c.loop-a.pairs c.loop-a.triples c.requires.forest c.loop-a.a (c.loop-a.a + c.word.result) c.loop-a.used = let s = c.requires in turn _ _ _ _ _ _ _ _ s.forest _ _ _ (ap (λ (k : ℕ). c.loop-a.a + k) c.word.ensures) c.loop-a.invariant.0 c.loop-a.invariant.1 s.room (c.loop-a.invariant.4 s.forest s.rows_of s.room) c.loop-a-test.true in let f = gather-turn in let w = c.requires.fit in let v = c.requires.rows_of.words_long in let i = c.loop-a.invariant in omega (arith, i.0, i.1, i.3)

pub gather-overflow_mul-a16 : goal.gather-overflow_mul-a16
gather-overflow_mul-a16 t c = let gather-turn : Turn c.args.words.now c.args.rows.now c.args.marks.now c.args.base c.args.pairs.now c.args.triples.now c.loop-a.pairs c.loop-a.triples c.requires.forest c.loop-a.a (c.loop-a.a + c.word.result) c.loop-a.used = let s = c.requires in turn _ _ _ _ _ _ _ _ s.forest _ _ _ (ap (λ (k : ℕ). c.loop-a.a + k) c.word.ensures) c.loop-a.invariant.0 c.loop-a.invariant.1 s.room (c.loop-a.invariant.4 s.forest s.rows_of s.room) c.loop-a-test.true in let f = gather-turn in let w = c.requires.fit in let v = c.requires.rows_of.words_long in let i = c.loop-a.invariant in omega (arith, i.0, i.1, i.3)

pub gather-overflow_mul-e16 : goal.gather-overflow_mul-e16
gather-overflow_mul-e16 t c = let gather-turn : Turn c.args.words.now c.args.rows.now c.args.marks.now c.args.base c.args.pairs.now c.args.triples.now c.loop-a.pairs c.loop-a.triples c.requires.forest c.loop-a.a (c.loop-a.a + c.word.result) c.loop-a.used = let s = c.requires in turn _ _ _ _ _ _ _ _ s.forest _ _ _ (ap (λ (k : ℕ). c.loop-a.a + k) c.word.ensures) c.loop-a.invariant.0 c.loop-a.invariant.1 s.room (c.loop-a.invariant.4 s.forest s.rows_of s.room) c.loop-a-test.true in let f = gather-turn in let w = c.requires.fit in let v = c.requires.rows_of.words_long in let i = c.loop-a.invariant in omega (arith, i.0, i.1, i.3)

pub gather-overflow_mul-a2 : goal.gather-overflow_mul-a2
gather-overflow_mul-a2 t c = let gather-turn : Turn c.args.words.now c.args.rows.now c.args.marks.now c.args.base c.args.pairs.now c.args.triples.now c.loop-a.pairs c.loop-a.triples c.requires.forest c.loop-a.a (c.loop-a.a + c.word.result) c.loop-a.used = let s = c.requires in turn _ _ _ _ _ _ _ _ s.forest _ _ _ (ap (λ (k : ℕ). c.loop-a.a + k) c.word.ensures) c.loop-a.invariant.0 c.loop-a.invariant.1 s.room (c.loop-a.invariant.4 s.forest s.rows_of s.room) c.loop-a-test.true in let f = gather-turn in let w = c.requires.fit in let v = c.requires.rows_of.words_long in let i = c.loop-a.invariant in omega (arith, i.0, i.1, i.3)

pub gather-overflow_mul-e2 : goal.gather-overflow_mul-e2
gather-overflow_mul-e2 t c = let gather-turn : Turn c.args.words.now c.args.rows.now c.args.marks.now c.args.base c.args.pairs.now c.args.triples.now c.loop-a.pairs c.loop-a.triples c.requires.forest c.loop-a.a (c.loop-a.a + c.word.result) c.loop-a.used = let s = c.requires in turn _ _ _ _ _ _ _ _ s.forest _ _ _ (ap (λ (k : ℕ). c.loop-a.a + k) c.word.ensures) c.loop-a.invariant.0 c.loop-a.invariant.1 s.room (c.loop-a.invariant.4 s.forest s.rows_of s.room) c.loop-a-test.true in let f = gather-turn in let w = c.requires.fit in let v = c.requires.rows_of.words_long in let i = c.loop-a.invariant in omega (arith, i.0, i.1, i.3)

pub gather-overflow_mul-u2 : goal.gather-overflow_mul-u2
gather-overflow_mul-u2 t c = let gather-turn : Turn c.args.words.now c.args.rows.now c.args.marks.now c.args.base c.args.pairs.now c.args.triples.now c.loop-a.pairs c.loop-a.triples c.requires.forest c.loop-a.a (c.loop-a.a + c.word.result) c.loop-a.used = let s = c.requires in turn _ _ _ _ _ _ _ _ s.forest _ _ _ (ap (λ (k : ℕ). c.loop-a.a + k) c.word.ensures) c.loop-a.invariant.0 c.loop-a.invariant.1 s.room (c.loop-a.invariant.4 s.forest s.rows_of s.room) c.loop-a-test.true in let f = gather-turn in let w = c.requires.fit in let v = c.requires.rows_of.words_long in let i = c.loop-a.invariant in omega (arith, i.0, i.1, i.3)

pub gather-overflow_mul-u3 : goal.gather-overflow_mul-u3
gather-overflow_mul-u3 t c = let gather-turn : Turn c.args.words.now c.args.rows.now c.args.marks.now c.args.base c.args.pairs.now c.args.triples.now c.loop-a.pairs c.loop-a.triples c.requires.forest c.loop-a.a (c.loop-a.a + c.word.result) c.loop-a.used = let s = c.requires in turn _ _ _ _ _ _ _ _ s.forest _ _ _ (ap (λ (k : ℕ). c.loop-a.a + k) c.word.ensures) c.loop-a.invariant.0 c.loop-a.invariant.1 s.room (c.loop-a.invariant.4 s.forest s.rows_of s.room) c.loop-a-test.true in let f = gather-turn in let w = c.requires.fit in let v = c.requires.rows_of.words_long in let i = c.loop-a.invariant in omega (arith, i.0, i.1, i.3)

pub gather-offset_bounds-words-a4 : goal.gather-offset_bounds-words-a4
gather-offset_bounds-words-a4 t c = let gather-turn : Turn c.args.words.now c.args.rows.now c.args.marks.now c.args.base c.args.pairs.now c.args.triples.now c.loop-a.pairs c.loop-a.triples c.requires.forest c.loop-a.a (c.loop-a.a + c.word.result) c.loop-a.used = let s = c.requires in turn _ _ _ _ _ _ _ _ s.forest _ _ _ (ap (λ (k : ℕ). c.loop-a.a + k) c.word.ensures) c.loop-a.invariant.0 c.loop-a.invariant.1 s.room (c.loop-a.invariant.4 s.forest s.rows_of s.room) c.loop-a-test.true in let f = gather-turn in let w = c.requires.fit in let v = c.requires.rows_of.words_long in let i = c.loop-a.invariant in omega (arith, i.0, i.1, i.3)

pub gather-slice_bounds-gather_child-count : goal.gather-slice_bounds-gather_child-count
gather-slice_bounds-gather_child-count t c = let gather-turn : Turn c.args.words.now c.args.rows.now c.args.marks.now c.args.base c.args.pairs.now c.args.triples.now c.loop-a.pairs c.loop-a.triples c.requires.forest c.loop-a.a (c.loop-a.a + c.word.result) c.loop-a.used = let s = c.requires in turn _ _ _ _ _ _ _ _ s.forest _ _ _ (ap (λ (k : ℕ). c.loop-a.a + k) c.word.ensures) c.loop-a.invariant.0 c.loop-a.invariant.1 s.room (c.loop-a.invariant.4 s.forest s.rows_of s.room) c.loop-a-test.true in let f = gather-turn in let w = c.requires.fit in let v = c.requires.rows_of.words_long in let i = c.loop-a.invariant in omega (arith, i.0, i.1, i.3)

pub gather-slice_bounds-gather_child-start : goal.gather-slice_bounds-gather_child-start
gather-slice_bounds-gather_child-start t c = let gather-turn : Turn c.args.words.now c.args.rows.now c.args.marks.now c.args.base c.args.pairs.now c.args.triples.now c.loop-a.pairs c.loop-a.triples c.requires.forest c.loop-a.a (c.loop-a.a + c.word.result) c.loop-a.used = let s = c.requires in turn _ _ _ _ _ _ _ _ s.forest _ _ _ (ap (λ (k : ℕ). c.loop-a.a + k) c.word.ensures) c.loop-a.invariant.0 c.loop-a.invariant.1 s.room (c.loop-a.invariant.4 s.forest s.rows_of s.room) c.loop-a-test.true in let f = gather-turn in let w = c.requires.fit in let v = c.requires.rows_of.words_long in let i = c.loop-a.invariant in omega (arith, i.0, i.1, i.3)

pub gather-slice_bounds-gather_child-end : goal.gather-slice_bounds-gather_child-end
gather-slice_bounds-gather_child-end t c = let gather-turn : Turn c.args.words.now c.args.rows.now c.args.marks.now c.args.base c.args.pairs.now c.args.triples.now c.loop-a.pairs c.loop-a.triples c.requires.forest c.loop-a.a (c.loop-a.a + c.word.result) c.loop-a.used = let s = c.requires in turn _ _ _ _ _ _ _ _ s.forest _ _ _ (ap (λ (k : ℕ). c.loop-a.a + k) c.word.ensures) c.loop-a.invariant.0 c.loop-a.invariant.1 s.room (c.loop-a.invariant.4 s.forest s.rows_of s.room) c.loop-a-test.true in let f = gather-turn in let w = c.requires.fit in let v = c.requires.rows_of.words_long in let i = c.loop-a.invariant in omega (arith, i.0, i.1, i.3)

pub gather-offset_bounds-rows-a16 : goal.gather-offset_bounds-rows-a16
gather-offset_bounds-rows-a16 t c = let gather-turn : Turn c.args.words.now c.args.rows.now c.args.marks.now c.args.base c.args.pairs.now c.args.triples.now c.loop-a.pairs c.loop-a.triples c.requires.forest c.loop-a.a (c.loop-a.a + c.word.result) c.loop-a.used = let s = c.requires in turn _ _ _ _ _ _ _ _ s.forest _ _ _ (ap (λ (k : ℕ). c.loop-a.a + k) c.word.ensures) c.loop-a.invariant.0 c.loop-a.invariant.1 s.room (c.loop-a.invariant.4 s.forest s.rows_of s.room) c.loop-a-test.true in let f = gather-turn in let w = c.requires.fit in let v = c.requires.rows_of.words_long in let i = c.loop-a.invariant in omega (arith, i.0, i.1, i.3)

pub gather-slice_bounds-gather_child-count-in-loop-a : goal.gather-slice_bounds-gather_child-count-in-loop-a
gather-slice_bounds-gather_child-count-in-loop-a t c = let gather-turn : Turn c.args.words.now c.args.rows.now c.args.marks.now c.args.base c.args.pairs.now c.args.triples.now c.loop-a.pairs c.loop-a.triples c.requires.forest c.loop-a.a (c.loop-a.a + c.word.result) c.loop-a.used = let s = c.requires in turn _ _ _ _ _ _ _ _ s.forest _ _ _ (ap (λ (k : ℕ). c.loop-a.a + k) c.word.ensures) c.loop-a.invariant.0 c.loop-a.invariant.1 s.room (c.loop-a.invariant.4 s.forest s.rows_of s.room) c.loop-a-test.true in let f = gather-turn in let w = c.requires.fit in let v = c.requires.rows_of.words_long in let i = c.loop-a.invariant in omega (arith, i.0, i.1, i.3)

pub gather-slice_bounds-gather_child-start-in-loop-a : goal.gather-slice_bounds-gather_child-start-in-loop-a
gather-slice_bounds-gather_child-start-in-loop-a t c = let gather-turn : Turn c.args.words.now c.args.rows.now c.args.marks.now c.args.base c.args.pairs.now c.args.triples.now c.loop-a.pairs c.loop-a.triples c.requires.forest c.loop-a.a (c.loop-a.a + c.word.result) c.loop-a.used = let s = c.requires in turn _ _ _ _ _ _ _ _ s.forest _ _ _ (ap (λ (k : ℕ). c.loop-a.a + k) c.word.ensures) c.loop-a.invariant.0 c.loop-a.invariant.1 s.room (c.loop-a.invariant.4 s.forest s.rows_of s.room) c.loop-a-test.true in let f = gather-turn in let w = c.requires.fit in let v = c.requires.rows_of.words_long in let i = c.loop-a.invariant in omega (arith, i.0, i.1, i.3)

pub gather-slice_bounds-gather_child-end-in-loop-a : goal.gather-slice_bounds-gather_child-end-in-loop-a
gather-slice_bounds-gather_child-end-in-loop-a t c = let gather-turn : Turn c.args.words.now c.args.rows.now c.args.marks.now c.args.base c.args.pairs.now c.args.triples.now c.loop-a.pairs c.loop-a.triples c.requires.forest c.loop-a.a (c.loop-a.a + c.word.result) c.loop-a.used = let s = c.requires in turn _ _ _ _ _ _ _ _ s.forest _ _ _ (ap (λ (k : ℕ). c.loop-a.a + k) c.word.ensures) c.loop-a.invariant.0 c.loop-a.invariant.1 s.room (c.loop-a.invariant.4 s.forest s.rows_of s.room) c.loop-a-test.true in let f = gather-turn in let w = c.requires.fit in let v = c.requires.rows_of.words_long in let i = c.loop-a.invariant in omega (arith, i.0, i.1, i.3)

pub gather-offset_bounds-marks-a2 : goal.gather-offset_bounds-marks-a2
gather-offset_bounds-marks-a2 t c = let gather-turn : Turn c.args.words.now c.args.rows.now c.args.marks.now c.args.base c.args.pairs.now c.args.triples.now c.loop-a.pairs c.loop-a.triples c.requires.forest c.loop-a.a (c.loop-a.a + c.word.result) c.loop-a.used = let s = c.requires in turn _ _ _ _ _ _ _ _ s.forest _ _ _ (ap (λ (k : ℕ). c.loop-a.a + k) c.word.ensures) c.loop-a.invariant.0 c.loop-a.invariant.1 s.room (c.loop-a.invariant.4 s.forest s.rows_of s.room) c.loop-a-test.true in let f = gather-turn in let w = c.requires.fit in let v = c.requires.rows_of.words_long in let i = c.loop-a.invariant in omega (arith, i.0, i.1, i.3)

pub gather-slice_bounds-gather_child-count-in-loop-a-2 : goal.gather-slice_bounds-gather_child-count-in-loop-a-2
gather-slice_bounds-gather_child-count-in-loop-a-2 t c = let gather-turn : Turn c.args.words.now c.args.rows.now c.args.marks.now c.args.base c.args.pairs.now c.args.triples.now c.loop-a.pairs c.loop-a.triples c.requires.forest c.loop-a.a (c.loop-a.a + c.word.result) c.loop-a.used = let s = c.requires in turn _ _ _ _ _ _ _ _ s.forest _ _ _ (ap (λ (k : ℕ). c.loop-a.a + k) c.word.ensures) c.loop-a.invariant.0 c.loop-a.invariant.1 s.room (c.loop-a.invariant.4 s.forest s.rows_of s.room) c.loop-a-test.true in let f = gather-turn in let w = c.requires.fit in let v = c.requires.rows_of.words_long in let i = c.loop-a.invariant in omega (arith, i.0, i.1, i.3)

pub gather-slice_bounds-gather_child-start-in-loop-a-2 : goal.gather-slice_bounds-gather_child-start-in-loop-a-2
gather-slice_bounds-gather_child-start-in-loop-a-2 t c = let gather-turn : Turn c.args.words.now c.args.rows.now c.args.marks.now c.args.base c.args.pairs.now c.args.triples.now c.loop-a.pairs c.loop-a.triples c.requires.forest c.loop-a.a (c.loop-a.a + c.word.result) c.loop-a.used = let s = c.requires in turn _ _ _ _ _ _ _ _ s.forest _ _ _ (ap (λ (k : ℕ). c.loop-a.a + k) c.word.ensures) c.loop-a.invariant.0 c.loop-a.invariant.1 s.room (c.loop-a.invariant.4 s.forest s.rows_of s.room) c.loop-a-test.true in let f = gather-turn in let w = c.requires.fit in let v = c.requires.rows_of.words_long in let i = c.loop-a.invariant in omega (arith, i.0, i.1, i.3)

pub gather-slice_bounds-gather_child-end-in-loop-a-2 : goal.gather-slice_bounds-gather_child-end-in-loop-a-2
gather-slice_bounds-gather_child-end-in-loop-a-2 t c = let gather-turn : Turn c.args.words.now c.args.rows.now c.args.marks.now c.args.base c.args.pairs.now c.args.triples.now c.loop-a.pairs c.loop-a.triples c.requires.forest c.loop-a.a (c.loop-a.a + c.word.result) c.loop-a.used = let s = c.requires in turn _ _ _ _ _ _ _ _ s.forest _ _ _ (ap (λ (k : ℕ). c.loop-a.a + k) c.word.ensures) c.loop-a.invariant.0 c.loop-a.invariant.1 s.room (c.loop-a.invariant.4 s.forest s.rows_of s.room) c.loop-a-test.true in let f = gather-turn in let w = c.requires.fit in let v = c.requires.rows_of.words_long in let i = c.loop-a.invariant in omega (arith, i.0, i.1, i.3)

pub gather-overflow_add-base : goal.gather-overflow_add-base
gather-overflow_add-base t c = let gather-turn : Turn c.args.words.now c.args.rows.now c.args.marks.now c.args.base c.args.pairs.now c.args.triples.now c.loop-a.pairs c.loop-a.triples c.requires.forest c.loop-a.a (c.loop-a.a + c.word.result) c.loop-a.used = let s = c.requires in turn _ _ _ _ _ _ _ _ s.forest _ _ _ (ap (λ (k : ℕ). c.loop-a.a + k) c.word.ensures) c.loop-a.invariant.0 c.loop-a.invariant.1 s.room (c.loop-a.invariant.4 s.forest s.rows_of s.room) c.loop-a-test.true in let f = gather-turn in let w = c.requires.fit in let v = c.requires.rows_of.words_long in let i = c.loop-a.invariant in omega (arith, i.0, i.1, i.3)

pub gather-offset_bounds-pairs-u2 : goal.gather-offset_bounds-pairs-u2
gather-offset_bounds-pairs-u2 t c = let gather-turn : Turn c.args.words.now c.args.rows.now c.args.marks.now c.args.base c.args.pairs.now c.args.triples.now c.loop-a.pairs c.loop-a.triples c.requires.forest c.loop-a.a (c.loop-a.a + c.word.result) c.loop-a.used = let s = c.requires in turn _ _ _ _ _ _ _ _ s.forest _ _ _ (ap (λ (k : ℕ). c.loop-a.a + k) c.word.ensures) c.loop-a.invariant.0 c.loop-a.invariant.1 s.room (c.loop-a.invariant.4 s.forest s.rows_of s.room) c.loop-a-test.true in let f = gather-turn in let w = c.requires.fit in let v = c.requires.rows_of.words_long in let i = c.loop-a.invariant in omega (arith, i.0, i.1, i.3)

pub gather-slice_bounds-gather_child-count-in-loop-a-3 : goal.gather-slice_bounds-gather_child-count-in-loop-a-3
gather-slice_bounds-gather_child-count-in-loop-a-3 t c = let gather-turn : Turn c.args.words.now c.args.rows.now c.args.marks.now c.args.base c.args.pairs.now c.args.triples.now c.loop-a.pairs c.loop-a.triples c.requires.forest c.loop-a.a (c.loop-a.a + c.word.result) c.loop-a.used = let s = c.requires in turn _ _ _ _ _ _ _ _ s.forest _ _ _ (ap (λ (k : ℕ). c.loop-a.a + k) c.word.ensures) c.loop-a.invariant.0 c.loop-a.invariant.1 s.room (c.loop-a.invariant.4 s.forest s.rows_of s.room) c.loop-a-test.true in let f = gather-turn in let w = c.requires.fit in let v = c.requires.rows_of.words_long in let i = c.loop-a.invariant in omega (arith, i.0, i.1, i.3)

pub gather-slice_bounds-gather_child-start-in-loop-a-3 : goal.gather-slice_bounds-gather_child-start-in-loop-a-3
gather-slice_bounds-gather_child-start-in-loop-a-3 t c = let gather-turn : Turn c.args.words.now c.args.rows.now c.args.marks.now c.args.base c.args.pairs.now c.args.triples.now c.loop-a.pairs c.loop-a.triples c.requires.forest c.loop-a.a (c.loop-a.a + c.word.result) c.loop-a.used = let s = c.requires in turn _ _ _ _ _ _ _ _ s.forest _ _ _ (ap (λ (k : ℕ). c.loop-a.a + k) c.word.ensures) c.loop-a.invariant.0 c.loop-a.invariant.1 s.room (c.loop-a.invariant.4 s.forest s.rows_of s.room) c.loop-a-test.true in let f = gather-turn in let w = c.requires.fit in let v = c.requires.rows_of.words_long in let i = c.loop-a.invariant in omega (arith, i.0, i.1, i.3)

pub gather-slice_bounds-gather_child-end-in-loop-a-3 : goal.gather-slice_bounds-gather_child-end-in-loop-a-3
gather-slice_bounds-gather_child-end-in-loop-a-3 t c = let gather-turn : Turn c.args.words.now c.args.rows.now c.args.marks.now c.args.base c.args.pairs.now c.args.triples.now c.loop-a.pairs c.loop-a.triples c.requires.forest c.loop-a.a (c.loop-a.a + c.word.result) c.loop-a.used = let s = c.requires in turn _ _ _ _ _ _ _ _ s.forest _ _ _ (ap (λ (k : ℕ). c.loop-a.a + k) c.word.ensures) c.loop-a.invariant.0 c.loop-a.invariant.1 s.room (c.loop-a.invariant.4 s.forest s.rows_of s.room) c.loop-a-test.true in let f = gather-turn in let w = c.requires.fit in let v = c.requires.rows_of.words_long in let i = c.loop-a.invariant in omega (arith, i.0, i.1, i.3)

pub gather-offset_bounds-triples-u3 : goal.gather-offset_bounds-triples-u3
gather-offset_bounds-triples-u3 t c = let gather-turn : Turn c.args.words.now c.args.rows.now c.args.marks.now c.args.base c.args.pairs.now c.args.triples.now c.loop-a.pairs c.loop-a.triples c.requires.forest c.loop-a.a (c.loop-a.a + c.word.result) c.loop-a.used = let s = c.requires in turn _ _ _ _ _ _ _ _ s.forest _ _ _ (ap (λ (k : ℕ). c.loop-a.a + k) c.word.ensures) c.loop-a.invariant.0 c.loop-a.invariant.1 s.room (c.loop-a.invariant.4 s.forest s.rows_of s.room) c.loop-a-test.true in let f = gather-turn in let w = c.requires.fit in let v = c.requires.rows_of.words_long in let i = c.loop-a.invariant in omega (arith, i.0, i.1, i.3)

pub gather-slice_bounds-gather_child-count-in-loop-a-4 : goal.gather-slice_bounds-gather_child-count-in-loop-a-4
gather-slice_bounds-gather_child-count-in-loop-a-4 t c = let gather-turn : Turn c.args.words.now c.args.rows.now c.args.marks.now c.args.base c.args.pairs.now c.args.triples.now c.loop-a.pairs c.loop-a.triples c.requires.forest c.loop-a.a (c.loop-a.a + c.word.result) c.loop-a.used = let s = c.requires in turn _ _ _ _ _ _ _ _ s.forest _ _ _ (ap (λ (k : ℕ). c.loop-a.a + k) c.word.ensures) c.loop-a.invariant.0 c.loop-a.invariant.1 s.room (c.loop-a.invariant.4 s.forest s.rows_of s.room) c.loop-a-test.true in let f = gather-turn in let w = c.requires.fit in let v = c.requires.rows_of.words_long in let i = c.loop-a.invariant in omega (arith, i.0, i.1, i.3)

pub gather-slice_bounds-gather_child-start-in-loop-a-4 : goal.gather-slice_bounds-gather_child-start-in-loop-a-4
gather-slice_bounds-gather_child-start-in-loop-a-4 t c = let gather-turn : Turn c.args.words.now c.args.rows.now c.args.marks.now c.args.base c.args.pairs.now c.args.triples.now c.loop-a.pairs c.loop-a.triples c.requires.forest c.loop-a.a (c.loop-a.a + c.word.result) c.loop-a.used = let s = c.requires in turn _ _ _ _ _ _ _ _ s.forest _ _ _ (ap (λ (k : ℕ). c.loop-a.a + k) c.word.ensures) c.loop-a.invariant.0 c.loop-a.invariant.1 s.room (c.loop-a.invariant.4 s.forest s.rows_of s.room) c.loop-a-test.true in let f = gather-turn in let w = c.requires.fit in let v = c.requires.rows_of.words_long in let i = c.loop-a.invariant in omega (arith, i.0, i.1, i.3)

pub gather-slice_bounds-gather_child-end-in-loop-a-4 : goal.gather-slice_bounds-gather_child-end-in-loop-a-4
gather-slice_bounds-gather_child-end-in-loop-a-4 t c = let gather-turn : Turn c.args.words.now c.args.rows.now c.args.marks.now c.args.base c.args.pairs.now c.args.triples.now c.loop-a.pairs c.loop-a.triples c.requires.forest c.loop-a.a (c.loop-a.a + c.word.result) c.loop-a.used = let s = c.requires in turn _ _ _ _ _ _ _ _ s.forest _ _ _ (ap (λ (k : ℕ). c.loop-a.a + k) c.word.ensures) c.loop-a.invariant.0 c.loop-a.invariant.1 s.room (c.loop-a.invariant.4 s.forest s.rows_of s.room) c.loop-a-test.true in let f = gather-turn in let w = c.requires.fit in let v = c.requires.rows_of.words_long in let i = c.loop-a.invariant in omega (arith, i.0, i.1, i.3)

pub gather-gather_child-used-requires : goal.gather-gather_child-used-requires
gather-gather_child-used-requires t c = let gather-turn : Turn c.args.words.now c.args.rows.now c.args.marks.now c.args.base c.args.pairs.now c.args.triples.now c.loop-a.pairs c.loop-a.triples c.requires.forest c.loop-a.a (c.loop-a.a + c.word.result) c.loop-a.used = let s = c.requires in turn _ _ _ _ _ _ _ _ s.forest _ _ _ (ap (λ (k : ℕ). c.loop-a.a + k) c.word.ensures) c.loop-a.invariant.0 c.loop-a.invariant.1 s.room (c.loop-a.invariant.4 s.forest s.rows_of s.room) c.loop-a-test.true in let f = gather-turn in let w = c.requires.fit in let v = c.requires.rows_of.words_long in (omega (arith, c.decreases, f.part_long), record { tree = f.tree; rows_of = f.rows_of; fit = omega arith; room = f.room })

pub gather-overflow_add-used : goal.gather-overflow_add-used
gather-overflow_add-used t c = let gather-turn : Turn c.args.words.now c.args.rows.now c.args.marks.now c.args.base c.args.pairs.now c.args.triples.now c.loop-a.pairs c.loop-a.triples c.requires.forest c.loop-a.a (c.loop-a.a + c.word.result) c.loop-a.used = let s = c.requires in turn _ _ _ _ _ _ _ _ s.forest _ _ _ (ap (λ (k : ℕ). c.loop-a.a + k) c.word.ensures) c.loop-a.invariant.0 c.loop-a.invariant.1 s.room (c.loop-a.invariant.4 s.forest s.rows_of s.room) c.loop-a-test.true in let f = gather-turn in let k = (c.gather_child-used.ensures f.tree f.rows_of f.room).count in omega (arith, k, f.small, c.requires.room.pairs_room)

pub gather-loop-a-smaller : goal.gather-loop-a-smaller
gather-loop-a-smaller t c = let gather-turn : Turn c.args.words.now c.args.rows.now c.args.marks.now c.args.base c.args.pairs.now c.args.triples.now c.loop-a.pairs c.loop-a.triples c.requires.forest c.loop-a.a (c.loop-a.a + c.word.result) c.loop-a.used = let s = c.requires in turn _ _ _ _ _ _ _ _ s.forest _ _ _ (ap (λ (k : ℕ). c.loop-a.a + k) c.word.ensures) c.loop-a.invariant.0 c.loop-a.invariant.1 s.room (c.loop-a.invariant.4 s.forest s.rows_of s.room) c.loop-a-test.true in let f = gather-turn in let w = c.requires.fit in let v = c.requires.rows_of.words_long in let i = c.loop-a.invariant in omega (arith, i.0, i.1, i.3)

pub gather-loop-a-preserved : goal.gather-loop-a-preserved
gather-loop-a-preserved t c = let gather-turn : Turn c.args.words.now c.args.rows.now c.args.marks.now c.args.base c.args.pairs.now c.args.triples.now c.loop-a.pairs c.loop-a.triples c.requires.forest c.loop-a.a (c.loop-a.a + c.word.result) c.loop-a.used = let s = c.requires in turn _ _ _ _ _ _ _ _ s.forest _ _ _ (ap (λ (k : ℕ). c.loop-a.a + k) c.word.ensures) c.loop-a.invariant.0 c.loop-a.invariant.1 s.room (c.loop-a.invariant.4 s.forest s.rows_of s.room) c.loop-a-test.true in let f = gather-turn in let i = c.loop-a.invariant in let k = (c.gather_child-used.ensures f.tree f.rows_of f.room).count in (omega arith, omega arith, omega arith, omega (arith, k, f.small, c.requires.room.pairs_room), λ ts h r. let g = turn _ _ _ _ _ _ _ _ ts _ _ _ (ap (λ (k : ℕ). c.loop-a.a + k) c.word.ensures) i.0 i.1 r (i.4 ts h r) c.loop-a-test.true in g.next _ _ _ (c.gather_child-used.ensures g.tree g.rows_of g.room))

pub gather-shape_of-pairs : goal.gather-shape_of-pairs
gather-shape_of-pairs t c = c.loop-a.invariant.0

pub gather-shape_of-triples : goal.gather-shape_of-triples
gather-shape_of-triples t c = c.loop-a.invariant.1

pub gather-returns : goal.gather-returns
gather-returns t c = λ ts h r. end _ _ _ _ _ _ _ _ ts _ _ (c.loop-a.invariant.4 ts h r) c.loop-a-test.false

pub gather_child-bounds-marks-1 : goal.gather_child-bounds-marks-1
gather_child-bounds-marks-1 t c = let f = given _ _ _ _ _ _ c.requires in omega arith

pub gather_child-slice_bounds-gather-count : goal.gather_child-slice_bounds-gather-count
gather_child-slice_bounds-gather-count t c = let f = given _ _ _ _ _ _ c.requires in omega arith

pub gather_child-slice_bounds-gather-start : goal.gather_child-slice_bounds-gather-start
gather_child-slice_bounds-gather-start t c = let f = given _ _ _ _ _ _ c.requires in omega arith

pub gather_child-slice_bounds-gather-end : goal.gather_child-slice_bounds-gather-end
gather_child-slice_bounds-gather-end t c = let f = given _ _ _ _ _ _ c.requires in omega arith

pub gather_child-slice_bounds-gather-count-then-flag : goal.gather_child-slice_bounds-gather-count-then-flag
gather_child-slice_bounds-gather-count-then-flag t c = let f = given _ _ _ _ _ _ c.requires in omega arith

pub gather_child-slice_bounds-gather-start-then-flag : goal.gather_child-slice_bounds-gather-start-then-flag
gather_child-slice_bounds-gather-start-then-flag t c = let f = given _ _ _ _ _ _ c.requires in omega arith

pub gather_child-slice_bounds-gather-end-then-flag : goal.gather_child-slice_bounds-gather-end-then-flag
gather_child-slice_bounds-gather-end-then-flag t c = let f = given _ _ _ _ _ _ c.requires in omega arith

pub gather_child-slice_bounds-gather-count-then-flag-2 : goal.gather_child-slice_bounds-gather-count-then-flag-2
gather_child-slice_bounds-gather-count-then-flag-2 t c = let f = given _ _ _ _ _ _ c.requires in omega arith

pub gather_child-slice_bounds-gather-start-then-flag-2 : goal.gather_child-slice_bounds-gather-start-then-flag-2
gather_child-slice_bounds-gather-start-then-flag-2 t c = let f = given _ _ _ _ _ _ c.requires in omega arith

pub gather_child-slice_bounds-gather-end-then-flag-2 : goal.gather_child-slice_bounds-gather-end-then-flag-2
gather_child-slice_bounds-gather-end-then-flag-2 t c = let f = given _ _ _ _ _ _ c.requires in omega arith

pub gather_child-overflow_add-base : goal.gather_child-overflow_add-base
gather_child-overflow_add-base t c = let f = given _ _ _ _ _ _ c.requires in omega arith

pub gather_child-gather-n-requires : goal.gather_child-gather-n-requires
gather_child-gather-n-requires t c = let f = given _ _ _ _ _ _ c.requires in (omega (arith, c.decreases, f.tail_long), kids_given c.args.words.now c.args.rows.now c.args.marks.now c.args.base c.args.pairs.now c.args.triples.now (sym c.flag.ensures ∙ c.if-flag.true) c.requires)

pub gather_child-bounds-rows-0 : goal.gather_child-bounds-rows-0
gather_child-bounds-rows-0 t c = let f = given _ _ _ _ _ _ c.requires in omega arith

pub gather_child-bounds-rows-1 : goal.gather_child-bounds-rows-1
gather_child-bounds-rows-1 t c = let f = given _ _ _ _ _ _ c.requires in omega arith

pub gather_child-move_records-requires : goal.gather_child-move_records-requires
gather_child-move_records-requires t c = moved_room c.args.words.now c.args.rows.now c.args.marks.now c.args.base c.args.pairs.now c.args.triples.now _ _ _ (sym c.flag.ensures ∙ c.if-flag.true) c.requires c.gather-n.ensures (omega (arith, c.gather-n.auto))

pub gather_child-shape_of-pairs-then-flag : goal.gather_child-shape_of-pairs-then-flag
gather_child-shape_of-pairs-then-flag t c = let f = given _ _ _ _ _ _ c.requires in omega arith

pub gather_child-shape_of-triples-then-flag : goal.gather_child-shape_of-triples-then-flag
gather_child-shape_of-triples-then-flag t c = let f = given _ _ _ _ _ _ c.requires in omega arith

pub gather_child-returns-then-flag : goal.gather_child-returns-then-flag
gather_child-returns-then-flag t c = laid_gathered c.args.words.now c.args.rows.now c.args.marks.now c.args.base _ c.args.pairs.now c.args.triples.now _ _ _ (sym c.flag.ensures ∙ c.if-flag.true) c.gather-n.ensures c.move_records.ensures

pub gather_child-overflow_cast-node : goal.gather_child-overflow_cast-node
gather_child-overflow_cast-node t c = let f = given _ _ _ _ _ _ c.requires in omega arith

pub gather_child-bounds-marks-0 : goal.gather_child-bounds-marks-0
gather_child-bounds-marks-0 t c = let f = given _ _ _ _ _ _ c.requires in omega arith

pub gather_child-bounds-rows-0-then-flag-2 : goal.gather_child-bounds-rows-0-then-flag-2
gather_child-bounds-rows-0-then-flag-2 t c = let f = given _ _ _ _ _ _ c.requires in omega arith

pub gather_child-bounds-rows-2 : goal.gather_child-bounds-rows-2
gather_child-bounds-rows-2 t c = let f = given _ _ _ _ _ _ c.requires in omega arith

pub gather_child-bounds-rows-1-then-flag-2 : goal.gather_child-bounds-rows-1-then-flag-2
gather_child-bounds-rows-1-then-flag-2 t c = let f = given _ _ _ _ _ _ c.requires in omega arith

pub gather_child-put_record-requires : goal.gather_child-put_record-requires
gather_child-put_record-requires t c = one_room c.args.words.now c.args.rows.now c.args.marks.now c.args.base c.args.pairs.now c.args.triples.now (sym c.flag.ensures ∙ c.if-flag.false) (sym c.flag-2.ensures ∙ c.if-flag-2.true) c.requires

pub gather_child-shape_of-pairs-then-flag-2 : goal.gather_child-shape_of-pairs-then-flag-2
gather_child-shape_of-pairs-then-flag-2 t c = let f = given _ _ _ _ _ _ c.requires in omega arith

pub gather_child-shape_of-triples-then-flag-2 : goal.gather_child-shape_of-triples-then-flag-2
gather_child-shape_of-triples-then-flag-2 t c = let f = given _ _ _ _ _ _ c.requires in omega arith

pub gather_child-returns-then-flag-2 : goal.gather_child-returns-then-flag-2
gather_child-returns-then-flag-2 t c = out_gathered c.args.words.now c.args.rows.now c.args.marks.now c.args.base c.args.pairs.now c.args.triples.now _ _ (sym c.flag.ensures ∙ c.if-flag.false) (sym c.flag-2.ensures ∙ c.if-flag-2.true) c.put_record.ensures

pub gather_child-returns : goal.gather_child-returns
gather_child-returns t c = none_gathered c.args.words.now c.args.rows.now c.args.marks.now c.args.base c.args.pairs.now c.args.triples.now (sym c.flag.ensures ∙ c.if-flag.false) (sym c.flag-2.ensures ∙ c.if-flag-2.false)
