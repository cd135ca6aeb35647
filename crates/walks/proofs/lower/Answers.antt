use mathlib.Core.Path.{◌≡◌, refl}
use Prim.Native.Nat.{◌*◌, ◌-◌, ◌≤◌}
use native.Mathlib.Omega.{arith}
use borrow.Author.Rules.{rules}
use lib.ListN.{length, length-set}
use Rattle.tree.specs.Tree.{Forest}
use Rattle.steps.specs.Row.{Row}
use Rattle.walks.specs.Tables.{RowsOf}
use Rattle.walks.proofs.LowerLoop.{Rest, Turn, begin, turn, end}
use Rattle.walks.proofs.lower.Goals as goal

pub loop-a-init : goal.loop-a-init
loop-a-init c = (refl, omega arith, begin c.args.words.now c.args.rows.now c.args.marks.now c.args.shift)

pub overflow_mul-a : goal.overflow_mul-a
overflow_mul-a c = let w = c.requires.fit in omega arith

pub overflow_mul-y : goal.overflow_mul-y
overflow_mul-y c = let at_turn : Turn c.args.words.now c.loop-a.rows c.args.marks.now c.args.shift c.requires.forest c.loop-a.a = turn _ _ _ _ c.requires.forest _ (c.loop-a.invariant.2 c.requires.forest c.requires.rows_of) c.loop-a-test.true in let f = at_turn in let w = c.requires.fit in omega (arith, c.loop-a.invariant.1)

pub overflow_add-y : goal.overflow_add-y
overflow_add-y c = let at_turn : Turn c.args.words.now c.loop-a.rows c.args.marks.now c.args.shift c.requires.forest c.loop-a.a = turn _ _ _ _ c.requires.forest _ (c.loop-a.invariant.2 c.requires.forest c.requires.rows_of) c.loop-a-test.true in let f = at_turn in let w = c.requires.fit in omega (arith, c.loop-a.invariant.1)

pub overflow_mul-m : goal.overflow_mul-m
overflow_mul-m c = let at_turn : Turn c.args.words.now c.loop-a.rows c.args.marks.now c.args.shift c.requires.forest c.loop-a.a = turn _ _ _ _ c.requires.forest _ (c.loop-a.invariant.2 c.requires.forest c.requires.rows_of) c.loop-a-test.true in let f = at_turn in let w = c.requires.fit in omega (arith, c.loop-a.invariant.1)

pub overflow_add-m : goal.overflow_add-m
overflow_add-m c = let at_turn : Turn c.args.words.now c.loop-a.rows c.args.marks.now c.args.shift c.requires.forest c.loop-a.a = turn _ _ _ _ c.requires.forest _ (c.loop-a.invariant.2 c.requires.forest c.requires.rows_of) c.loop-a-test.true in let f = at_turn in let w = c.requires.fit in omega (arith, c.loop-a.invariant.1)

pub offset_bounds-rows-y : goal.offset_bounds-rows-y
offset_bounds-rows-y c = let at_turn : Turn c.args.words.now c.loop-a.rows c.args.marks.now c.args.shift c.requires.forest c.loop-a.a = turn _ _ _ _ c.requires.forest _ (c.loop-a.invariant.2 c.requires.forest c.requires.rows_of) c.loop-a-test.true in let f = at_turn in let w = c.requires.fit in omega (arith, c.loop-a.invariant.1)

pub bounds-rows-y : goal.bounds-rows-y
bounds-rows-y c = let at_turn : Turn c.args.words.now c.loop-a.rows c.args.marks.now c.args.shift c.requires.forest c.loop-a.a = turn _ _ _ _ c.requires.forest _ (c.loop-a.invariant.2 c.requires.forest c.requires.rows_of) c.loop-a-test.true in let f = at_turn in let w = c.requires.fit in omega (arith, c.loop-a.invariant.1)

pub offset_bounds-marks-m : goal.offset_bounds-marks-m
offset_bounds-marks-m c = let at_turn : Turn c.args.words.now c.loop-a.rows c.args.marks.now c.args.shift c.requires.forest c.loop-a.a = turn _ _ _ _ c.requires.forest _ (c.loop-a.invariant.2 c.requires.forest c.requires.rows_of) c.loop-a-test.true in let f = at_turn in let w = c.requires.fit in omega (arith, c.loop-a.invariant.1)

pub bounds-marks-m : goal.bounds-marks-m
bounds-marks-m c = let at_turn : Turn c.args.words.now c.loop-a.rows c.args.marks.now c.args.shift c.requires.forest c.loop-a.a = turn _ _ _ _ c.requires.forest _ (c.loop-a.invariant.2 c.requires.forest c.requires.rows_of) c.loop-a-test.true in let f = at_turn in let w = c.requires.fit in omega (arith, c.loop-a.invariant.1)

pub offset_bounds-rows-y-in-loop-a : goal.offset_bounds-rows-y-in-loop-a
offset_bounds-rows-y-in-loop-a c = let at_turn : Turn c.args.words.now c.loop-a.rows c.args.marks.now c.args.shift c.requires.forest c.loop-a.a = turn _ _ _ _ c.requires.forest _ (c.loop-a.invariant.2 c.requires.forest c.requires.rows_of) c.loop-a-test.true in let f = at_turn in let w = c.requires.fit in omega (arith, c.loop-a.invariant.1)

pub bounds-rows-y-in-loop-a : goal.bounds-rows-y-in-loop-a
bounds-rows-y-in-loop-a c = let at_turn : Turn c.args.words.now c.loop-a.rows c.args.marks.now c.args.shift c.requires.forest c.loop-a.a = turn _ _ _ _ c.requires.forest _ (c.loop-a.invariant.2 c.requires.forest c.requires.rows_of) c.loop-a-test.true in let f = at_turn in let w = c.requires.fit in omega (arith, c.loop-a.invariant.1)

pub overflow_cast-a : goal.overflow_cast-a
overflow_cast-a c = let at_turn : Turn c.args.words.now c.loop-a.rows c.args.marks.now c.args.shift c.requires.forest c.loop-a.a = turn _ _ _ _ c.requires.forest _ (c.loop-a.invariant.2 c.requires.forest c.requires.rows_of) c.loop-a-test.true in let f = at_turn in let w = c.requires.fit in omega (arith, c.loop-a.invariant.1)

pub overflow_add-a : goal.overflow_add-a
overflow_add-a c = let at_turn : Turn c.args.words.now c.loop-a.rows c.args.marks.now c.args.shift c.requires.forest c.loop-a.a = turn _ _ _ _ c.requires.forest _ (c.loop-a.invariant.2 c.requires.forest c.requires.rows_of) c.loop-a-test.true in let f = at_turn in let w = c.requires.fit in omega (arith, c.loop-a.invariant.1)

pub loop-a-smaller : goal.loop-a-smaller
loop-a-smaller c = let at_turn : Turn c.args.words.now c.loop-a.rows c.args.marks.now c.args.shift c.requires.forest c.loop-a.a = turn _ _ _ _ c.requires.forest _ (c.loop-a.invariant.2 c.requires.forest c.requires.rows_of) c.loop-a-test.true in let f = at_turn in let w = c.requires.fit in omega (arith, c.loop-a.invariant.1)

pub loop-a-preserved : goal.loop-a-preserved
loop-a-preserved c = let at_turn : Turn c.args.words.now c.loop-a.rows c.args.marks.now c.args.shift c.requires.forest c.loop-a.a = turn _ _ _ _ c.requires.forest _ (c.loop-a.invariant.2 c.requires.forest c.requires.rows_of) c.loop-a-test.true in let f = at_turn in (simp length-set c.loop-a.invariant.0, rw c.word.ensures (omega arith), λ ts h. rw c.word.ensures ((turn _ _ _ _ ts _ (c.loop-a.invariant.2 ts h) c.loop-a-test.true).next _ c.lowered_by.ensures))

pub shape_of-rows : goal.shape_of-rows
shape_of-rows c = c.loop-a.invariant.0

pub returns : goal.returns
returns c = λ ts h. end _ _ _ _ ts _ (c.loop-a.invariant.2 ts h) c.loop-a-test.false
