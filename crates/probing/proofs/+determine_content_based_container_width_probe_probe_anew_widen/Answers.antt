use borrow.Enum.Refused.{opened}
use mathlib.Core.Path.{◌≡◌, refl, sym, ap, ◌∙◌}
use native.Mathlib.Omega.{arith}
use borrow.Author.Rules.{rules}
use lib.ListN.{length}
use Rattle.tree.specs.Tree.{Forest}
use Rattle.steps.specs.Page.{Cell}
use Rattle.style.specs.Flow.{is_leaf}
use Rattle.style.specs.declared.Measure.{Measure}
use Rattle.style.specs.declared.Style.{Style}
use Rattle.steps.specs.Width.{leaf_width}
use Rattle.reader.specs.Reader.{kind_at, measure_at_lem}
use Rattle.walks.specs.Tables.{TabledF}
use Rattle.walks.proofs.Given.{facts}
use Rattle.probing.proofs.WidestLoop.{Rest, Turn, begin, turn, end}
use Rattle.probing.proofs.OneTree.{probe_stood, probe_noted, anew-at-once, anew-inside, widened-past, widened-probe, all_rows}
use Prim.Native.Nat.{ℕ, ◌+◌, ◌*◌, ◌-◌, ◌≤◌, ◌<◌}
use Rattle.widths.specs.AtOnce.{width_at_once}
use Rattle.probing.proofs.+determine_content_based_container_width_probe_probe_anew_widen.Goals as goal

pub determine_content_based_container_width-loop-i-init : goal.determine_content_based_container_width-loop-i-init
determine_content_based_container_width-loop-i-init t c = (refl, refl, omega arith, begin c.args.words.now c.args.numbers.now c.args.rows.now c.args.marks.now c.args.edits.now c.args.base c.args.a)

pub determine_content_based_container_width-overflow_mul-i : goal.determine_content_based_container_width-overflow_mul-i
determine_content_based_container_width-overflow_mul-i t c = let w = c.requires.fit in let v = c.requires.tabled.words_long in omega (arith, c.loop-i.invariant.2)

pub determine_content_based_container_width-word_in-requires : goal.determine_content_based_container_width-word_in-requires
determine_content_based_container_width-word_in-requires t c = omega (arith, c.loop-i-test.true)

pub determine_content_based_container_width-overflow_cast-e : goal.determine_content_based_container_width-overflow_cast-e
determine_content_based_container_width-overflow_cast-e t c = let widest-turn : Turn c.args.words.now c.args.numbers.now c.loop-i.rows c.loop-i.marks c.args.edits.now c.args.base c.args.a c.requires.forest c.loop-i.most c.loop-i.i (c.loop-i.i + c.word_in.result) = let s = c.requires in turn _ _ _ _ _ _ _ s.forest _ _ _ (ap (λ (k : ℕ). c.loop-i.i + k) c.word_in.ensures) (c.loop-i.invariant.3 s.forest s.tabled) c.loop-i-test.true in let f = widest-turn in let w = c.requires.fit in let v = c.requires.tabled.words_long in omega arith

pub determine_content_based_container_width-overflow_add-e : goal.determine_content_based_container_width-overflow_add-e
determine_content_based_container_width-overflow_add-e t c = let widest-turn : Turn c.args.words.now c.args.numbers.now c.loop-i.rows c.loop-i.marks c.args.edits.now c.args.base c.args.a c.requires.forest c.loop-i.most c.loop-i.i (c.loop-i.i + c.word_in.result) = let s = c.requires in turn _ _ _ _ _ _ _ s.forest _ _ _ (ap (λ (k : ℕ). c.loop-i.i + k) c.word_in.ensures) (c.loop-i.invariant.3 s.forest s.tabled) c.loop-i-test.true in let f = widest-turn in let w = c.requires.fit in let v = c.requires.tabled.words_long in omega arith

pub determine_content_based_container_width-overflow_mul-i4 : goal.determine_content_based_container_width-overflow_mul-i4
determine_content_based_container_width-overflow_mul-i4 t c = let widest-turn : Turn c.args.words.now c.args.numbers.now c.loop-i.rows c.loop-i.marks c.args.edits.now c.args.base c.args.a c.requires.forest c.loop-i.most c.loop-i.i (c.loop-i.i + c.word_in.result) = let s = c.requires in turn _ _ _ _ _ _ _ s.forest _ _ _ (ap (λ (k : ℕ). c.loop-i.i + k) c.word_in.ensures) (c.loop-i.invariant.3 s.forest s.tabled) c.loop-i-test.true in let f = widest-turn in let w = c.requires.fit in let v = c.requires.tabled.words_long in omega arith

pub determine_content_based_container_width-overflow_mul-e4 : goal.determine_content_based_container_width-overflow_mul-e4
determine_content_based_container_width-overflow_mul-e4 t c = let widest-turn : Turn c.args.words.now c.args.numbers.now c.loop-i.rows c.loop-i.marks c.args.edits.now c.args.base c.args.a c.requires.forest c.loop-i.most c.loop-i.i (c.loop-i.i + c.word_in.result) = let s = c.requires in turn _ _ _ _ _ _ _ s.forest _ _ _ (ap (λ (k : ℕ). c.loop-i.i + k) c.word_in.ensures) (c.loop-i.invariant.3 s.forest s.tabled) c.loop-i-test.true in let f = widest-turn in let w = c.requires.fit in let v = c.requires.tabled.words_long in omega arith

pub determine_content_based_container_width-overflow_mul-i16 : goal.determine_content_based_container_width-overflow_mul-i16
determine_content_based_container_width-overflow_mul-i16 t c = let widest-turn : Turn c.args.words.now c.args.numbers.now c.loop-i.rows c.loop-i.marks c.args.edits.now c.args.base c.args.a c.requires.forest c.loop-i.most c.loop-i.i (c.loop-i.i + c.word_in.result) = let s = c.requires in turn _ _ _ _ _ _ _ s.forest _ _ _ (ap (λ (k : ℕ). c.loop-i.i + k) c.word_in.ensures) (c.loop-i.invariant.3 s.forest s.tabled) c.loop-i-test.true in let f = widest-turn in let w = c.requires.fit in let v = c.requires.tabled.words_long in omega arith

pub determine_content_based_container_width-overflow_mul-e16 : goal.determine_content_based_container_width-overflow_mul-e16
determine_content_based_container_width-overflow_mul-e16 t c = let widest-turn : Turn c.args.words.now c.args.numbers.now c.loop-i.rows c.loop-i.marks c.args.edits.now c.args.base c.args.a c.requires.forest c.loop-i.most c.loop-i.i (c.loop-i.i + c.word_in.result) = let s = c.requires in turn _ _ _ _ _ _ _ s.forest _ _ _ (ap (λ (k : ℕ). c.loop-i.i + k) c.word_in.ensures) (c.loop-i.invariant.3 s.forest s.tabled) c.loop-i-test.true in let f = widest-turn in let w = c.requires.fit in let v = c.requires.tabled.words_long in omega arith

pub determine_content_based_container_width-overflow_mul-i2 : goal.determine_content_based_container_width-overflow_mul-i2
determine_content_based_container_width-overflow_mul-i2 t c = let widest-turn : Turn c.args.words.now c.args.numbers.now c.loop-i.rows c.loop-i.marks c.args.edits.now c.args.base c.args.a c.requires.forest c.loop-i.most c.loop-i.i (c.loop-i.i + c.word_in.result) = let s = c.requires in turn _ _ _ _ _ _ _ s.forest _ _ _ (ap (λ (k : ℕ). c.loop-i.i + k) c.word_in.ensures) (c.loop-i.invariant.3 s.forest s.tabled) c.loop-i-test.true in let f = widest-turn in let w = c.requires.fit in let v = c.requires.tabled.words_long in omega arith

pub determine_content_based_container_width-overflow_mul-e2 : goal.determine_content_based_container_width-overflow_mul-e2
determine_content_based_container_width-overflow_mul-e2 t c = let widest-turn : Turn c.args.words.now c.args.numbers.now c.loop-i.rows c.loop-i.marks c.args.edits.now c.args.base c.args.a c.requires.forest c.loop-i.most c.loop-i.i (c.loop-i.i + c.word_in.result) = let s = c.requires in turn _ _ _ _ _ _ _ s.forest _ _ _ (ap (λ (k : ℕ). c.loop-i.i + k) c.word_in.ensures) (c.loop-i.invariant.3 s.forest s.tabled) c.loop-i-test.true in let f = widest-turn in let w = c.requires.fit in let v = c.requires.tabled.words_long in omega arith

pub determine_content_based_container_width-offset_bounds-words-i4 : goal.determine_content_based_container_width-offset_bounds-words-i4
determine_content_based_container_width-offset_bounds-words-i4 t c = let widest-turn : Turn c.args.words.now c.args.numbers.now c.loop-i.rows c.loop-i.marks c.args.edits.now c.args.base c.args.a c.requires.forest c.loop-i.most c.loop-i.i (c.loop-i.i + c.word_in.result) = let s = c.requires in turn _ _ _ _ _ _ _ s.forest _ _ _ (ap (λ (k : ℕ). c.loop-i.i + k) c.word_in.ensures) (c.loop-i.invariant.3 s.forest s.tabled) c.loop-i-test.true in let f = widest-turn in let w = c.requires.fit in let v = c.requires.tabled.words_long in omega arith

pub determine_content_based_container_width-slice_bounds-widen-count : goal.determine_content_based_container_width-slice_bounds-widen-count
determine_content_based_container_width-slice_bounds-widen-count t c = let widest-turn : Turn c.args.words.now c.args.numbers.now c.loop-i.rows c.loop-i.marks c.args.edits.now c.args.base c.args.a c.requires.forest c.loop-i.most c.loop-i.i (c.loop-i.i + c.word_in.result) = let s = c.requires in turn _ _ _ _ _ _ _ s.forest _ _ _ (ap (λ (k : ℕ). c.loop-i.i + k) c.word_in.ensures) (c.loop-i.invariant.3 s.forest s.tabled) c.loop-i-test.true in let f = widest-turn in let w = c.requires.fit in let v = c.requires.tabled.words_long in omega arith

pub determine_content_based_container_width-slice_bounds-widen-start : goal.determine_content_based_container_width-slice_bounds-widen-start
determine_content_based_container_width-slice_bounds-widen-start t c = let widest-turn : Turn c.args.words.now c.args.numbers.now c.loop-i.rows c.loop-i.marks c.args.edits.now c.args.base c.args.a c.requires.forest c.loop-i.most c.loop-i.i (c.loop-i.i + c.word_in.result) = let s = c.requires in turn _ _ _ _ _ _ _ s.forest _ _ _ (ap (λ (k : ℕ). c.loop-i.i + k) c.word_in.ensures) (c.loop-i.invariant.3 s.forest s.tabled) c.loop-i-test.true in let f = widest-turn in let w = c.requires.fit in let v = c.requires.tabled.words_long in omega arith

pub determine_content_based_container_width-slice_bounds-widen-end : goal.determine_content_based_container_width-slice_bounds-widen-end
determine_content_based_container_width-slice_bounds-widen-end t c = let widest-turn : Turn c.args.words.now c.args.numbers.now c.loop-i.rows c.loop-i.marks c.args.edits.now c.args.base c.args.a c.requires.forest c.loop-i.most c.loop-i.i (c.loop-i.i + c.word_in.result) = let s = c.requires in turn _ _ _ _ _ _ _ s.forest _ _ _ (ap (λ (k : ℕ). c.loop-i.i + k) c.word_in.ensures) (c.loop-i.invariant.3 s.forest s.tabled) c.loop-i-test.true in let f = widest-turn in let w = c.requires.fit in let v = c.requires.tabled.words_long in omega arith

pub determine_content_based_container_width-offset_bounds-rows-i16 : goal.determine_content_based_container_width-offset_bounds-rows-i16
determine_content_based_container_width-offset_bounds-rows-i16 t c = let widest-turn : Turn c.args.words.now c.args.numbers.now c.loop-i.rows c.loop-i.marks c.args.edits.now c.args.base c.args.a c.requires.forest c.loop-i.most c.loop-i.i (c.loop-i.i + c.word_in.result) = let s = c.requires in turn _ _ _ _ _ _ _ s.forest _ _ _ (ap (λ (k : ℕ). c.loop-i.i + k) c.word_in.ensures) (c.loop-i.invariant.3 s.forest s.tabled) c.loop-i-test.true in let f = widest-turn in let w = c.requires.fit in let v = c.requires.tabled.words_long in omega arith

pub determine_content_based_container_width-slice_bounds-widen-count-in-loop-i : goal.determine_content_based_container_width-slice_bounds-widen-count-in-loop-i
determine_content_based_container_width-slice_bounds-widen-count-in-loop-i t c = let widest-turn : Turn c.args.words.now c.args.numbers.now c.loop-i.rows c.loop-i.marks c.args.edits.now c.args.base c.args.a c.requires.forest c.loop-i.most c.loop-i.i (c.loop-i.i + c.word_in.result) = let s = c.requires in turn _ _ _ _ _ _ _ s.forest _ _ _ (ap (λ (k : ℕ). c.loop-i.i + k) c.word_in.ensures) (c.loop-i.invariant.3 s.forest s.tabled) c.loop-i-test.true in let f = widest-turn in let w = c.requires.fit in let v = c.requires.tabled.words_long in omega arith

pub determine_content_based_container_width-slice_bounds-widen-start-in-loop-i : goal.determine_content_based_container_width-slice_bounds-widen-start-in-loop-i
determine_content_based_container_width-slice_bounds-widen-start-in-loop-i t c = let widest-turn : Turn c.args.words.now c.args.numbers.now c.loop-i.rows c.loop-i.marks c.args.edits.now c.args.base c.args.a c.requires.forest c.loop-i.most c.loop-i.i (c.loop-i.i + c.word_in.result) = let s = c.requires in turn _ _ _ _ _ _ _ s.forest _ _ _ (ap (λ (k : ℕ). c.loop-i.i + k) c.word_in.ensures) (c.loop-i.invariant.3 s.forest s.tabled) c.loop-i-test.true in let f = widest-turn in let w = c.requires.fit in let v = c.requires.tabled.words_long in omega arith

pub determine_content_based_container_width-slice_bounds-widen-end-in-loop-i : goal.determine_content_based_container_width-slice_bounds-widen-end-in-loop-i
determine_content_based_container_width-slice_bounds-widen-end-in-loop-i t c = let widest-turn : Turn c.args.words.now c.args.numbers.now c.loop-i.rows c.loop-i.marks c.args.edits.now c.args.base c.args.a c.requires.forest c.loop-i.most c.loop-i.i (c.loop-i.i + c.word_in.result) = let s = c.requires in turn _ _ _ _ _ _ _ s.forest _ _ _ (ap (λ (k : ℕ). c.loop-i.i + k) c.word_in.ensures) (c.loop-i.invariant.3 s.forest s.tabled) c.loop-i-test.true in let f = widest-turn in let w = c.requires.fit in let v = c.requires.tabled.words_long in omega arith

pub determine_content_based_container_width-offset_bounds-marks-i2 : goal.determine_content_based_container_width-offset_bounds-marks-i2
determine_content_based_container_width-offset_bounds-marks-i2 t c = let widest-turn : Turn c.args.words.now c.args.numbers.now c.loop-i.rows c.loop-i.marks c.args.edits.now c.args.base c.args.a c.requires.forest c.loop-i.most c.loop-i.i (c.loop-i.i + c.word_in.result) = let s = c.requires in turn _ _ _ _ _ _ _ s.forest _ _ _ (ap (λ (k : ℕ). c.loop-i.i + k) c.word_in.ensures) (c.loop-i.invariant.3 s.forest s.tabled) c.loop-i-test.true in let f = widest-turn in let w = c.requires.fit in let v = c.requires.tabled.words_long in omega arith

pub determine_content_based_container_width-slice_bounds-widen-count-in-loop-i-2 : goal.determine_content_based_container_width-slice_bounds-widen-count-in-loop-i-2
determine_content_based_container_width-slice_bounds-widen-count-in-loop-i-2 t c = let widest-turn : Turn c.args.words.now c.args.numbers.now c.loop-i.rows c.loop-i.marks c.args.edits.now c.args.base c.args.a c.requires.forest c.loop-i.most c.loop-i.i (c.loop-i.i + c.word_in.result) = let s = c.requires in turn _ _ _ _ _ _ _ s.forest _ _ _ (ap (λ (k : ℕ). c.loop-i.i + k) c.word_in.ensures) (c.loop-i.invariant.3 s.forest s.tabled) c.loop-i-test.true in let f = widest-turn in let w = c.requires.fit in let v = c.requires.tabled.words_long in omega arith

pub determine_content_based_container_width-slice_bounds-widen-start-in-loop-i-2 : goal.determine_content_based_container_width-slice_bounds-widen-start-in-loop-i-2
determine_content_based_container_width-slice_bounds-widen-start-in-loop-i-2 t c = let widest-turn : Turn c.args.words.now c.args.numbers.now c.loop-i.rows c.loop-i.marks c.args.edits.now c.args.base c.args.a c.requires.forest c.loop-i.most c.loop-i.i (c.loop-i.i + c.word_in.result) = let s = c.requires in turn _ _ _ _ _ _ _ s.forest _ _ _ (ap (λ (k : ℕ). c.loop-i.i + k) c.word_in.ensures) (c.loop-i.invariant.3 s.forest s.tabled) c.loop-i-test.true in let f = widest-turn in let w = c.requires.fit in let v = c.requires.tabled.words_long in omega arith

pub determine_content_based_container_width-slice_bounds-widen-end-in-loop-i-2 : goal.determine_content_based_container_width-slice_bounds-widen-end-in-loop-i-2
determine_content_based_container_width-slice_bounds-widen-end-in-loop-i-2 t c = let widest-turn : Turn c.args.words.now c.args.numbers.now c.loop-i.rows c.loop-i.marks c.args.edits.now c.args.base c.args.a c.requires.forest c.loop-i.most c.loop-i.i (c.loop-i.i + c.word_in.result) = let s = c.requires in turn _ _ _ _ _ _ _ s.forest _ _ _ (ap (λ (k : ℕ). c.loop-i.i + k) c.word_in.ensures) (c.loop-i.invariant.3 s.forest s.tabled) c.loop-i-test.true in let f = widest-turn in let w = c.requires.fit in let v = c.requires.tabled.words_long in omega arith

pub determine_content_based_container_width-overflow_add-base : goal.determine_content_based_container_width-overflow_add-base
determine_content_based_container_width-overflow_add-base t c = let widest-turn : Turn c.args.words.now c.args.numbers.now c.loop-i.rows c.loop-i.marks c.args.edits.now c.args.base c.args.a c.requires.forest c.loop-i.most c.loop-i.i (c.loop-i.i + c.word_in.result) = let s = c.requires in turn _ _ _ _ _ _ _ s.forest _ _ _ (ap (λ (k : ℕ). c.loop-i.i + k) c.word_in.ensures) (c.loop-i.invariant.3 s.forest s.tabled) c.loop-i-test.true in let f = widest-turn in let w = c.requires.fit in let v = c.requires.tabled.words_long in omega arith

pub determine_content_based_container_width-widen-most-requires : goal.determine_content_based_container_width-widen-most-requires
determine_content_based_container_width-widen-most-requires t c = let widest-turn : Turn c.args.words.now c.args.numbers.now c.loop-i.rows c.loop-i.marks c.args.edits.now c.args.base c.args.a c.requires.forest c.loop-i.most c.loop-i.i (c.loop-i.i + c.word_in.result) = let s = c.requires in turn _ _ _ _ _ _ _ s.forest _ _ _ (ap (λ (k : ℕ). c.loop-i.i + k) c.word_in.ensures) (c.loop-i.invariant.3 s.forest s.tabled) c.loop-i-test.true in let f = widest-turn in let w = c.requires.fit in let v = c.requires.tabled.words_long in let u = c.requires.reach in (omega (arith, c.decreases), record { tree = f.tree; tabled = f.tabled; deep = f.shallow c.args.depth c.requires.deep; fit = omega arith; reach = omega arith })

pub determine_content_based_container_width-loop-i-smaller : goal.determine_content_based_container_width-loop-i-smaller
determine_content_based_container_width-loop-i-smaller t c = let widest-turn : Turn c.args.words.now c.args.numbers.now c.loop-i.rows c.loop-i.marks c.args.edits.now c.args.base c.args.a c.requires.forest c.loop-i.most c.loop-i.i (c.loop-i.i + c.word_in.result) = let s = c.requires in turn _ _ _ _ _ _ _ s.forest _ _ _ (ap (λ (k : ℕ). c.loop-i.i + k) c.word_in.ensures) (c.loop-i.invariant.3 s.forest s.tabled) c.loop-i-test.true in let f = widest-turn in let w = c.requires.fit in let v = c.requires.tabled.words_long in omega arith

pub determine_content_based_container_width-loop-i-preserved : goal.determine_content_based_container_width-loop-i-preserved
determine_content_based_container_width-loop-i-preserved t c = let widest-turn : Turn c.args.words.now c.args.numbers.now c.loop-i.rows c.loop-i.marks c.args.edits.now c.args.base c.args.a c.requires.forest c.loop-i.most c.loop-i.i (c.loop-i.i + c.word_in.result) = let s = c.requires in turn _ _ _ _ _ _ _ s.forest _ _ _ (ap (λ (k : ℕ). c.loop-i.i + k) c.word_in.ensures) (c.loop-i.invariant.3 s.forest s.tabled) c.loop-i-test.true in let f = widest-turn in (omega arith, omega arith, omega arith, λ ts h. let g = turn _ _ _ _ _ _ _ ts _ _ _ (ap (λ (k : ℕ). c.loop-i.i + k) c.word_in.ensures) (c.loop-i.invariant.3 ts h) c.loop-i-test.true in g.next _ _ _ (c.widen-most.ensures g.tree g.tabled))

pub determine_content_based_container_width-shape_of-rows : goal.determine_content_based_container_width-shape_of-rows
determine_content_based_container_width-shape_of-rows t c = c.loop-i.invariant.0

pub determine_content_based_container_width-shape_of-marks : goal.determine_content_based_container_width-shape_of-marks
determine_content_based_container_width-shape_of-marks t c = c.loop-i.invariant.1

pub determine_content_based_container_width-returns : goal.determine_content_based_container_width-returns
determine_content_based_container_width-returns t c = λ ts h. end _ _ _ _ _ _ _ ts _ _ (c.loop-i.invariant.3 ts h) c.loop-i-test.false

pub probe-stands-requires : goal.probe-stands-requires
probe-stands-requires t c = let f = facts _ _ _ _ _ _ _ c.requires in f.room

pub probe-bounds-rows-13 : goal.probe-bounds-rows-13
probe-bounds-rows-13 t c = let f = facts _ _ _ _ _ _ _ c.requires in omega arith

pub probe-shape_of-rows-then-stands : goal.probe-shape_of-rows-then-stands
probe-shape_of-rows-then-stands t c = let f = facts _ _ _ _ _ _ _ c.requires in omega arith

pub probe-shape_of-marks-then-stands : goal.probe-shape_of-marks-then-stands
probe-shape_of-marks-then-stands t c = let f = facts _ _ _ _ _ _ _ c.requires in omega arith

pub probe-returns-then-stands : goal.probe-returns-then-stands
probe-returns-then-stands t c = probe_stood c.args.words.now c.args.numbers.now c.args.rows.now c.args.marks.now c.args.edits.now c.args.base c.args.q _ c.stands.ensures c.if-stands.true

pub probe-probe_anew-w-requires : goal.probe-probe_anew-w-requires
probe-probe_anew-w-requires t c = (omega (arith, c.decreases), c.requires)

pub probe-note_probe-requires : goal.probe-note_probe-requires
probe-note_probe-requires t c = let f = facts _ _ _ _ _ _ _ c.requires in record { rows_some = omega arith; marks_some = omega arith }

pub probe-shape_of-rows : goal.probe-shape_of-rows
probe-shape_of-rows t c = let f = facts _ _ _ _ _ _ _ c.requires in omega arith

pub probe-shape_of-marks : goal.probe-shape_of-marks
probe-shape_of-marks t c = let f = facts _ _ _ _ _ _ _ c.requires in omega arith

pub probe-returns : goal.probe-returns
probe-returns t c = probe_noted c.args.words.now c.args.numbers.now c.args.rows.now c.args.marks.now c.args.edits.now c.args.base c.args.q _ _ _ _ _ _ c.stands.ensures c.if-stands.false c.probe_anew-w.ensures c.note_probe.ensures

pub probe_anew-width_at_once-width-requires : goal.probe_anew-width_at_once-width-requires
probe_anew-width_at_once-width-requires t c = let f = facts _ _ _ _ _ _ _ c.requires in (f.words_some, f.reach)

pub probe_anew-clear_rest-requires : goal.probe_anew-clear_rest-requires
probe_anew-clear_rest-requires t c = let f = facts _ _ _ _ _ _ _ c.requires in all_rows f.room f.whole

pub probe_anew-at-r-requires : goal.probe_anew-at-r-requires
probe_anew-at-r-requires t c = let f = facts _ _ _ _ _ _ _ c.requires in (f.words_some, f.reach)

pub probe_anew-slice_bounds-determine_content_based_container_width-count : goal.probe_anew-slice_bounds-determine_content_based_container_width-count
probe_anew-slice_bounds-determine_content_based_container_width-count t c = let f = facts _ _ _ _ _ _ _ c.requires in omega arith

pub probe_anew-slice_bounds-determine_content_based_container_width-start : goal.probe_anew-slice_bounds-determine_content_based_container_width-start
probe_anew-slice_bounds-determine_content_based_container_width-start t c = let f = facts _ _ _ _ _ _ _ c.requires in omega arith

pub probe_anew-slice_bounds-determine_content_based_container_width-end : goal.probe_anew-slice_bounds-determine_content_based_container_width-end
probe_anew-slice_bounds-determine_content_based_container_width-end t c = let f = facts _ _ _ _ _ _ _ c.requires in omega arith

pub probe_anew-slice_bounds-determine_content_based_container_width-count-in-None : goal.probe_anew-slice_bounds-determine_content_based_container_width-count-in-None
probe_anew-slice_bounds-determine_content_based_container_width-count-in-None t c = let f = facts _ _ _ _ _ _ _ c.requires in omega arith

pub probe_anew-slice_bounds-determine_content_based_container_width-start-in-None : goal.probe_anew-slice_bounds-determine_content_based_container_width-start-in-None
probe_anew-slice_bounds-determine_content_based_container_width-start-in-None t c = let f = facts _ _ _ _ _ _ _ c.requires in omega arith

pub probe_anew-slice_bounds-determine_content_based_container_width-end-in-None : goal.probe_anew-slice_bounds-determine_content_based_container_width-end-in-None
probe_anew-slice_bounds-determine_content_based_container_width-end-in-None t c = let f = facts _ _ _ _ _ _ _ c.requires in omega arith

pub probe_anew-slice_bounds-determine_content_based_container_width-count-in-None-2 : goal.probe_anew-slice_bounds-determine_content_based_container_width-count-in-None-2
probe_anew-slice_bounds-determine_content_based_container_width-count-in-None-2 t c = let f = facts _ _ _ _ _ _ _ c.requires in omega arith

pub probe_anew-slice_bounds-determine_content_based_container_width-start-in-None-2 : goal.probe_anew-slice_bounds-determine_content_based_container_width-start-in-None-2
probe_anew-slice_bounds-determine_content_based_container_width-start-in-None-2 t c = let f = facts _ _ _ _ _ _ _ c.requires in omega arith

pub probe_anew-slice_bounds-determine_content_based_container_width-end-in-None-2 : goal.probe_anew-slice_bounds-determine_content_based_container_width-end-in-None-2
probe_anew-slice_bounds-determine_content_based_container_width-end-in-None-2 t c = let f = facts _ _ _ _ _ _ _ c.requires in omega arith

pub probe_anew-overflow_add-base : goal.probe_anew-overflow_add-base
probe_anew-overflow_add-base t c = let f = facts _ _ _ _ _ _ _ c.requires in omega arith

pub probe_anew-overflow_sub-depth : goal.probe_anew-overflow_sub-depth
probe_anew-overflow_sub-depth t c = let f = facts _ _ _ _ _ _ _ c.requires in omega arith

pub probe_anew-determine_content_based_container_width-most-requires : goal.probe_anew-determine_content_based_container_width-most-requires
probe_anew-determine_content_based_container_width-most-requires t c = let f = facts _ _ _ _ _ _ _ c.requires in (omega (arith, c.decreases), f.kids)

pub probe_anew-shape_of-rows-in-Some : goal.probe_anew-shape_of-rows-in-Some
probe_anew-shape_of-rows-in-Some t c = let f = facts _ _ _ _ _ _ _ c.requires in omega arith

pub probe_anew-shape_of-marks-in-Some : goal.probe_anew-shape_of-marks-in-Some
probe_anew-shape_of-marks-in-Some t c = let f = facts _ _ _ _ _ _ _ c.requires in omega arith

pub probe_anew-returns-in-Some : goal.probe_anew-returns-in-Some
probe_anew-returns-in-Some t c = anew-at-once c.args.words.now c.args.numbers.now c.args.rows.now c.args.marks.now c.args.edits.now c.args.base c.args.q _ refl _ _ _ (sym c.width_at_once-width.ensures ∙ c.in-Some.is) c.clear_rest.ensures

pub probe_anew-shape_of-rows-in-None : goal.probe_anew-shape_of-rows-in-None
probe_anew-shape_of-rows-in-None t c = let f = facts _ _ _ _ _ _ _ c.requires in omega arith

pub probe_anew-shape_of-marks-in-None : goal.probe_anew-shape_of-marks-in-None
probe_anew-shape_of-marks-in-None t c = let f = facts _ _ _ _ _ _ _ c.requires in omega arith

pub probe_anew-returns-in-None : goal.probe_anew-returns-in-None
probe_anew-returns-in-None t c = anew-inside c.args.words.now c.args.numbers.now c.args.rows.now c.args.marks.now c.args.edits.now c.args.base c.args.q _ c.at-r.ensures.style _ _ _ _ _ (ap (λ (z : Style). width_at_once z c.args.q) c.at-r.ensures.style ∙ sym c.width_at_once-width.ensures ∙ c.in-None.is) c.available_inside-inside.ensures c.determine_content_based_container_width-most.ensures c.width_from.ensures

pub widen-at-r-requires : goal.widen-at-r-requires
widen-at-r-requires t c = let f = facts _ _ _ _ _ _ _ c.requires in (f.words_some, f.reach)

pub widen-probe-w-requires : goal.widen-probe-w-requires
widen-probe-w-requires t c = (omega (arith, c.decreases), c.requires)

pub widen-shape_of-rows-in-Probe : goal.widen-shape_of-rows-in-Probe
widen-shape_of-rows-in-Probe t c = let f = facts _ _ _ _ _ _ _ c.requires in omega arith

pub widen-shape_of-marks-in-Probe : goal.widen-shape_of-marks-in-Probe
widen-shape_of-marks-in-Probe t c = let f = facts _ _ _ _ _ _ _ c.requires in omega arith

pub widen-returns-in-Probe : goal.widen-returns-in-Probe
widen-returns-in-Probe t c = widened-probe c.args.words.now c.args.numbers.now c.args.rows.now c.args.marks.now c.args.edits.now c.args.base c.args.a c.args.most _ _ _ _ c.at-r.ensures.style c.want_of-want.ensures _ _ _ _ c.in-Probe.is c.probe-w.ensures c.outer_width.ensures c.f32_max.ensures

pub widen-clear_probes-requires : goal.widen-clear_probes-requires
widen-clear_probes-requires t c = let f = facts _ _ _ _ _ _ _ c.requires in f.whole

pub widen-shape_of-rows : goal.widen-shape_of-rows
widen-shape_of-rows t c = let f = facts _ _ _ _ _ _ _ c.requires in omega arith

pub widen-shape_of-marks : goal.widen-shape_of-marks
widen-shape_of-marks t c = let f = facts _ _ _ _ _ _ _ c.requires in omega arith

pub widen-returns : goal.widen-returns
widen-returns t c = widened-past c.args.words.now c.args.numbers.now c.args.rows.now c.args.marks.now c.args.edits.now c.args.base c.args.a c.args.most _ _ _ _ c.at-r.ensures.style c.want_of-want.ensures _ (opened c.in_default.in_default-own.keys2) c.clear_probes.ensures c.most_past.ensures
