use Rattle.style.specs.declared.Style.{Style}
use mathlib.Core.Path.{refl, sym, ap, ◌∙◌}
use Prim.Native.Nat.{◌+◌, ◌*◌, ◌-◌, ◌≤◌, ℕ, ◌<◌}
use native.Mathlib.Omega.{arith}
use borrow.Author.Rules.{rules}
use lib.ListN.{length}
use Rattle.tree.specs.Tree.{Forest}
use Rattle.steps.specs.Page.{Site}
use Rattle.measure.specs.Contract.{SitesF}
use Rattle.measure.proofs.Sites.{facts}
use Rattle.measure.proofs.Loops.{WideRest, WideTurn, wide_begin, wide_turn, wide_end}
use Rattle.measure.proofs.OneNode.{width-at-once, width-inside, nothing-widened, outer-widened, probe-widened}
use Rattle.widths.specs.AtOnce.{width_at_once}
use Rattle.measure.proofs.+widened_widest_width_of.Goals as goal

pub widened-at-r-requires : goal.widened-at-r-requires
widened-at-r-requires t c = let f = facts _ _ _ _ c.requires in (f.words_some, f.reach)

pub widened-width_of-w-requires : goal.widened-width_of-w-requires
widened-width_of-w-requires t c = (omega (arith, c.decreases), c.requires)

pub widened-returns-in-Nothing : goal.widened-returns-in-Nothing
widened-returns-in-Nothing t c = nothing-widened c.args.words.now c.args.numbers.now c.args.base _ c.at-r.ensures.style c.args.a c.args.most _ c.want_of-want.ensures c.in-Nothing.is

pub widened-returns-in-Outer : goal.widened-returns-in-Outer
widened-returns-in-Outer t c = outer-widened c.args.words.now c.args.numbers.now c.args.base _ c.at-r.ensures.style c.args.a c.args.most _ c.want_of-want.ensures _ _ c.in-Outer.is c.f32_max.ensures

pub widened-returns-in-Probe : goal.widened-returns-in-Probe
widened-returns-in-Probe t c = probe-widened c.args.words.now c.args.numbers.now c.args.base _ c.at-r.ensures.style c.args.a c.args.most _ c.want_of-want.ensures _ _ _ _ c.in-Probe.is c.width_of-w.ensures c.outer_width-o.ensures c.f32_max-in-Probe.ensures

pub widest-loop-i-init : goal.widest-loop-i-init
widest-loop-i-init t c = (omega arith, wide_begin c.args.words.now c.args.numbers.now c.args.base c.args.a _ refl)

pub widest-overflow_mul-i : goal.widest-overflow_mul-i
widest-overflow_mul-i t c = let w = c.requires.fit in let v = c.requires.sites.words_long in omega (arith, c.loop-i.invariant.0)

pub widest-overflow_cast-e : goal.widest-overflow_cast-e
widest-overflow_cast-e t c = let widest-turn : WideTurn c.args.words.now c.args.numbers.now c.args.base c.args.a c.requires.forest c.loop-i.most c.loop-i.i (c.loop-i.i + c.word.result) = let s = c.requires in wide_turn _ _ _ _ s.forest _ _ _ (ap (λ (k : ℕ). c.loop-i.i + k) c.word.ensures) (c.loop-i.invariant.1 s.forest s.sites) c.loop-i-test.true in let f = widest-turn in let w = c.requires.fit in let v = c.requires.sites.words_long in omega arith

pub widest-overflow_add-e : goal.widest-overflow_add-e
widest-overflow_add-e t c = let widest-turn : WideTurn c.args.words.now c.args.numbers.now c.args.base c.args.a c.requires.forest c.loop-i.most c.loop-i.i (c.loop-i.i + c.word.result) = let s = c.requires in wide_turn _ _ _ _ s.forest _ _ _ (ap (λ (k : ℕ). c.loop-i.i + k) c.word.ensures) (c.loop-i.invariant.1 s.forest s.sites) c.loop-i-test.true in let f = widest-turn in let w = c.requires.fit in let v = c.requires.sites.words_long in omega arith

pub widest-overflow_mul-i4 : goal.widest-overflow_mul-i4
widest-overflow_mul-i4 t c = let widest-turn : WideTurn c.args.words.now c.args.numbers.now c.args.base c.args.a c.requires.forest c.loop-i.most c.loop-i.i (c.loop-i.i + c.word.result) = let s = c.requires in wide_turn _ _ _ _ s.forest _ _ _ (ap (λ (k : ℕ). c.loop-i.i + k) c.word.ensures) (c.loop-i.invariant.1 s.forest s.sites) c.loop-i-test.true in let f = widest-turn in let w = c.requires.fit in let v = c.requires.sites.words_long in omega arith

pub widest-overflow_mul-e4 : goal.widest-overflow_mul-e4
widest-overflow_mul-e4 t c = let widest-turn : WideTurn c.args.words.now c.args.numbers.now c.args.base c.args.a c.requires.forest c.loop-i.most c.loop-i.i (c.loop-i.i + c.word.result) = let s = c.requires in wide_turn _ _ _ _ s.forest _ _ _ (ap (λ (k : ℕ). c.loop-i.i + k) c.word.ensures) (c.loop-i.invariant.1 s.forest s.sites) c.loop-i-test.true in let f = widest-turn in let w = c.requires.fit in let v = c.requires.sites.words_long in omega arith

pub widest-offset_bounds-words-i4 : goal.widest-offset_bounds-words-i4
widest-offset_bounds-words-i4 t c = let widest-turn : WideTurn c.args.words.now c.args.numbers.now c.args.base c.args.a c.requires.forest c.loop-i.most c.loop-i.i (c.loop-i.i + c.word.result) = let s = c.requires in wide_turn _ _ _ _ s.forest _ _ _ (ap (λ (k : ℕ). c.loop-i.i + k) c.word.ensures) (c.loop-i.invariant.1 s.forest s.sites) c.loop-i-test.true in let f = widest-turn in let w = c.requires.fit in let v = c.requires.sites.words_long in omega arith

pub widest-slice_bounds-widened-count : goal.widest-slice_bounds-widened-count
widest-slice_bounds-widened-count t c = let widest-turn : WideTurn c.args.words.now c.args.numbers.now c.args.base c.args.a c.requires.forest c.loop-i.most c.loop-i.i (c.loop-i.i + c.word.result) = let s = c.requires in wide_turn _ _ _ _ s.forest _ _ _ (ap (λ (k : ℕ). c.loop-i.i + k) c.word.ensures) (c.loop-i.invariant.1 s.forest s.sites) c.loop-i-test.true in let f = widest-turn in let w = c.requires.fit in let v = c.requires.sites.words_long in omega arith

pub widest-slice_bounds-widened-start : goal.widest-slice_bounds-widened-start
widest-slice_bounds-widened-start t c = let widest-turn : WideTurn c.args.words.now c.args.numbers.now c.args.base c.args.a c.requires.forest c.loop-i.most c.loop-i.i (c.loop-i.i + c.word.result) = let s = c.requires in wide_turn _ _ _ _ s.forest _ _ _ (ap (λ (k : ℕ). c.loop-i.i + k) c.word.ensures) (c.loop-i.invariant.1 s.forest s.sites) c.loop-i-test.true in let f = widest-turn in let w = c.requires.fit in let v = c.requires.sites.words_long in omega arith

pub widest-slice_bounds-widened-end : goal.widest-slice_bounds-widened-end
widest-slice_bounds-widened-end t c = let widest-turn : WideTurn c.args.words.now c.args.numbers.now c.args.base c.args.a c.requires.forest c.loop-i.most c.loop-i.i (c.loop-i.i + c.word.result) = let s = c.requires in wide_turn _ _ _ _ s.forest _ _ _ (ap (λ (k : ℕ). c.loop-i.i + k) c.word.ensures) (c.loop-i.invariant.1 s.forest s.sites) c.loop-i-test.true in let f = widest-turn in let w = c.requires.fit in let v = c.requires.sites.words_long in omega arith

pub widest-overflow_add-base : goal.widest-overflow_add-base
widest-overflow_add-base t c = let widest-turn : WideTurn c.args.words.now c.args.numbers.now c.args.base c.args.a c.requires.forest c.loop-i.most c.loop-i.i (c.loop-i.i + c.word.result) = let s = c.requires in wide_turn _ _ _ _ s.forest _ _ _ (ap (λ (k : ℕ). c.loop-i.i + k) c.word.ensures) (c.loop-i.invariant.1 s.forest s.sites) c.loop-i-test.true in let f = widest-turn in let w = c.requires.fit in let v = c.requires.sites.words_long in omega arith

pub widest-widened-most-requires : goal.widest-widened-most-requires
widest-widened-most-requires t c = let widest-turn : WideTurn c.args.words.now c.args.numbers.now c.args.base c.args.a c.requires.forest c.loop-i.most c.loop-i.i (c.loop-i.i + c.word.result) = let s = c.requires in wide_turn _ _ _ _ s.forest _ _ _ (ap (λ (k : ℕ). c.loop-i.i + k) c.word.ensures) (c.loop-i.invariant.1 s.forest s.sites) c.loop-i-test.true in let f = widest-turn in let w = c.requires.fit in let v = c.requires.sites.words_long in let u = c.requires.reach in (omega (arith, c.decreases), record { tree = f.tree; sites = f.sites; deep = f.shallow c.args.depth c.requires.deep; fit = omega arith; reach = omega arith })

pub widest-loop-i-smaller : goal.widest-loop-i-smaller
widest-loop-i-smaller t c = let widest-turn : WideTurn c.args.words.now c.args.numbers.now c.args.base c.args.a c.requires.forest c.loop-i.most c.loop-i.i (c.loop-i.i + c.word.result) = let s = c.requires in wide_turn _ _ _ _ s.forest _ _ _ (ap (λ (k : ℕ). c.loop-i.i + k) c.word.ensures) (c.loop-i.invariant.1 s.forest s.sites) c.loop-i-test.true in let f = widest-turn in let w = c.requires.fit in let v = c.requires.sites.words_long in omega arith

pub widest-loop-i-preserved : goal.widest-loop-i-preserved
widest-loop-i-preserved t c = let widest-turn : WideTurn c.args.words.now c.args.numbers.now c.args.base c.args.a c.requires.forest c.loop-i.most c.loop-i.i (c.loop-i.i + c.word.result) = let s = c.requires in wide_turn _ _ _ _ s.forest _ _ _ (ap (λ (k : ℕ). c.loop-i.i + k) c.word.ensures) (c.loop-i.invariant.1 s.forest s.sites) c.loop-i-test.true in let f = widest-turn in (f.words_in_lem, λ ts h. let g = wide_turn _ _ _ _ ts _ _ _ (ap (λ (k : ℕ). c.loop-i.i + k) c.word.ensures) (c.loop-i.invariant.1 ts h) c.loop-i-test.true in g.next _ (c.widened-most.ensures g.tree g.sites))

pub widest-returns : goal.widest-returns
widest-returns t c = λ ts h. wide_end _ _ _ _ ts _ _ (c.loop-i.invariant.1 ts h) c.loop-i-test.false

pub width_of-width_at_once-width-requires : goal.width_of-width_at_once-width-requires
width_of-width_at_once-width-requires t c = let f = facts _ _ _ _ c.requires in (f.words_some, f.reach)

pub width_of-at-r-requires : goal.width_of-at-r-requires
width_of-at-r-requires t c = let f = facts _ _ _ _ c.requires in (f.words_some, f.reach)

pub width_of-slice_bounds-widest-count : goal.width_of-slice_bounds-widest-count
width_of-slice_bounds-widest-count t c = let f = facts _ _ _ _ c.requires in omega arith

pub width_of-slice_bounds-widest-start : goal.width_of-slice_bounds-widest-start
width_of-slice_bounds-widest-start t c = let f = facts _ _ _ _ c.requires in omega arith

pub width_of-slice_bounds-widest-end : goal.width_of-slice_bounds-widest-end
width_of-slice_bounds-widest-end t c = let f = facts _ _ _ _ c.requires in omega arith

pub width_of-overflow_add-base : goal.width_of-overflow_add-base
width_of-overflow_add-base t c = let f = facts _ _ _ _ c.requires in omega arith

pub width_of-overflow_sub-depth : goal.width_of-overflow_sub-depth
width_of-overflow_sub-depth t c = let f = facts _ _ _ _ c.requires in omega arith

pub width_of-widest-most-requires : goal.width_of-widest-most-requires
width_of-widest-most-requires t c = let f = facts _ _ _ _ c.requires in (omega (arith, c.decreases), f.kids)

pub width_of-returns-in-Some : goal.width_of-returns-in-Some
width_of-returns-in-Some t c = width-at-once c.args.words.now c.args.numbers.now c.args.base _ refl c.args.q _ (sym c.width_at_once-width.ensures ∙ c.in-Some.is)

pub width_of-returns-in-None : goal.width_of-returns-in-None
width_of-returns-in-None t c = width-inside c.args.words.now c.args.numbers.now c.args.base _ c.at-r.ensures.style c.args.q _ _ _ (ap (λ (z : Style). width_at_once z c.args.q) c.at-r.ensures.style ∙ sym c.width_at_once-width.ensures ∙ c.in-None.is) c.available_inside-room.ensures c.widest-most.ensures c.width_from.ensures
