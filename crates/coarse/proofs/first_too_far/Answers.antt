use Rattle.std.specs.Prelude.{None}
use native.Mathlib.Omega.{arith}
use mathlib.Core.Path.{refl, sym, ap, ◌∙◌}
use lib.ListN.{length-set}
use Rattle.steps.specs.Scan.{at_node}
use Rattle.tables.proofs.ScanLaws.{pass, here, over, start}
use Rattle.edges.specs.Edges.{edge_by}
use Rattle.coarse.specs.Panel.{far_node}
use Rattle.std.specs.Prelude.{is_some}
use Rattle.coarse.proofs.Spans.{far_none}
use Rattle.coarse.proofs.Above.{stacked_none, room, pushed, seen-too}
use Rattle.coarse.proofs.first_too_far.Goals as goal

pub loop-i-init : goal.loop-i-init
loop-i-init c = let a = c.args in
    (omega arith, omega arith, refl, stacked_none _, start (far_node (edge_by a.words.now a.rows.now) a.rows.now a.marks.now) at_node None a.n)

pub seen_at-s-requires : goal.seen_at-s-requires
seen_at-s-requires c = let h = c.still_above-d.ensures.0 in
    let g = c.loop-i.invariant.1 in
    let f = c.requires.few in
    (omega arith, omega arith)

pub returns-then-is_none : goal.returns-then-is_none
returns-then-is_none c = let a = c.args in
    let l = c.loop-i in
    let t = c.loop-i-test.true in
    let r = c.still_above-d in
    let far = far_node (edge_by a.words.now a.rows.now) a.rows.now a.marks.now in
    let same = ap is_some (sym (c.seen_at-s.ensures ∙ seen-too a.words.now a.n c.requires.tree.0 c.requires.tree.1 l.up l.d r.result l.i t l.invariant.3 r.ensures.1 a.rows.now a.marks.now)) ∙ c.is_none.ensures in
    sym (l.invariant.4 ∙ here far at_node None a.n l.i t (far_none (edge_by a.words.now a.rows.now) a.rows.now a.marks.now l.i _ same ∙ c.if-is_none.true))

pub bounds-up-d : goal.bounds-up-d
bounds-up-d c = let a = c.args in
    let l = c.loop-i in
    let t = c.loop-i-test.true in
    let r = c.still_above-d in
    room a.words.now a.n c.requires.tree.0 c.requires.tree.1 l.up l.d r.result l.i t l.invariant.3 r.ensures.1

pub loop-i-preserved : goal.loop-i-preserved
loop-i-preserved c = let a = c.args in
    let l = c.loop-i in
    let t = c.loop-i-test.true in
    let r = c.still_above-d in
    let far = far_node (edge_by a.words.now a.rows.now) a.rows.now a.marks.now in
    let same = ap is_some (sym (c.seen_at-s.ensures ∙ seen-too a.words.now a.n c.requires.tree.0 c.requires.tree.1 l.up l.d r.result l.i t l.invariant.3 r.ensures.1 a.rows.now a.marks.now)) ∙ c.is_none.ensures in
    let q = room a.words.now a.n c.requires.tree.0 c.requires.tree.1 l.up l.d r.result l.i t l.invariant.3 r.ensures.1 in (
      omega arith,
      omega arith,
      length-set l.up r.result l.i ∙ l.invariant.2,
      pushed a.words.now a.n c.requires.tree.0 c.requires.tree.1 l.up l.d r.result l.i t l.invariant.3 r.ensures.1 l.invariant.2,
      l.invariant.4 ∙ pass far at_node None a.n l.i t (far_none (edge_by a.words.now a.rows.now) a.rows.now a.marks.now l.i _ same ∙ c.if-is_none.false),
    )

pub returns : goal.returns
returns c = let a = c.args in
    let l = c.loop-i in
    sym (l.invariant.4 ∙ over (far_node (edge_by a.words.now a.rows.now) a.rows.now a.marks.now) at_node None a.n l.i (omega arith))
