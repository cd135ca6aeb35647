use native.Mathlib.Omega.{arith}
use mathlib.Core.Path.{◌≡◌, refl, sym, ap, ◌∙◌}
use mathlib.Core.List.{◌++◌}
use lib.ListN.{length, length-set}
use Rattle.edges.specs.Edges.{edge_by}
use Rattle.coarse.specs.Spans.{seen_of, seen_place, box_put}
use Rattle.std.specs.Prelude.{unwrap_or}
use Rattle.coarse.specs.Panel.{no_box}
use Rattle.coarse.proofs.Above.{stacked_none, room, pushed, seen-too}
use Rattle.coarse.proofs.Filling.{no-boxes, put-box, all_put, length_put}
use Rattle.coarse.proofs.put_boxes.Goals as goal

pub loop-i-init : goal.loop-i-init
loop-i-init c = let a = c.args in
    (omega arith, omega arith, refl, stacked_none _, c.requires.long, sym (ap (◌++ a.out.now) (no-boxes (seen_place (edge_by a.words.now a.rows.now) a.rows.now a.marks.now) 0)))

pub seen_at-s-requires : goal.seen_at-s-requires
seen_at-s-requires c = let h = c.still_above-d.ensures.0 in
    let g = c.loop-i.invariant.1 in
    let f = c.requires.few in
    (omega arith, omega arith)

pub bounds-up-d : goal.bounds-up-d
bounds-up-d c = let a = c.args in
    let l = c.loop-i in
    let t = c.loop-i-test.true in
    let r = c.still_above-d in
    room a.words.now a.n c.requires.tree.0 c.requires.tree.1 l.up l.d r.result l.i t l.invariant.3 r.ensures.1

pub loop-i-preserved : goal.loop-i-preserved
loop-i-preserved c = let a = c.args in
    let l = c.loop-i in
    let t = c.loop-i-test.true in
    let r = c.still_above-d in
    let see = seen_of (edge_by a.words.now a.rows.now) a.rows.now a.marks.now in
    let same : c.seen_at-s.result ≡ see l.i = c.seen_at-s.ensures ∙ seen-too a.words.now a.n c.requires.tree.0 c.requires.tree.1 l.up l.d r.result l.i t l.invariant.3 r.ensures.1 a.rows.now a.marks.now in
    let place : c.unwrap_or-place.result ≡ unwrap_or (see l.i) no_box = c.unwrap_or-place.ensures ∙ rw (c.no_box.ensures, same) in
    let q = room a.words.now a.n c.requires.tree.0 c.requires.tree.1 l.up l.d r.result l.i t l.invariant.3 r.ensures.1 in (
      omega arith,
      omega arith,
      length-set l.up r.result l.i ∙ l.invariant.2,
      pushed a.words.now a.n c.requires.tree.0 c.requires.tree.1 l.up l.d r.result l.i t l.invariant.3 r.ensures.1 l.invariant.2,
      ap length c.put_box.ensures ∙ length_put l.out l.i c.unwrap_or-place.result ∙ l.invariant.4,
      c.put_box.ensures ∙ ap (box_put l.out l.i) place ∙ put-box (seen_place (edge_by a.words.now a.rows.now) a.rows.now a.marks.now) a.out.now l.out a.n l.i c.requires.long t l.invariant.5,
    )

pub shape_of-out : goal.shape_of-out
shape_of-out c = c.loop-i.invariant.4 ∙ sym c.requires.long

pub returns : goal.returns
returns c = let a = c.args in
    let l = c.loop-i in
    l.invariant.5 ∙ all_put (seen_place (edge_by a.words.now a.rows.now) a.rows.now a.marks.now) a.out.now a.n l.i c.requires.long (omega arith)
