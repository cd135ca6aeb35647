use mathlib.Core.Path.{refl, sym, ◌∙◌}
use Rattle.reader.specs.Reader.{style_in, rtl_read}
use Rattle.steps.specs.Edges.{step_i}
use borrow.Author.Rules.{rules}
use Rattle.frames.proofs.framed_by.Goals as goal

pub returns : goal.returns
unfolding step_i
returns c = let a = c.args in
    let s = style_in a.r a.r.numbers.now in
    let p = sym (c.is_in_same_bfc-plain.ensures a.r.first a.r.second a.r.numbers.now a.r.node) in
    rw (c.flag.ensures ∙ sym (rtl_read a.r a.r.numbers.now), c.has_styles_preventing_being_collapsed_through-prevented.ensures s p, c.own_end_margins_collapse_with_children.ensures s p, c.children_margins_adjoin_own_edge.ensures s p) (rw (c.basis_below.ensures, c.vertical_axis_sum.ensures, c.content_box_inset-inset.ensures))
