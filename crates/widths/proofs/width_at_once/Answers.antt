use Rattle.std.specs.Prelude.{Option, Some, Float}
use Rattle.geometry.specs.declared.Size.{Size}
use mathlib.Core.Path.{◌≡◌, sym, ap, ◌∙◌}
use mathlib.Core.Bool.{true, false}
use borrow.Author.Rules.{rules}
use Rattle.style.specs.Flow.{is_leaf}
use Rattle.style.specs.Style.{style_at}
use Rattle.style.specs.declared.Measure.{Measure}
use Rattle.style.specs.declared.Style.{Style}
use Rattle.reader.specs.Reader.{kind_at, measure_at_lem}
use Rattle.steps.specs.Width.{leaf_width}
use Rattle.steps.specs.Probe.{probe_known}
use Rattle.widths.specs.AtOnce.{width_at_once}
use Rattle.widths.proofs.width_at_once.Goals as goal

pub returns-then-is_leaf : goal.returns-then-is_leaf
unfolding width_at_once
returns-then-is_leaf c = let a = c.args in
    let leaf : is_leaf (style_at a.words.now 0 a.numbers.now a.base).kind ≡ true = ap is_leaf (sym (kind_at a.words.now a.numbers.now a.base)) ∙ sym c.is_leaf.ensures ∙ c.if-is_leaf.true in
    rw leaf (ap Some (c.leaf_width-w.ensures ∙ ap (λ (m : Measure). leaf_width m a.q.available) (c.measure_at.ensures ∙ measure_at_lem a.words.now a.numbers.now a.base)))

pub returns : goal.returns
unfolding width_at_once
returns c = let a = c.args in
    let block : is_leaf (style_at a.words.now 0 a.numbers.now a.base).kind ≡ false = ap is_leaf (sym (kind_at a.words.now a.numbers.now a.base)) ∙ sym c.is_leaf.ensures ∙ c.if-is_leaf.false in
    rw block (ap (λ (z : Size (Option Float)). z.width) (c.probe_known-known.ensures ∙ ap (λ (z : Style). probe_known z a.q) c.at-r.ensures.style))
