use Rattle.std.proofs.Common.{ap, sym, ◌∙◌, ℕ}
use Rattle.style.specs.Codes.{flag_at}
use Rattle.steps.specs.Row.{is_laid}
use Rattle.print.specs.Pen.{pen}
use Rattle.print.specs.Text.{box_at, box_of}
use Rattle.print.proofs.PenLaws.{nothing}
use Rattle.print.proofs.put_node.Goals as goal

pub returns : goal.returns
unfolding box_at box_of is_laid
returns c =
    let t = ap (λ (b : ℕ). flag_at b 0) (sym c.word_at-bits.ensures) ∙ sym c.flag.ensures ∙ c.if-flag.false in
    rw t (nothing (pen c.args.out.now c.args.at))
