use Rattle.reader.specs.Reader.{flow_read}
use Rattle.steps.specs.Width.{want_of}
use borrow.Author.Rules.{rules}
use Rattle.widths.proofs.want_of.Goals as goal

pub returns : goal.returns
unfolding want_of
returns c = let a = c.args in
    rw (c.want_in.ensures, c.flow_at.ensures, flow_read a.r a.r.numbers.now)
