use Rattle.probing.proofs.Clearing.{first_whole, first_cleared}
use borrow.Author.Rules.{rules}
use Rattle.probing.proofs.clear_first.Goals as goal

pub clear_probes-requires : goal.clear_probes-requires
clear_probes-requires c = first_whole _ _ c.requires

pub returns : goal.returns
returns c = first_cleared c.args.rows.now c.args.marks.now _ _ c.clear_probes.ensures
