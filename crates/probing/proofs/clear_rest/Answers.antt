use Rattle.probing.proofs.Clearing.{rest_whole, rest_becomes}
use borrow.Author.Rules.{rules}
use Rattle.probing.proofs.clear_rest.Goals as goal

pub clear_probes-requires : goal.clear_probes-requires
clear_probes-requires c = rest_whole _ _ c.requires

pub returns : goal.returns
returns c = rest_becomes c.args.rows.now c.args.marks.now _ _ c.clear_probes.ensures
