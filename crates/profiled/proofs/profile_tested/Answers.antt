use borrow.Author.Rules.{rules}
use Rattle.profiled.proofs.profile_tested.Goals as goal

pub profile_spot-requires : goal.profile_spot-requires
profile_spot-requires c = c.requires c.in_ok-t.was
