use borrow.Author.Rules.{rules}
use Rattle.replays.proofs.replay_lines.Goals as goal

pub replay_in-requires : goal.replay_in-requires
replay_in-requires c = record { short = c.requires.short; fits = c.requires.fits; lent = record { rows_zero = search rules; marks_zero = search rules; pairs_zero = search rules; triples_zero = search rules; list_zero = search rules } }
