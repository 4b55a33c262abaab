use Rattle.std.proofs.Common.{rules}
use Rattle.sp_printing.specs.Printing.{entry_line}
use Rattle.sp_printing.proofs.replying.print_entry.Goals as goal

pub returns-in-Fetched : goal.returns-in-Fetched
unfolding entry_line
returns-in-Fetched g c = record { written = c.texts_join.ensures.nothing _ _ _ (search rules) }

pub returns-in-Stored : goal.returns-in-Stored
unfolding entry_line
returns-in-Stored g c = record { written = c.texts_join.ensures.nothing _ _ _ (search rules) }

pub returns-in-Ended : goal.returns-in-Ended
unfolding entry_line
returns-in-Ended g c = record { written = c.texts_join.ensures.nothing _ _ _ (search rules) }
