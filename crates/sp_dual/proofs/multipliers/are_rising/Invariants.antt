use Rattle.std.proofs.Common.{drop}
use Rattle.sp_dual.specs.Inner.{next_of}
use Rattle.sp_dual.proofs.EntryLemmas.{Turns}
use Rattle.sp_dual.proofs.multipliers.are_rising.Given as goal

abbrev pub invariant-loop-entry : goal.invariant-loop-entry
invariant-loop-entry l = Turns l.entries (next_of l.last) (drop l.entry-index l.entries)
