use Rattle.std.proofs.Common.{length}
use Rattle.sp_bound.specs.Inner.{AreCleared}
use Rattle.sp_bound.proofs.scratch.clear.Given as goal

abbrev pub invariant-loop-at : goal.invariant-loop-at
invariant-loop-at l = AreCleared l.at (length l.initial.costs.items) l.costs.items
