use Rattle.std.proofs.Common.{drop, length}
use Rattle.sp_bound.proofs.ReduceLemmas.{IsReducing}
use Rattle.sp_bound.proofs.scratch.reduce.Given as goal

abbrev pub invariant-loop-weight : goal.invariant-loop-weight
invariant-loop-weight l = IsReducing l.model l.list (length l.fn.costs.items) (drop l.weight-index l.list.y) l.costs.items
