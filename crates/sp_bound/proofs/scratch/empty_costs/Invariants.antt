use Rattle.std.proofs.Common.{◌≡◌, length}
use Rattle.sp_bound.proofs.scratch.empty_costs.Given as goal

abbrev pub invariant-loop : goal.invariant-loop
invariant-loop l = length l.costs.items ≡ l.counter
