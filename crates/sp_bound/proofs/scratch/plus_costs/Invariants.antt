use Rattle.std.proofs.Common.{◌≡◌, drop}
use Rattle.sp_bound.specs.Inner.{cost_at, plus_values}
use Rattle.sp_bound.proofs.scratch.plus_costs.Given as goal

abbrev pub invariant-loop-at : goal.invariant-loop-at
invariant-loop-at l = plus_values (cost_at l.costs) l.at l.sum (drop l.at l.bounds) ≡ plus_values (cost_at l.costs) 0 l.start l.bounds
