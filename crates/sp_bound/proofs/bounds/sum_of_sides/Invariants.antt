use Rattle.std.proofs.Common.{◌≡◌, drop, Some, pos}
use Rattle.sp_bound.specs.Inner.{plus_sides}
use Rattle.sp_bound.proofs.bounds.sum_of_sides.Given as goal

abbrev pub invariant-loop-weight : goal.invariant-loop-weight
invariant-loop-weight l = plus_sides l.bounds l.model.rows l.sum (drop l.weight-index l.list.y) ≡ plus_sides l.bounds l.model.rows (Some (pos 0)) l.list.y
