use Rattle.std.proofs.Common.{◌≡◌, drop}
use Rattle.sp_bound.specs.Inner.{minus_shares, reduced}
use Rattle.sp_bound.proofs.reduced.reduced_cost.Given as goal

abbrev pub invariant-loop-weight : goal.invariant-loop-weight
invariant-loop-weight l = minus_shares l.model.rows l.var l.cost (drop l.weight-index l.list.y) ≡ reduced l.model l.list l.var
