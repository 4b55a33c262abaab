use Rattle.std.proofs.Common.{◌≡◌, drop}
use Rattle.sp_bound.specs.Inner.{plus_values, reduced}
use Rattle.sp_bound.proofs.bounds.plus_values.Given as goal

abbrev pub invariant-loop-at : goal.invariant-loop-at
invariant-loop-at l = plus_values (reduced l.model l.list) l.at l.sum (drop l.at l.bounds) ≡ plus_values (reduced l.model l.list) 0 l.start l.bounds
