use Rattle.std.proofs.Common.{All, take}
use Rattle.sp_model.specs.Stated.{IsClosedRange}
use Rattle.sp_model.proofs.bound_rules.open_variable.Given as goal

abbrev pub invariant-loop-at : goal.invariant-loop-at
invariant-loop-at l = All IsClosedRange (take l.at l.bounds)
