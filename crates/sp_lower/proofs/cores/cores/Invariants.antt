use Rattle.std.proofs.Common.{◌≡◌, ◌++◌, drop}
use Rattle.sp_lower.specs.Variables.{cores_from}
use Rattle.sp_lower.proofs.cores.cores.Given as goal

abbrev pub invariant-loop-at : goal.invariant-loop-at
invariant-loop-at l = l.list ++ cores_from l.at (drop l.at l.vars) ≡ cores_from 0 l.vars
