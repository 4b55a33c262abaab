use Rattle.std.proofs.Common.{◌≡◌, drop}
use Rattle.sp_lower.specs.Faults.{first_fault, variable_fault}
use Rattle.sp_lower.proofs.variables.first_variable_fault.Given as goal

abbrev pub invariant-loop-at : goal.invariant-loop-at
invariant-loop-at l = first_fault variable_fault l.at (drop l.at l.vars) ≡ first_fault variable_fault 0 l.vars
