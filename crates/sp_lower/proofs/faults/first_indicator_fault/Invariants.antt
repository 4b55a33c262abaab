use Rattle.std.proofs.Common.{◌≡◌, drop}
use Rattle.sp_lower.specs.Faults.{first_fault, indicator_fault}
use Rattle.sp_lower.proofs.faults.first_indicator_fault.Given as goal

abbrev pub invariant-loop-at : goal.invariant-loop-at
invariant-loop-at l = first_fault (indicator_fault l.root) l.at (drop l.at l.indicators) ≡ first_fault (indicator_fault l.root) 0 l.indicators
