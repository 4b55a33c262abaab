use Rattle.std.proofs.Common.{◌≡◌, map, take}
use Rattle.sp_activity.specs.Stages.{is_gate_broken}
use Rattle.sp_activity.proofs.making.broken_gates.Given as goal

abbrev pub invariant-loop-indicator : goal.invariant-loop-indicator
invariant-loop-indicator l = l.flags ≡ map (is_gate_broken l.bounds) (take l.indicator-index l.indicators)
