use Rattle.std.proofs.Common.{◌≡◌, ℕ, ◌<◌, false}
use Rattle.sp_activity.specs.Reasons.{indicator_at}
use Rattle.sp_activity.specs.Stages.{is_gate_broken}
use Rattle.sp_activity.proofs.stages.first_gate.Given as goal

abbrev pub invariant-loop-at : goal.invariant-loop-at
invariant-loop-at l = (k : ℕ) → k < l.at → is_gate_broken l.bounds (indicator_at l.indicators k) ≡ false
