use Rattle.std.proofs.Common.{◌≡◌, ℕ, ◌<◌, false}
use Rattle.sp_activity.specs.Reasons.{core_at}
use Rattle.sp_activity.specs.Stages.{is_core_broken}
use Rattle.sp_activity.proofs.stages.first_core.Given as goal

abbrev pub invariant-loop-at : goal.invariant-loop-at
invariant-loop-at l = (k : ℕ) → k < l.at → is_core_broken l.bounds (core_at l.cores k) ≡ false
