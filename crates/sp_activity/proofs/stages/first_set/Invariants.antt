use Rattle.std.proofs.Common.{◌≡◌, ℕ, ◌<◌, false}
use Rattle.sp_activity.specs.Reasons.{set_at}
use Rattle.sp_activity.specs.Stages.{is_set_broken}
use Rattle.sp_activity.proofs.stages.first_set.Given as goal

abbrev pub invariant-loop-at : goal.invariant-loop-at
invariant-loop-at l = (k : ℕ) → k < l.at → is_set_broken l.bounds (set_at l.sets k) ≡ false
