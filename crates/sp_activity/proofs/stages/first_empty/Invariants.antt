use Rattle.std.proofs.Common.{◌≡◌, ℕ, ◌<◌, false}
use Rattle.sp_model.specs.Boxes.{range_at}
use Rattle.sp_activity.specs.Reasons.{is_crossed}
use Rattle.sp_activity.proofs.stages.first_empty.Given as goal

abbrev pub invariant-loop-at : goal.invariant-loop-at
invariant-loop-at l = (k : ℕ) → k < l.at → is_crossed (range_at l.bounds k) ≡ false
