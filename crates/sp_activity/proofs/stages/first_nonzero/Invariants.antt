use Rattle.std.proofs.Common.{◌≡◌, ℕ, ◌<◌, ◌≤◌, false, get_or}
use Rattle.sp_model.specs.Boxes.{range_at}
use Rattle.sp_activity.specs.Reasons.{lacks_zero}
use Rattle.sp_activity.proofs.stages.first_nonzero.Given as goal

abbrev pub invariant-loop-at : goal.invariant-loop-at
invariant-loop-at l = (k : ℕ) → l.start ≤ k → k < l.at → lacks_zero (range_at l.bounds (get_or l.vars k 0)) ≡ false
