use Rattle.std.proofs.Common.{◌≡◌, take}
use Rattle.sp_activity.specs.Paths.{branches}
use Rattle.sp_activity.proofs.trails.shared_front.Given as goal

abbrev pub invariant-loop-at : goal.invariant-loop-at
invariant-loop-at l = take l.at (branches l.trail) ≡ take l.at l.path
