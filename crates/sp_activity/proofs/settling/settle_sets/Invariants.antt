use Rattle.std.proofs.Common.{drop, map}
use Rattle.sp_activity.specs.Stages.{is_set_broken}
use Rattle.sp_activity.specs.Uses.{IsSettling}
use Rattle.sp_activity.proofs.settling.settle_sets.Given as goal

abbrev pub invariant-loop-place : goal.invariant-loop-place
invariant-loop-place l = IsSettling (map (is_set_broken l.bounds) l.sets) (drop l.place-index l.places) l.flags
