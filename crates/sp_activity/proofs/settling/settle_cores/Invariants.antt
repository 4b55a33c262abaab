use Rattle.std.proofs.Common.{drop, map}
use Rattle.sp_activity.specs.Stages.{is_core_broken}
use Rattle.sp_activity.specs.Uses.{IsSettling}
use Rattle.sp_activity.proofs.settling.settle_cores.Given as goal

abbrev pub invariant-loop-place : goal.invariant-loop-place
invariant-loop-place l = IsSettling (map (is_core_broken l.bounds) l.cores) (drop l.place-index l.places) l.flags
