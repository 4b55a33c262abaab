use Rattle.std.proofs.Common.{◌≡◌, map, take}
use Rattle.sp_activity.specs.Stages.{is_core_broken}
use Rattle.sp_activity.proofs.making.broken_cores.Given as goal

abbrev pub invariant-loop-core : goal.invariant-loop-core
invariant-loop-core l = l.flags ≡ map (is_core_broken l.bounds) (take l.core-index l.cores)
