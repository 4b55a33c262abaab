use Rattle.std.proofs.Common.{◌≡◌, map, take}
use Rattle.sp_activity.specs.Stages.{is_set_broken}
use Rattle.sp_activity.proofs.making.broken_sets.Given as goal

abbrev pub invariant-loop-set : goal.invariant-loop-set
invariant-loop-set l = l.flags ≡ map (is_set_broken l.bounds) (take l.set-index l.sets)
