use Rattle.std.proofs.Common.{take, arith}
use Rattle.std.proofs.lemmas.List.{length-map, length-take}
use Rattle.sp_activity.specs.Stages.{is_set_broken}
use Rattle.sp_activity.proofs.making.broken_sets.Goals as goal

pub push-requires : goal.push-requires
push-requires c =
    rw c.loop-set.invariant (omega (arith, length-map (take c.loop-set.set-index c.args.sets.now) (is_set_broken c.args.bounds.now), length-take c.loop-set.set-index c.args.sets.now))
