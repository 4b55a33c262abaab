use Rattle.std.proofs.Common.{take, arith}
use Rattle.std.proofs.lemmas.List.{length-map, length-take}
use Rattle.sp_activity.specs.Stages.{is_core_broken}
use Rattle.sp_activity.proofs.making.broken_cores.Goals as goal

pub push-requires : goal.push-requires
push-requires c =
    rw c.loop-core.invariant (omega (arith, length-map (take c.loop-core.core-index c.args.cores.now) (is_core_broken c.args.bounds.now), length-take c.loop-core.core-index c.args.cores.now))
