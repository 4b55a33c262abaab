use Rattle.std.proofs.Common.{take, arith}
use Rattle.std.proofs.lemmas.List.{length-map, length-take}
use Rattle.sp_activity.specs.Stages.{is_gate_broken}
use Rattle.sp_activity.proofs.making.broken_gates.Goals as goal

pub push-requires : goal.push-requires
push-requires c =
    rw c.loop-indicator.invariant (omega (arith, length-map (take c.loop-indicator.indicator-index c.args.indicators.now) (is_gate_broken c.args.bounds.now), length-take c.loop-indicator.indicator-index c.args.indicators.now))
