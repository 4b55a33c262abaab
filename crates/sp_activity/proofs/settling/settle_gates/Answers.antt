use Rattle.std.proofs.lemmas.List.{drop_all}
use Rattle.std.proofs.Common.{map}
use Rattle.sp_activity.specs.Reasons.{bare_indicator}
use Rattle.sp_activity.specs.Stages.{is_gate_broken}
use Rattle.sp_activity.proofs.UsesLemmas.{settling_map, settling_stop}
use Rattle.sp_activity.proofs.settling.settle_gates.Goals as goal

pub loop-place-preserved : goal.loop-place-preserved
loop-place-preserved c =
    settling_map (is_gate_broken c.args.gates.now.bounds) c.args.indicators.now bare_indicator c.args.places.now c.loop-place.place-index c.loop-place.flags c.put.new.self c.is_kept_broken-broken.result c.loop-place-test.true c.loop-place.invariant c.is_kept_broken-broken.ensures c.put.ensures

pub returns : goal.returns
returns c =
    let d = drop_all c.loop-place.place-index c.args.places.now c.loop-place-test.false in
    settling_stop (map (is_gate_broken c.args.gates.now.bounds) c.args.indicators.now) c.loop-place.flags (rw d at c.loop-place.invariant)
