use Rattle.std.proofs.Common.{below_more, sym, ◌∙◌}
use Rattle.std.proofs.lemmas.List.{get_or_read}
use Rattle.sp_activity.specs.Reasons.{bare_indicator}
use Rattle.sp_activity.proofs.stages.first_gate.Goals as goal

pub loop-at-preserved : goal.loop-at-preserved
loop-at-preserved c =
    let item = get_or_read c.args.indicators.now c.loop-at.at c.index-indicators-at.result c.loop-at-test.true c.index-indicators-at.is bare_indicator in
    let test = rw item at c.is_gate_broken.ensures in
    below_more _ _ c.loop-at.invariant (sym test ∙ c.if-is_gate_broken.false)
