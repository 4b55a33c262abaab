use Rattle.std.proofs.Common.{below_more, pos, sym, ◌∙◌}
use Rattle.std.proofs.lemmas.List.{get_or_read}
use Rattle.sp_activity.proofs.stages.first_core.Goals as goal

pub loop-at-preserved : goal.loop-at-preserved
loop-at-preserved c =
    let item = get_or_read c.args.cores.now c.loop-at.at c.index-cores-at.result c.loop-at-test.true c.index-cores-at.is (0, pos 0, pos 0) in
    let test = rw item at c.is_core_broken.ensures in
    below_more _ _ c.loop-at.invariant (sym test ∙ c.if-is_core_broken.false)
