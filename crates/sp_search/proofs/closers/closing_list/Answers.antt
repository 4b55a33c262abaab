use Rattle.sp_search.proofs.StepLemmas.{unlisted-more}
use Rattle.sp_search.proofs.closers.closing_list.Goals as goal

pub loop-place-preserved : goal.loop-place-preserved
loop-place-preserved c =
    unlisted-more c.args.model.now c.args.lists.now c.loop-place.place c.args.aim.now c.args.best.now c.args.bounds.now c.loop-place.invariant c.in-None.ensures
