use Rattle.std.proofs.Common.{sym}
use Rattle.sp_activity.proofs.PairLemmas.{clash_breaks}
use Rattle.sp_activity.proofs.stages.is_set_broken.Goals as goal

pub returns-in-Some : goal.returns-in-Some
returns-in-Some c = sym (clash_breaks c.args.bounds.now c.args.set.now _ _ c.in-Some.ensures.some.here)
