use Rattle.std.proofs.Common.{ap, ◌+◌}
use Rattle.sp_activity.proofs.PairLemmas.{none_open, one_open}
use Rattle.sp_activity.proofs.stages.first_clash.Goals as goal

pub returns-in-None-clause-none : goal.returns-in-None-clause-none
returns-in-None-clause-none c = none_open c.args.bounds.now c.args.set.now c.as_slice-vars.result.now c.as_slice-vars.ensures c.in-None.ensures

pub returns-in-None-first_nonzero-clause-none : goal.returns-in-None-first_nonzero-clause-none
returns-in-None-first_nonzero-clause-none c =
    one_open c.args.bounds.now c.args.set.now c.as_slice-vars.result.now c.in-Some.first _ c.as_slice-vars.ensures (ap (λ n. c.in-Some.first + n) c.clash_distance.ensures.exact) c.in-Some.ensures c.in-None-first_nonzero.ensures
