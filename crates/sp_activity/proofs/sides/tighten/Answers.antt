use Rattle.std.proofs.Common.{arith}
use Rattle.sp_activity.proofs.SideLemmas.{all_loose}
use Rattle.sp_activity.proofs.sides.tighten.Goals as goal

pub returns-clause-none : goal.returns-clause-none
returns-clause-none c =
    all_loose c.args.model.now c.args.bounds.now (λ v h. c.loop-at.invariant.loose v (let past = c.loop-at-test.false in let long = c.len-at-end.ensures in omega arith))
