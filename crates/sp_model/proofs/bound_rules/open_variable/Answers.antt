use Rattle.std.proofs.Common.{arith}
use Rattle.std.proofs.lemmas.List.{get_or_default}
use Rattle.sp_model.specs.Limits.{most_variables}
use Rattle.sp_model.specs.Stated.{IsClosedRange, open_at}
use Rattle.sp_model.proofs.RuleLemmas.{first_broken, one_more, all_lawful}
use Rattle.sp_model.proofs.bound_rules.open_variable.Goals as goal

pub returns-then-not-is_closed : goal.returns-then-not-is_closed
returns-then-not-is_closed c =
    let b = c.args.bounds.now in
    first_broken most_variables IsClosedRange b c.loop-at.at (open_at b c.loop-at.at) c.loop-at-test.true (get_or_default b c.loop-at.at _ _ c.loop-at-test.true) (omega arith) c.loop-at.invariant (λ r. let h = c.is_closed.ensures.1 r in cc)

pub loop-at-preserved : goal.loop-at-preserved
loop-at-preserved c =
    let b = c.args.bounds.now in
    one_more most_variables IsClosedRange b c.loop-at.at (open_at b c.loop-at.at) c.loop-at-test.true (get_or_default b c.loop-at.at _ _ c.loop-at-test.true) c.loop-at.invariant (c.is_closed.ensures.0 c.if-not-is_closed.false)

pub returns : goal.returns
returns c = (all_lawful c.loop-at.at IsClosedRange c.args.bounds.now c.loop-at.at c.loop-at-test.false (omega arith) c.loop-at.invariant).each
