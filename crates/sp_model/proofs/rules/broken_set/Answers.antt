use Rattle.std.proofs.Common.{arith}
use Rattle.sp_model.specs.Limits.{most_sets}
use Rattle.sp_model.specs.Rules.{IsSetLawful}
use Rattle.sp_model.proofs.RuleLemmas.{first_broken, first_past, one_more, all_lawful}
use Rattle.sp_model.proofs.rules.broken_set.Goals as goal

pub returns-then-k-ge-MOST_SETS : goal.returns-then-k-ge-MOST_SETS
returns-then-k-ge-MOST_SETS c =
    first_past most_sets (IsSetLawful c.args.count) c.args.sets.now c.loop-k.k c.loop-k-test.true c.loop-k.invariant.few c.if-k-ge-MOST_SETS.true c.loop-k.invariant.lawful

pub returns-then-not-lawful : goal.returns-then-not-lawful
returns-then-not-lawful c =
    first_broken most_sets (IsSetLawful c.args.count) c.args.sets.now c.loop-k.k c.index-sets-k.result c.loop-k-test.true c.index-sets-k.is c.loop-k.invariant.few c.loop-k.invariant.lawful (λ r. let h = c.in_ok-lawful.ensures.1 r in cc)

pub loop-k-preserved : goal.loop-k-preserved
loop-k-preserved c =
    record {
      few = omega arith;
      lawful = one_more most_sets (IsSetLawful c.args.count) c.args.sets.now c.loop-k.k c.index-sets-k.result c.loop-k-test.true c.index-sets-k.is c.loop-k.invariant.lawful (c.in_ok-lawful.ensures.0 c.if-not-lawful.false);
    }

pub returns : goal.returns
returns c =
    all_lawful most_sets (IsSetLawful c.args.count) c.args.sets.now c.loop-k.k c.loop-k-test.false c.loop-k.invariant.few c.loop-k.invariant.lawful
