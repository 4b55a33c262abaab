use Rattle.std.proofs.Common.{arith}
use Rattle.sp_model.specs.Limits.{most_indicators}
use Rattle.sp_model.specs.Rules.{IsIndicatorLawful}
use Rattle.sp_model.proofs.RuleLemmas.{first_broken, first_past, one_more, all_lawful}
use Rattle.sp_model.proofs.rules.broken_indicator.Goals as goal

pub returns-then-k-ge-MOST_INDICATORS : goal.returns-then-k-ge-MOST_INDICATORS
returns-then-k-ge-MOST_INDICATORS c =
    first_past most_indicators (IsIndicatorLawful c.args.root.now) c.args.indicators.now c.loop-k.k c.loop-k-test.true c.loop-k.invariant.few c.if-k-ge-MOST_INDICATORS.true c.loop-k.invariant.lawful

pub returns-then-not-is_indicator_lawful : goal.returns-then-not-is_indicator_lawful
returns-then-not-is_indicator_lawful c =
    first_broken most_indicators (IsIndicatorLawful c.args.root.now) c.args.indicators.now c.loop-k.k c.index-indicators-k.result c.loop-k-test.true c.index-indicators-k.is c.loop-k.invariant.few c.loop-k.invariant.lawful (λ r. let h = c.is_indicator_lawful.ensures.1 r in cc)

pub loop-k-preserved : goal.loop-k-preserved
loop-k-preserved c =
    record {
      few = omega arith;
      lawful = one_more most_indicators (IsIndicatorLawful c.args.root.now) c.args.indicators.now c.loop-k.k c.index-indicators-k.result c.loop-k-test.true c.index-indicators-k.is c.loop-k.invariant.lawful (c.is_indicator_lawful.ensures.0 c.if-not-is_indicator_lawful.false);
    }

pub returns : goal.returns
returns c =
    all_lawful most_indicators (IsIndicatorLawful c.args.root.now) c.args.indicators.now c.loop-k.k c.loop-k-test.false c.loop-k.invariant.few c.loop-k.invariant.lawful
