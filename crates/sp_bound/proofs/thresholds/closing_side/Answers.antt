use Rattle.sp_bound.proofs.ThresholdLemmas.{side_given, side_without}
use Rattle.sp_bound.proofs.thresholds.closing_side.Goals as goal

pub returns-in-None : goal.returns-in-None
returns-in-None c = side_without c.args.threshold.now c.args.constant.now c.args.divisor.now c.args.sides.now c.in-None.is

pub returns-in-Some : goal.returns-in-Some
returns-in-Some c =
    side_given (record { law = c.quotients_are_exact.ensures.ceiling }) c.args.threshold.now c.in-Some.threshold c.args.constant.now c.args.divisor.now c.args.sides.now c.side_of_threshold.result c.in-Some.is c.requires.divisor c.side_of_threshold.ensures
