use Rattle.std.proofs.Common.{◌-ℤ◌, ◌*ℤ◌, ℤ, ap, sym, ◌∙◌}
use Rattle.sp_bound.proofs.ThresholdLemmas.{near, side_same, threshold_far}
use Rattle.sp_bound.proofs.thresholds.side_of_threshold.Goals as goal

pub returns-in-None : goal.returns-in-None
returns-in-None c =
    threshold_far c.args.threshold.now c.args.constant.now c.args.divisor.now c.args.sides.now c.far_side.result c.requires.constant c.requires.divisor c.requires.sides (sym c.less-excess.ensures ∙ c.in-None.is) c.far_side.ensures

pub returns-in-Some : goal.returns-in-Some
returns-in-Some c =
    side_same (c.args.divisor.now *ℤ c.in-Some.excess) (c.args.divisor.now *ℤ (c.args.threshold.now -ℤ c.args.constant.now)) c.args.sides.now c.side_of_excess.result
    (ap (λ (z : ℤ). c.args.divisor.now *ℤ z) (near (c.args.threshold.now -ℤ c.args.constant.now) c.in-Some.excess (sym c.less-excess.ensures ∙ c.in-Some.is))) c.side_of_excess.ensures
