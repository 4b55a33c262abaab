use Rattle.std.proofs.Common.{◌*ℤ◌, sym, ◌∙◌}
use Rattle.sp_bound.proofs.ThresholdLemmas.{excess_far, near, side_same}
use Rattle.sp_bound.proofs.thresholds.side_of_excess.Goals as goal

pub returns-in-None : goal.returns-in-None
returns-in-None c =
    excess_far c.args.divisor.now c.args.excess.now c.args.sides.now c.far_side.result c.requires.divisor c.requires.sides (sym c.times-product.ensures ∙ c.in-None.is) c.far_side.ensures

pub returns-in-Some : goal.returns-in-Some
returns-in-Some c =
    side_same c.in-Some.product (c.args.divisor.now *ℤ c.args.excess.now) c.args.sides.now c.side_of_product.result
    (near (c.args.divisor.now *ℤ c.args.excess.now) c.in-Some.product (sym c.times-product.ensures ∙ c.in-Some.is)) c.side_of_product.ensures
