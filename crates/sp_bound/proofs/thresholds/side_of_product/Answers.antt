use Rattle.sp_bound.proofs.ThresholdLemmas.{product_told}
use Rattle.sp_bound.proofs.thresholds.side_of_product.Goals as goal

pub returns : goal.returns
returns c = product_told c.args.product.now c.args.sides.now c.less-side.result c.side_or_far.result c.requires c.less-side.ensures c.side_or_far.ensures
