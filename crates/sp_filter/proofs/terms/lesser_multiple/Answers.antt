use Rattle.std.proofs.Common.{◌*ℤ◌}
use Rattle.sp_filter.proofs.TermLemmas.{lesser_is}
use Rattle.sp_filter.proofs.terms.lesser_multiple.Goals as goal

pub returns : goal.returns
returns c =
    lesser_is (c.args.a.now *ℤ c.args.ends.now.0) (c.args.a.now *ℤ c.args.ends.now.1) _ _ _ c.product.ensures c.product-2.ensures
    c.requires.low c.requires.high c.min.ensures.value
