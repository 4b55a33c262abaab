use Rattle.std.proofs.Common.{◌*◌, ap, ◌∙◌, arith}
use Rattle.sp_model.proofs.RangeLemmas.{drop_ranges, product_step}
use Rattle.sp_model.proofs.boxes.product_of_widths.Goals as goal

pub loop-place-preserved : goal.loop-place-preserved
loop-place-preserved c =
    let step = drop_ranges c.args.lower.now c.args.upper.now c.loop-place.place c.loop-place-test.true c.requires.paired in
    let fits = c.in-Some.ensures in
    let product = product_step _ _ _ _ _ c.in-Some.product c.loop-place.invariant.0 step (fits.1 ∙ ap (λ w. c.loop-place.count * w) c.width_between.ensures.value) in
    (product, omega arith)
