use Rattle.std.proofs.Common.{to_z}
use Rattle.std.specs.Int.{w128}
use Rattle.sp_filter.specs.Filters.{distance_at, distance_width, box_at}
use Rattle.sp_filter.proofs.TermLemmas.{weighted-le}
use Rattle.sp_filter.proofs.TotalLemmas.{turn}
use Rattle.sp_filter.proofs.sums.weighted_distances.Goals as goal

pub overflow_add-sum : goal.overflow_add-sum
overflow_add-sum c =
    let t = turn (distance_at c.args.x.now) (distance_width (box_at c.args.x.now)) c.args.terms.now c.loop-term.term-index c.term-item.result (to_z w128 c.loop-term.sum-bits) _ _
    (weighted-le c.args.x.now c.term-item.result) c.loop-term-test.true c.term-item.is c.weighted-sum.ensures c.loop-term.invariant.whole c.loop-term.invariant.small in
    t.fits

pub loop-term-preserved : goal.loop-term-preserved
loop-term-preserved c =
    let t = turn (distance_at c.args.x.now) (distance_width (box_at c.args.x.now)) c.args.terms.now c.loop-term.term-index c.term-item.result (to_z w128 c.loop-term.sum-bits) _ _
    (weighted-le c.args.x.now c.term-item.result) c.loop-term-test.true c.term-item.is c.weighted-sum.ensures c.loop-term.invariant.whole c.loop-term.invariant.small in
    record { whole = t.same; small = t.small }
