use Rattle.std.proofs.Common.{to_z}
use Rattle.std.specs.Int.{w128}
use Rattle.sp_model.specs.Boxes.{range_at}
use Rattle.sp_filter.specs.Filters.{Weighted, most_multiple, distances, distance_width}
use Rattle.sp_filter.proofs.TermLemmas.{most-distance-le}
use Rattle.sp_filter.proofs.TotalLemmas.{turn}
use Rattle.sp_filter.proofs.sums.most_distances.Goals as goal

pub overflow_add-sum : goal.overflow_add-sum
overflow_add-sum c =
    let t = turn (λ (t : Weighted). most_multiple t.1 (distances (range_at c.args.bounds.now t.0) t.2)) (distance_width c.args.bounds.now) c.args.terms.now c.loop-term.term-index c.term-item.result (to_z w128 c.loop-term.sum-bits) _ _
    (most-distance-le c.args.bounds.now c.term-item.result) c.loop-term-test.true c.term-item.is c.most_of_weighted-sum.ensures c.loop-term.invariant.whole c.loop-term.invariant.small in
    t.fits

pub loop-term-preserved : goal.loop-term-preserved
loop-term-preserved c =
    let t = turn (λ (t : Weighted). most_multiple t.1 (distances (range_at c.args.bounds.now t.0) t.2)) (distance_width c.args.bounds.now) c.args.terms.now c.loop-term.term-index c.term-item.result (to_z w128 c.loop-term.sum-bits) _ _
    (most-distance-le c.args.bounds.now c.term-item.result) c.loop-term-test.true c.term-item.is c.most_of_weighted-sum.ensures c.loop-term.invariant.whole c.loop-term.invariant.small in
    record { whole = t.same; small = t.small }
