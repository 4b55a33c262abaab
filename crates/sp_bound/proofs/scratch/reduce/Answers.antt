use Rattle.std.proofs.Common.{◌+◌, drop, length, refl}
use Rattle.sp_bound.proofs.TurnLemmas.{known_item, next_in, none_in}
use Rattle.sp_bound.proofs.ReduceLemmas.{reducing_start, reducing_turn, reducing_stop}
use Rattle.sp_bound.proofs.scratch.reduce.Goals as goal

pub loop-weight-init : goal.loop-weight-init
loop-weight-init c =
    reducing_start c.args.model.now c.args.list.now (length c.args.costs.now.items) c.args.costs.now.items c.clear.new.costs.items c.add_costs.new.costs.items refl c.clear.ensures.long c.clear.ensures.zero c.add_costs.ensures

pub take_row-requires-clause-rising : goal.take_row-requires-clause-rising
take_row-requires-clause-rising c =
    let known = known_item c.args.list.now.y c.entries-weight-items.result.now c.loop-weight.weight-index c.weight-item.result (length c.args.model.now.rows) c.entries-weight-items.ensures.same c.loop-weight-test.true c.weight-item.is c.requires.known in
    rw c.loop-weight.invariant.long (c.requires.rising.rows c.weight-item.result.0 known)

pub loop-weight-preserved : goal.loop-weight-preserved
loop-weight-preserved c =
    let d = next_in c.entries-weight-items.result.now c.args.list.now.y c.loop-weight.weight-index c.weight-item.result c.entries-weight-items.ensures.same c.loop-weight-test.true c.weight-item.is in
    reducing_turn c.args.model.now c.args.list.now (length c.args.costs.now.items) c.weight-item.result (drop (c.loop-weight.weight-index + 1) c.args.list.now.y) c.loop-weight.costs.items c.take_row.new.costs.items (rw d at c.loop-weight.invariant) c.take_row.ensures

pub returns : goal.returns
returns c =
    let d = none_in c.entries-weight-items.result.now c.args.list.now.y c.loop-weight.weight-index c.entries-weight-items.ensures.same c.loop-weight-test.false in
    reducing_stop c.args.model.now c.args.list.now (length c.args.costs.now.items) c.loop-weight.costs.items (rw d at c.loop-weight.invariant)
