use Rattle.std.proofs.Common.{arith}
use Rattle.sp_model.proofs.SumLemmas.{width_turn, too_wide, wide_enough, same_product, no_room, less_room}
use Rattle.sp_model.proofs.sums.room_beside.Goals as goal

pub returns-then-size-left : goal.returns-then-size-left
returns-then-size-left c =
    let turn = width_turn c.args.root.now c.args.terms.now c.loop-term.term-index c.term-item.result c.loop-term-test.true c.term-item.is in
    let over = too_wide _ _ _ (omega (arith, c.reach_of-reach.ensures)) c.if-size-left.true in
    let same = same_product _ _ _ _ c.size_of-size.ensures c.reach_of-reach.ensures in
    no_room c.loop-term.left c.args.room _ _ _ _ c.loop-term.invariant turn (rw same at over)

pub loop-term-preserved : goal.loop-term-preserved
loop-term-preserved c =
    let turn = width_turn c.args.root.now c.args.terms.now c.loop-term.term-index c.term-item.result c.loop-term-test.true c.term-item.is in
    let under = wide_enough _ _ _ c.if-size-left.false in
    let same = same_product _ _ _ _ c.size_of-size.ensures c.reach_of-reach.ensures in
    rw same (less_room c.loop-term.left c.args.room _ _ _ _ c.loop-term.invariant turn (rw same at under))
