use Rattle.std.proofs.Common.{slice_index_or, false, true}
use Rattle.sp_filter.specs.Held.{Closes}
use Rattle.sp_search.proofs.StepLemmas.{closes-more, screen-at}
use Rattle.sp_search.proofs.closers.closing_filter.Goals as goal

pub returns-then-closed : goal.returns-then-closed
returns-then-closed c =
    let e = c.index-held-place.result in
    let closes : Closes (slice_index_or c.held-held.result.now c.loop-place.place e).filter c.args.bounds.now true = record { exact = c.if-closed.ensures.exact; sound = c.if-closed.ensures.sound; point = c.if-closed.ensures.point } in
    screen-at c.args.filters.now c.held-held.result.now c.loop-place.place c.index-held-place-then-closed.result e c.args.bounds.now c.held-held.ensures.same c.held-held.ensures.orderly c.loop-place-test.true closes

pub loop-place-preserved : goal.loop-place-preserved
loop-place-preserved c =
    let e = c.index-held-place.result in
    let here : Closes (slice_index_or c.held-held.result.now c.loop-place.place e).filter c.args.bounds.now false = record { exact = c.if-closed.ensures.exact; sound = c.if-closed.ensures.sound; point = c.if-closed.ensures.point } in
    closes-more c.held-held.result.now c.args.bounds.now c.loop-place.place e c.loop-place-test.true c.loop-place.invariant here
