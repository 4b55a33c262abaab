use Rattle.std.proofs.Common.{◌≡◌, length, take, add-one, sym, arith}
use Rattle.std.proofs.lemmas.List.{get_or_read, length-take}
use Rattle.sp_sums.specs.Rows.{bare_row}
use Rattle.sp_sums.proofs.MakeLemmas.{length-marks, marks-take}
use Rattle.sp_sums.proofs.making.marks_of.Goals as goal

pub push-requires : goal.push-requires
push-requires c =
    let paired : length (take c.loop-at.at c.args.spans.now) ≡ length (take c.loop-at.at c.args.rows.now) = simp length-take (omega arith) in
    let long = length-marks (take c.loop-at.at c.args.rows.now) (take c.loop-at.at c.args.spans.now) paired in
    rw c.loop-at.invariant (omega (arith, long, length-take c.loop-at.at c.args.rows.now))

pub loop-at-preserved : goal.loop-at-preserved
loop-at-preserved c =
    let row = get_or_read c.args.rows.now c.loop-at.at c.index-rows-at.result c.loop-at-test.true c.index-rows-at.is bare_row in
    let is = rw row at c.is_broken-broken.ensures in
    let more = marks-take c.args.rows.now c.args.spans.now c.loop-at.at c.loop-at-test.true c.requires.paired in
    rw (c.in_ok-push.ensures.ok, c.loop-at.invariant, is, add-one) (sym more)
