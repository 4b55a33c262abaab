use Rattle.std.proofs.Common.{sym, arith}
use Rattle.std.proofs.lemmas.List.{get_or_read}
use Rattle.sp_sums.specs.Rows.{bare_row}
use Rattle.sp_sums.proofs.MakeLemmas.{length-marks, marks-set}
use Rattle.sp_sums.proofs.tallies.Tally.put.Goals as goal

pub put-requires : goal.put-requires
put-requires c =
    let long = length-marks c.args.rows.now c.args.self.now.spans c.requires.paired in
    rw c.requires.marked (omega (arith, long))

pub returns-clause-marked : goal.returns-clause-marked
returns-clause-marked c =
    let row = get_or_read c.args.rows.now c.args.at c.index-rows-at.result c.requires.known c.index-rows-at.is bare_row in
    let is = rw row at c.is_broken-broken.ensures in
    let change = marks-set c.args.rows.now c.args.self.now.spans c.args.at c.args.span.now c.requires.known c.requires.paired in
    rw (c.put.ensures, c.set.ensures, c.requires.marked, is) (sym change)
