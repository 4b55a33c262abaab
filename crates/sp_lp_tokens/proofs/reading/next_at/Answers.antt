use Rattle.std.proofs.Common.{◌+◌, arith}
use Rattle.sp_lp_tokens.proofs.LineLemmas.{line_at-add, line_at-le}
use Rattle.sp_lp_tokens.proofs.NextLemmas.{token_is_next, fault_is_next}
use Rattle.sp_lp_tokens.proofs.reading.next_at.Goals as goal

pub overflow_add-line : goal.overflow_add-line
overflow_add-line c =
    let g = rw c.rest_of.ensures at c.gap_before-gap.ensures in
    omega (arith, line_at-add c.args.source.now c.args.place c.gap_before-gap.result.length, line_at-le c.args.source.now (c.args.place + c.gap_before-gap.result.length), g.feeds)

pub returns-in-Ok : goal.returns-in-Ok
returns-in-Ok c =
    let g = rw c.rest_of.ensures at c.gap_before-gap.ensures in
    token_is_next c.args.source.now c.args.place c.args.line c.gap_before-gap.result.length c.gap_before-gap.result.feeds c.in-Ok.piece
    (record { within = c.requires.within; line_is = c.requires.line; gap_is = g.length; feeds_are = g.feeds; fits = g.within })
    c.if-start-source.false (rw c.rest_of-2.ensures at c.in-Ok.ensures)

pub returns-in-Err : goal.returns-in-Err
returns-in-Err c =
    let g = rw c.rest_of.ensures at c.gap_before-gap.ensures in
    fault_is_next c.args.source.now c.args.place c.args.line c.gap_before-gap.result.length c.gap_before-gap.result.feeds c.in-Err.kind
    (record { within = c.requires.within; line_is = c.requires.line; gap_is = g.length; feeds_are = g.feeds; fits = g.within })
    c.if-start-source.false (rw c.rest_of-2.ensures at c.in-Err.ensures)
