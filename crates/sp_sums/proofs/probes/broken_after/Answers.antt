use Rattle.std.proofs.Common.{◌≡◌, false, length, set, sym, ap, ◌∙◌}
use Rattle.std.proofs.lemmas.List.{take_all, length-map}
use Rattle.std.proofs.lemmas.List.Elements.{All-more}
use Rattle.sp_sums.specs.Columns.{Entry, column_of}
use Rattle.sp_sums.specs.Extremes.{is_broken_over, span_of}
use Rattle.sp_sums.specs.Rows.{row_at}
use Rattle.sp_sums.proofs.AskedLemmas.{asked, no_more}
use Rattle.sp_sums.proofs.MoveLemmas.{in_box}
use Rattle.sp_sums.proofs.probes.broken_after.Goals as goal

pub range-from-requires : goal.range-from-requires
range-from-requires c = in_box c.args.root.now c.args.bounds.now c.args.rows.now c.args.var c.args.range.now c.requires.change

pub would_break-requires-clause-next : goal.would_break-requires-clause-next
would_break-requires-clause-next c =
    let entry = asked c.args.root.now c.args.bounds.now c.args.rows.now c.args.spans.now c.args.var c.args.range.now c.args.column.now c.loop-entry.entry-index c.entry-item.result c.requires.spans c.requires.change c.requires.column c.loop-entry-test.true c.entry-item.is in
    rw c.range-from.ensures (entry.next)

pub would_break-requires-clause-paired : goal.would_break-requires-clause-paired
would_break-requires-clause-paired c = ap length c.requires.spans ∙ length-map c.args.rows.now (span_of c.args.bounds.now)

pub returns-then-would_break : goal.returns-then-would_break
returns-then-would_break c =
    let entry = asked c.args.root.now c.args.bounds.now c.args.rows.now c.args.spans.now c.args.var c.args.range.now c.args.column.now c.loop-entry.entry-index c.entry-item.result c.requires.spans c.requires.change c.requires.column c.loop-entry-test.true c.entry-item.is in
    let test = rw c.range-from.ensures at c.would_break.ensures in
    record { known = entry.known; broken = sym (test ∙ entry.broken) ∙ c.if-would_break.true }

pub loop-entry-preserved : goal.loop-entry-preserved
loop-entry-preserved c =
    let entry = asked c.args.root.now c.args.bounds.now c.args.rows.now c.args.spans.now c.args.var c.args.range.now c.args.column.now c.loop-entry.entry-index c.entry-item.result c.requires.spans c.requires.change c.requires.column c.loop-entry-test.true c.entry-item.is in
    let test = rw c.range-from.ensures at c.would_break.ensures in
    let here : is_broken_over (set c.args.bounds.now c.args.var c.args.range.now) (row_at c.args.rows.now c.entry-item.result.0) ≡ false = sym (test ∙ entry.broken) ∙ c.if-would_break.false in
    let read = rw c.requires.column at c.entry-item.is in
    let inside = rw c.requires.column at c.loop-entry-test.true in
    All-more (λ (e : Entry). is_broken_over (set c.args.bounds.now c.args.var c.args.range.now) (row_at c.args.rows.now e.0) ≡ false) (column_of c.args.var c.args.rows.now) c.loop-entry.entry-index c.entry-item.result inside c.loop-entry.invariant (rw (← read) here)

pub returns : goal.returns
returns c =
    let past = rw c.requires.column at c.loop-entry-test.false in
    let whole = take_all c.loop-entry.entry-index (column_of c.args.var c.args.rows.now) past in
    no_more c.args.root.now c.args.bounds.now c.args.rows.now c.args.spans.now c.args.var c.args.range.now c.requires.spans c.requires.change (rw whole at c.loop-entry.invariant)
