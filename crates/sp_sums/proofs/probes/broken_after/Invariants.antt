use Rattle.std.proofs.Common.{◌≡◌, false, All, take, set}
use Rattle.sp_sums.specs.Columns.{Entry, column_of}
use Rattle.sp_sums.specs.Extremes.{is_broken_over}
use Rattle.sp_sums.specs.Rows.{row_at}
use Rattle.sp_sums.proofs.probes.broken_after.Given as goal

abbrev pub invariant-loop-entry : goal.invariant-loop-entry
invariant-loop-entry l =
    All (λ (e : Entry). is_broken_over (set l.bounds l.fn.var l.range) (row_at l.rows e.0) ≡ false) (take l.entry-index (column_of l.fn.var l.rows))
