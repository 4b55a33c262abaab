use Rattle.std.proofs.Common.{◌≡◌, take}
use Rattle.sp_mps.specs.inner.Tables.{range_table}
use Rattle.sp_mps.proofs.row_tables.range_table.Given as goal

abbrev pub invariant-loop-range : goal.invariant-loop-range
invariant-loop-range l = l.table.items ≡ range_table l.count (take l.range-index l.ranges)
