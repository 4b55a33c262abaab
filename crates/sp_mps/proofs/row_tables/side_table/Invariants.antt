use Rattle.std.proofs.Common.{◌≡◌, take}
use Rattle.sp_mps.specs.inner.Tables.{side_table}
use Rattle.sp_mps.proofs.row_tables.side_table.Given as goal

abbrev pub invariant-loop-side : goal.invariant-loop-side
invariant-loop-side l = l.table.items ≡ side_table l.count (take l.side-index l.sides)
