use Rattle.std.proofs.Common.{◌≡◌, ◌++◌, drop, map}
use Rattle.sp_lower.specs.Rows.{closing_row}
use Rattle.sp_lower.proofs.lowering.closing_rows.Given as goal

abbrev pub invariant-loop-row : goal.invariant-loop-row
invariant-loop-row l = l.list ++ map closing_row (drop l.row-index l.rows) ≡ map closing_row l.rows
