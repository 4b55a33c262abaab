use Rattle.std.proofs.Common.{◌≡◌, ◌+◌, drop}
use Rattle.sp_lower.specs.Faults.{terms_of_rows}
use Rattle.sp_lower.proofs.counts.room_beside_rows.Given as goal

abbrev pub invariant-loop-row : goal.invariant-loop-row
invariant-loop-row l = l.left + terms_of_rows l.rows ≡ l.room + terms_of_rows (drop l.row-index l.rows)
