use Rattle.sp_sums.proofs.ColumnLemmas.{IsFilling}
use Rattle.sp_sums.proofs.columns.Columns.new.Given as goal

abbrev pub invariant-loop-at : goal.invariant-loop-at
invariant-loop-at l = IsFilling l.count l.at l.rows l.columns.items
