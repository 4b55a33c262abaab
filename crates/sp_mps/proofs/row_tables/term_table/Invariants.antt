use Rattle.std.proofs.Common.{◌≡◌, take}
use Rattle.sp_mps.specs.inner.Tables.{term_table}
use Rattle.sp_mps.proofs.row_tables.term_table.Given as goal

abbrev pub invariant-loop-term : goal.invariant-loop-term
invariant-loop-term l = l.table.items ≡ term_table l.count (take l.term-index l.terms)
