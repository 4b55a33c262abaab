use Rattle.std.proofs.Common.{◌≡◌, take}
use Rattle.sp_mps.specs.inner.Tables.{bounded_table}
use Rattle.sp_mps.proofs.draft_vars.bounded_table.Given as goal

abbrev pub invariant-loop-bound : goal.invariant-loop-bound
invariant-loop-bound l = l.table.items ≡ bounded_table l.count (take l.bound-index l.bounds)
