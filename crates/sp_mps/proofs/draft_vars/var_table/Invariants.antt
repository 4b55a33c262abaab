use Rattle.std.proofs.Common.{◌≡◌, take}
use Rattle.sp_mps.specs.inner.Tables.{var_table, first_at}
use Rattle.sp_mps.proofs.draft_vars.var_table.Given as goal

abbrev pub invariant-loop-bound : goal.invariant-loop-bound
invariant-loop-bound l = l.table.items ≡ var_table l.count (first_at l.integers l.bounded) (take l.bound-index l.bounds)
