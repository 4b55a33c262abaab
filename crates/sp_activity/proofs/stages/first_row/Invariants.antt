use Rattle.std.proofs.Common.{◌≡◌, ℕ, ◌<◌, false}
use Rattle.sp_sums.specs.Extremes.{is_broken_over}
use Rattle.sp_sums.specs.Rows.{row_at}
use Rattle.sp_activity.proofs.stages.first_row.Given as goal

abbrev pub invariant-loop-at : goal.invariant-loop-at
invariant-loop-at l = (k : ℕ) → k < l.at → is_broken_over l.bounds (row_at l.rows k) ≡ false
