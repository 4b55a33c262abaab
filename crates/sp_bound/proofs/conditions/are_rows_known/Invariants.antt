use Rattle.std.proofs.Common.{ℕ, ℤ, ◌<◌, get_or, length}
use Rattle.sp_bound.proofs.conditions.are_rows_known.Given as goal

abbrev pub invariant-loop-weight : goal.invariant-loop-weight
invariant-loop-weight l = (k : ℕ) (d : ℕ × ℤ) → k < l.weight-index → (get_or l.list.y k d).0 < length l.model.rows
