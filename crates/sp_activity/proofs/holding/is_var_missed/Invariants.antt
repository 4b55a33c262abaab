use Rattle.std.proofs.Common.{◌≡◌, ℕ, ◌<◌, ◌&&◌, ◌==◌, false}
use Rattle.sp_model.specs.Boxes.{range_at}
use Rattle.sp_activity.specs.Reasons.{core_at, is_missed}
use Rattle.sp_activity.proofs.holding.is_var_missed.Given as goal

abbrev pub invariant-loop-core : goal.invariant-loop-core
invariant-loop-core l = (k : ℕ) → k < l.core-index → ((core_at l.cores k).0 == l.fn.var) && is_missed (range_at l.bounds l.fn.var) (core_at l.cores k) ≡ false
