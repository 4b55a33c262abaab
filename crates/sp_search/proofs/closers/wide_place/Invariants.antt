use Rattle.std.proofs.Common.{ℕ, ◌<◌}
use Rattle.sp_model.specs.Boxes.{CanSplit, range_at}
use Rattle.sp_search.proofs.closers.wide_place.Given as goal

abbrev pub invariant-loop-place : goal.invariant-loop-place
invariant-loop-place l = (j : ℕ) → j < l.place → CanSplit l.bounds j (range_at l.bounds j).0 → ⊥
