use Rattle.std.proofs.Common.{ℕ, ◌<◌, ◌≤ℤ◌}
use Rattle.sp_model.specs.Boxes.{range_at}
use Rattle.sp_model.specs.Models.{root_of}
use Rattle.sp_bound.proofs.conditions.has_points.Given as goal

abbrev pub invariant-loop-at : goal.invariant-loop-at
invariant-loop-at l = (j : ℕ) → j < l.at → (range_at (root_of l.model) j).0 ≤ℤ (range_at (root_of l.model) j).1
