use Rattle.std.proofs.Common.{ℕ, ◌<◌}
use Rattle.sp_model.specs.Boxes.{range_at}
use Rattle.sp_model.specs.Models.{root_of}
use Rattle.sp_sums.specs.Ranges.{IsPart}
use Rattle.sp_bound.proofs.conditions.lies_inside.Given as goal

abbrev pub invariant-loop-at : goal.invariant-loop-at
invariant-loop-at l = (j : ℕ) → j < l.at → IsPart (range_at (root_of l.model) j) (range_at l.bounds j)
