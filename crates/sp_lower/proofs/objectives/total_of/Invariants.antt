use Rattle.std.proofs.Common.{◌≡◌, ◌+◌, ◌≤◌, drop, map, ◌+ℤ◌}
use Rattle.std.specs.Prelude.{unsigned_abs}
use Rattle.sp_scaling.specs.Scaling.{greatest_width, most_places_of, units, total, sizes}
use Rattle.sp_lower.proofs.objectives.total_of.Given as goal

abbrev pub invariant-loop-constant : goal.invariant-loop-constant
invariant-loop-constant l =
    record {
      same : l.sum +ℤ total (map (units l.places) (drop l.constant-index l.constants)) ≡ total (map (units l.places) l.constants);
      small : unsigned_abs l.sum + sizes (map (units l.places) (drop l.constant-index l.constants)) ≤ greatest_width;
      scale : most_places_of (drop l.constant-index l.constants) ≤ l.places;
    }
