use Rattle.std.proofs.Common.{◌≡◌, ◌+◌, ◌≤◌, drop, map}
use Rattle.sp_scaling.specs.Scaling.{greatest_width, most_places_of, units, sizes}
use Rattle.sp_lower.proofs.objectives.room_beside_constants.Given as goal

abbrev pub invariant-loop-constant : goal.invariant-loop-constant
invariant-loop-constant l =
    record {
      same : l.left + sizes (map (units l.places) l.constants) ≡ l.room + sizes (map (units l.places) (drop l.constant-index l.constants));
      room : l.left ≤ greatest_width;
      scale : most_places_of (drop l.constant-index l.constants) ≤ l.places;
    }
