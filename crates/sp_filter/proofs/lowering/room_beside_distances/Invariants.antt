use Rattle.std.proofs.Common.{◌≡◌, ◌+◌, ◌≤◌, drop}
use Rattle.sp_model.specs.Models.{root_of}
use Rattle.sp_scaling.specs.Scaling.{greatest_width}
use Rattle.sp_filter.specs.Filters.{count_total, distance_width}
use Rattle.sp_filter.specs.Lowering.{weight_places, weighted_units}
use Rattle.sp_filter.proofs.lowering.room_beside_distances.Given as goal

abbrev pub invariant-loop-term : goal.invariant-loop-term
invariant-loop-term l =
    record {
      same : l.left + count_total (distance_width (root_of l.model)) (weighted_units l.places l.terms) ≡ l.room + count_total (distance_width (root_of l.model)) (weighted_units l.places (drop l.term-index l.terms));
      room : l.left ≤ greatest_width;
      scale : weight_places (drop l.term-index l.terms) ≤ l.places;
    }
