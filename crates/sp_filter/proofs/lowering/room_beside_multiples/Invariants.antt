use Rattle.std.proofs.Common.{◌≡◌, ◌+◌, ◌≤◌, drop}
use Rattle.sp_model.specs.Models.{root_of}
use Rattle.sp_scaling.specs.Scaling.{greatest_width, most_places_of, numbers_of, scaled}
use Rattle.sp_filter.specs.Filters.{count_total, multiple_width}
use Rattle.sp_filter.proofs.lowering.room_beside_multiples.Given as goal

abbrev pub invariant-loop-term : goal.invariant-loop-term
invariant-loop-term l =
    record {
      same : l.left + count_total (multiple_width (root_of l.model)) (scaled l.places l.terms) ≡ l.room + count_total (multiple_width (root_of l.model)) (scaled l.places (drop l.term-index l.terms));
      room : l.left ≤ greatest_width;
      scale : most_places_of (numbers_of (drop l.term-index l.terms)) ≤ l.places;
    }
