use Rattle.std.proofs.Common.{◌≡◌, ◌++◌, ◌≤◌, drop}
use Rattle.sp_scaling.specs.Scaling.{greatest_width, most_places_of, numbers_of, scaled, size_of}
use Rattle.sp_scaling.proofs.collecting.scaled.Given as goal

abbrev pub invariant-loop-term : goal.invariant-loop-term
invariant-loop-term l =
    record {
      whole : l.list.items ++ scaled l.places (drop l.term-index l.terms) ≡ scaled l.places l.terms;
      scale : most_places_of (numbers_of (drop l.term-index l.terms)) ≤ l.places;
      small : size_of (scaled l.places (drop l.term-index l.terms)) ≤ greatest_width;
    }
