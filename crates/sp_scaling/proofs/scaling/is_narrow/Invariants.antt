use Rattle.std.proofs.Common.{◌≡◌, ◌+◌, ◌≤◌, drop}
use Rattle.sp_scaling.specs.Scaling.{greatest_width, most_places_of, numbers_of, scaled, size_of}
use Rattle.sp_scaling.proofs.scaling.is_narrow.Given as goal

abbrev pub invariant-loop-term : goal.invariant-loop-term
invariant-loop-term l =
    record {
      same : l.left + size_of (scaled l.places l.terms) ≡ greatest_width + size_of (scaled l.places (drop l.term-index l.terms));
      room : l.left ≤ greatest_width;
      scale : most_places_of (numbers_of (drop l.term-index l.terms)) ≤ l.places;
    }
