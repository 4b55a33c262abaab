use Rattle.std.proofs.Common.{◌≡◌, ◌++◌, ◌≤◌, drop}
use Rattle.std.specs.Int.RustNames.{unsigned_abs}
use Rattle.sp_scaling.specs.Scaling.{greatest_width}
use Rattle.sp_filter.specs.Filters.{Weighted, count_total}
use Rattle.sp_filter.specs.Lowering.{weight_places, weighted_units}
use Rattle.sp_filter.proofs.lowering.small_weights.Given as goal

abbrev pub invariant-loop-term : goal.invariant-loop-term
invariant-loop-term l =
    record {
      same : l.made.items ++ weighted_units l.places (drop l.term-index l.terms) ≡ weighted_units l.places l.terms;
      scale : weight_places (drop l.term-index l.terms) ≤ l.places;
      small : count_total (λ (t : Weighted). unsigned_abs t.1) (weighted_units l.places (drop l.term-index l.terms)) ≤ greatest_width;
    }
