use Rattle.std.proofs.Common.{◌≡◌, ◌+◌, ◌^◌, ◌≤◌, drop, ◌+ℤ◌}
use Rattle.std.specs.Int.RustNames.{unsigned_abs}
use Rattle.sp_filter.specs.Filters.{total, count_total, distance_at, distance_width, box_at}
use Rattle.sp_filter.proofs.sums.weighted_distances.Given as goal

abbrev pub invariant-loop-term : goal.invariant-loop-term
invariant-loop-term l =
    record {
      whole : l.sum +ℤ total (distance_at l.x) (drop l.term-index l.terms) ≡ total (distance_at l.x) l.terms;
      small : unsigned_abs l.sum + count_total (distance_width (box_at l.x)) (drop l.term-index l.terms) ≤ 10 ^ 36;
    }
