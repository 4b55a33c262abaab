use Rattle.std.proofs.Common.{◌≡◌, ◌+◌, ◌^◌, ◌≤◌, drop, ◌+ℤ◌}
use Rattle.std.specs.Int.RustNames.{unsigned_abs}
use Rattle.sp_model.specs.Boxes.{range_at}
use Rattle.sp_model.specs.Sums.{Term}
use Rattle.sp_filter.specs.Filters.{total, count_total, least_multiple, multiple_width}
use Rattle.sp_filter.proofs.sums.least_multiples.Given as goal

abbrev pub invariant-loop-term : goal.invariant-loop-term
invariant-loop-term l =
    record {
      whole : l.sum +ℤ total (λ (t : Term). least_multiple t.1 (range_at l.bounds t.0)) (drop l.term-index l.terms) ≡ total (λ (t : Term). least_multiple t.1 (range_at l.bounds t.0)) l.terms;
      small : unsigned_abs l.sum + count_total (multiple_width l.bounds) (drop l.term-index l.terms) ≤ 10 ^ 36;
    }
