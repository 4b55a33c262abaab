use Rattle.std.proofs.Common.{◌≡◌, ◌+◌, ◌^◌, ◌≤◌, drop, ◌+ℤ◌}
use Rattle.std.specs.Int.RustNames.{unsigned_abs}
use Rattle.sp_filter.specs.Filters.{total, count_total, multiple_at, multiple_width, box_at}
use Rattle.sp_filter.proofs.sums.multiples.Given as goal

abbrev pub invariant-loop-term : goal.invariant-loop-term
invariant-loop-term l =
    record {
      whole : l.sum +ℤ total (multiple_at l.x) (drop l.term-index l.terms) ≡ total (multiple_at l.x) l.terms;
      small : unsigned_abs l.sum + count_total (multiple_width (box_at l.x)) (drop l.term-index l.terms) ≤ 10 ^ 36;
    }
