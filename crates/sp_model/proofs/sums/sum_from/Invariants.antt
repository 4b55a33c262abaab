use Rattle.std.proofs.Common.{◌≡◌, ◌+◌, ◌^◌, ◌≤◌, drop, ◌+ℤ◌}
use Rattle.std.specs.Int.RustNames.{unsigned_abs}
use Rattle.sp_model.specs.Sums.{sum_at, magnitude}
use Rattle.sp_model.proofs.sums.sum_from.Given as goal

abbrev pub invariant-loop-term : goal.invariant-loop-term
invariant-loop-term l =
    record {
      whole : l.sum +ℤ sum_at (drop l.term-index l.terms) l.x ≡ l.start +ℤ sum_at l.terms l.x;
      small : unsigned_abs l.sum + magnitude (drop l.term-index l.terms) l.x ≤ 10 ^ 36;
    }
