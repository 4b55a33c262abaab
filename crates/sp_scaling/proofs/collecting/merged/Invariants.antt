use Rattle.std.proofs.Common.{◌≡◌, ◌+◌, ◌≤◌, ◌++◌, drop, pos}
use Rattle.std.specs.Prelude.{unsigned_abs}
use Rattle.sp_scaling.specs.Merging.{merged}
use Rattle.sp_scaling.specs.Scaling.{greatest_width, size_of, turned_terms}
use Rattle.sp_scaling.proofs.collecting.merged.Given as goal

abbrev pub invariant-loop-term : goal.invariant-loop-term
invariant-loop-term l =
    record {
      whole : l.sums ++ turned_terms l.negate (merged l.id l.sum (drop l.term-index l.terms)) ≡ turned_terms l.negate (merged 0 (pos 0) l.terms);
      small : unsigned_abs l.sum + size_of (drop l.term-index l.terms) ≤ greatest_width;
    }
