use Rattle.std.proofs.Common.{◌≡◌, map, take}
use Rattle.sp_sums.specs.Extremes.{span_of}
use Rattle.sp_sums.proofs.making.spans_over.Given as goal

abbrev pub invariant-loop-row : goal.invariant-loop-row
invariant-loop-row l = l.spans.items ≡ map (span_of l.bounds) (take l.row-index l.rows)
