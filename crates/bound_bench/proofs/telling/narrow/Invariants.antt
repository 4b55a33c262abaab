use Rattle.sp_bound.specs.KeptBounds.{IsKeptOf}
use Rattle.bound_bench.proofs.telling.narrow.Given as goal

abbrev pub invariant-loop-place : goal.invariant-loop-place
invariant-loop-place l = IsKeptOf l.model l.kept
