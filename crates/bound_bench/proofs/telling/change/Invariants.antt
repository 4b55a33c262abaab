use Rattle.sp_bound.specs.KeptBounds.{IsKeptOf}
use Rattle.bound_bench.proofs.telling.change.Given as goal

abbrev pub invariant-loop-round : goal.invariant-loop-round
invariant-loop-round l = IsKeptOf l.model l.kept
