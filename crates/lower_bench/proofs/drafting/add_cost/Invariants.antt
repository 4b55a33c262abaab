use Rattle.std.proofs.Common.{length}
use Rattle.lower_bench.proofs.drafting.add_cost.Given as goal

abbrev pub decreases-loop-var : goal.decreases-loop-var
decreases-loop-var l = length l.rest
