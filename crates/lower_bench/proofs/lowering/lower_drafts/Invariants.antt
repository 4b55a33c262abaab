use Rattle.std.proofs.Common.{length}
use Rattle.lower_bench.proofs.lowering.lower_drafts.Given as goal

abbrev pub decreases-loop-line : goal.decreases-loop-line
decreases-loop-line g l = length l.rest
