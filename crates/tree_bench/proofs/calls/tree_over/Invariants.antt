use Rattle.std.proofs.Common.{◌≡◌, length}
use Rattle.tree_bench.proofs.calls.tree_over.Given as goal

abbrev pub invariant-loop-at : goal.invariant-loop-at
invariant-loop-at l = length l.upper ≡ length l.lower
