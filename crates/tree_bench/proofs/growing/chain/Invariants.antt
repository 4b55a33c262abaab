use Rattle.std.proofs.Common.{◌≡◌}
use Rattle.sp_tree.specs.Splits.{box_at}
use Rattle.tree_bench.proofs.growing.chain.Given as goal

abbrev pub invariant-loop-at : goal.invariant-loop-at
invariant-loop-at l = l.last.bounds ≡ box_at l.tree.boxes l.last.id
