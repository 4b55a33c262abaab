use Rattle.std.proofs.Common.{ℕ, length}
use Rattle.sp_tree.proofs.IndexLemmas.{IsLeft}
use Rattle.sp_tree.proofs.indexes.find_in.Given as goal

abbrev pub invariant-loop-at : goal.invariant-loop-at
invariant-loop-at l = (m : ℕ) × IsLeft l.lists (length l.heads) l.list l.at m

abbrev pub decreases-loop-at : goal.decreases-loop-at
decreases-loop-at l = l.at
