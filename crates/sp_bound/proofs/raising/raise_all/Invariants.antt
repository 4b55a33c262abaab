use Rattle.sp_bound.specs.Raising.{IsRaising}
use Rattle.sp_bound.proofs.raising.raise_all.Given as goal

abbrev pub invariant-loop-at : goal.invariant-loop-at
invariant-loop-at l = IsRaising l.model l.threshold l.lists l.owners l.at l.initial.sums l.sums
