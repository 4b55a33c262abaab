use Rattle.sp_search.specs.InnerSteps.{IsUnlistedBefore}
use Rattle.sp_search.proofs.closers.closing_list.Given as goal

abbrev pub invariant-loop-place : goal.invariant-loop-place
invariant-loop-place l = IsUnlistedBefore l.model l.lists l.place l.aim l.best l.bounds
