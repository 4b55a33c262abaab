use Rattle.sp_bound.proofs.DraftLemmas.{IsListing}
use Rattle.sp_bound.proofs.keeping.terms_of.Given as goal

abbrev pub invariant-loop-at : goal.invariant-loop-at
invariant-loop-at l = IsListing l.root l.costs l.fn.room l.at l.left l.terms
