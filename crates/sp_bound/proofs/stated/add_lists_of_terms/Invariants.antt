use Rattle.std.proofs.Common.{drop}
use Rattle.sp_bound.specs.StatedLists.{lists_of_terms}
use Rattle.sp_bound.proofs.StatingLemmas.{IsAdding}
use Rattle.sp_bound.proofs.stated.add_lists_of_terms.Given as goal

abbrev pub invariant-loop-term : goal.invariant-loop-term
invariant-loop-term l = IsAdding (lists_of_terms l.cost l.row l.terms) (lists_of_terms l.cost l.row (drop l.term-index l.terms)) l.initial.lists.items l.lists.items
