use Rattle.std.proofs.Common.{drop}
use Rattle.sp_bound.specs.StatedLists.{lists_of_rows}
use Rattle.sp_bound.proofs.StatingLemmas.{IsAdding}
use Rattle.sp_bound.proofs.stated.add_lists_of_rows.Given as goal

abbrev pub invariant-loop-at : goal.invariant-loop-at
invariant-loop-at l = IsAdding (lists_of_rows l.cost 0 l.rows) (lists_of_rows l.cost l.at (drop l.at l.rows)) l.initial.lists.items l.lists.items
