use Rattle.std.proofs.Common.{map, take}
use Rattle.sp_model.specs.Sums.{Term}
use Rattle.sp_activity.specs.Uses.{IsUsed}
use Rattle.sp_activity.proofs.uses.add_terms.Given as goal

abbrev pub invariant-loop-term : goal.invariant-loop-term
invariant-loop-term l = IsUsed l.item (map (λ (t : Term). t.0) (take l.term-index l.terms)) l.fn.lists.items l.lists.items
