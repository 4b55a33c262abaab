use Rattle.std.proofs.Common.{map}
use Rattle.sp_activity.specs.Uses.{set_vars}
use Rattle.sp_activity.proofs.UsesLemmas.{IsListed}
use Rattle.sp_activity.proofs.uses.Uses.of_sets.Given as goal

abbrev pub invariant-loop-at : goal.invariant-loop-at
invariant-loop-at l = IsListed l.fn.count l.at (map set_vars l.sets) l.lists.items
