use Rattle.std.proofs.Common.{◌≡◌, ◌+◌, drop}
use Rattle.sp_lower.specs.Faults.{terms_of_sets}
use Rattle.sp_lower.proofs.counts.room_beside_sets.Given as goal

abbrev pub invariant-loop-set : goal.invariant-loop-set
invariant-loop-set l = l.left + terms_of_sets l.sets ≡ l.room + terms_of_sets (drop l.set-index l.sets)
