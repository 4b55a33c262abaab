use Rattle.std.proofs.Common.{◌≡◌, ◌-◌, drop}
use Rattle.sp_lower.specs.InnerSets.{rises}
use Rattle.sp_lower.proofs.sets.rises.Given as goal

abbrev pub invariant-loop-at : goal.invariant-loop-at
invariant-loop-at l = rises (drop (l.at - 1) l.members) ≡ rises l.members
