use Rattle.std.proofs.Common.{map}
use Rattle.sp_activity.specs.Uses.{gate_vars}
use Rattle.sp_activity.proofs.UsesLemmas.{IsListed}
use Rattle.sp_activity.proofs.uses.Uses.of_indicators.Given as goal

abbrev pub invariant-loop-at : goal.invariant-loop-at
invariant-loop-at l = IsListed l.fn.count l.at (map gate_vars l.indicators) l.lists.items
