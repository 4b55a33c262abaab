use Rattle.std.proofs.Common.{◌≡◌, ◌+◌, drop}
use Rattle.sp_lower.specs.Faults.{terms_of_indicators}
use Rattle.sp_lower.proofs.counts.room_beside_indicators.Given as goal

abbrev pub invariant-loop-indicator : goal.invariant-loop-indicator
invariant-loop-indicator l = l.left + terms_of_indicators l.indicators ≡ l.room + terms_of_indicators (drop l.indicator-index l.indicators)
