use Rattle.std.proofs.Common.{◌≡◌, ◌++◌, drop, map}
use Rattle.sp_lower.specs.InnerLowering.{closing_indicator}
use Rattle.sp_lower.proofs.lowering.model_indicators.Given as goal

abbrev pub invariant-loop-indicator : goal.invariant-loop-indicator
invariant-loop-indicator l = l.list ++ map closing_indicator (drop l.indicator-index l.indicators) ≡ map closing_indicator l.indicators
