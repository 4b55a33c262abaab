use Rattle.std.proofs.Common.{◌≤◌, All, take}
use Rattle.sp_model.specs.Limits.{most_indicators}
use Rattle.sp_model.specs.Rules.{IsIndicatorLawful}
use Rattle.sp_model.proofs.rules.broken_indicator.Given as goal

abbrev pub invariant-loop-k : goal.invariant-loop-k
invariant-loop-k l = record { few : l.k ≤ most_indicators; lawful : All (IsIndicatorLawful l.root) (take l.k l.indicators) }
