use Rattle.std.proofs.Common.{◌≤◌, All, take}
use Rattle.sp_model.specs.Limits.{most_sets}
use Rattle.sp_model.specs.Rules.{IsSetLawful}
use Rattle.sp_model.proofs.rules.broken_set.Given as goal

abbrev pub invariant-loop-k : goal.invariant-loop-k
invariant-loop-k l = record { few : l.k ≤ most_sets; lawful : All (IsSetLawful l.count) (take l.k l.sets) }
