use Rattle.std.proofs.Common.{◌≤◌, All, take}
use Rattle.sp_model.specs.Limits.{most_rows}
use Rattle.sp_model.specs.Rules.{IsRowLawful}
use Rattle.sp_model.proofs.rules.broken_row.Given as goal

abbrev pub invariant-loop-k : goal.invariant-loop-k
invariant-loop-k l = record { few : l.k ≤ most_rows; lawful : All (IsRowLawful l.root) (take l.k l.rows) }
