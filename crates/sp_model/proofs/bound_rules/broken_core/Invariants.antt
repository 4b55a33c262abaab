use Rattle.std.proofs.Common.{take}
use Rattle.sp_model.specs.Rules.{AreCoresLawful}
use Rattle.sp_model.specs.Stated.{stated_of}
use Rattle.sp_model.proofs.bound_rules.broken_core.Given as goal

abbrev pub invariant-loop-place : goal.invariant-loop-place
invariant-loop-place l = AreCoresLawful (stated_of l.parts) (take l.place l.parts.semi)
