use Rattle.std.proofs.Common.{All, take}
use Rattle.sp_model.specs.Rules.{IsRangeLawful}
use Rattle.sp_model.specs.Stated.{stated_of}
use Rattle.sp_model.proofs.bound_rules.broken_range.Given as goal

abbrev pub invariant-loop-at : goal.invariant-loop-at
invariant-loop-at l = All IsRangeLawful (take l.at (stated_of l.parts))
