use Rattle.std.proofs.Common.{◌≡◌, take}
use Rattle.sp_model.specs.Stated.{stated_of}
use Rattle.sp_model.proofs.rounds.stated_bounds.Given as goal

abbrev pub invariant-loop-place : goal.invariant-loop-place
invariant-loop-place l = l.bounds.items ≡ take l.place (stated_of l.parts)
