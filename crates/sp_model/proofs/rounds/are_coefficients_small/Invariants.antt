use Rattle.std.proofs.Common.{◌≡◌, ◌+◌, drop}
use Rattle.sp_model.specs.Limits.{greatest_width}
use Rattle.sp_model.specs.Rounds.{coefficient_size}
use Rattle.sp_model.proofs.rounds.are_coefficients_small.Given as goal

abbrev pub invariant-loop-term : goal.invariant-loop-term
invariant-loop-term l = l.left + coefficient_size l.terms ≡ greatest_width + coefficient_size (drop l.term-index l.terms)
