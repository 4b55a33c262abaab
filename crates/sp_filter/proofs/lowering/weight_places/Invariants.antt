use Rattle.std.proofs.Common.{◌≡◌, ◌≤◌, max, drop}
use Rattle.sp_filter.specs.Lowering.{weight_places}
use Rattle.sp_filter.proofs.lowering.weight_places.Given as goal

abbrev pub invariant-loop-term : goal.invariant-loop-term
invariant-loop-term l = record { value : max l.most (weight_places (drop l.term-index l.terms)) ≡ weight_places l.terms; few : l.most ≤ 30 }
