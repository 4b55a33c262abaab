use Rattle.std.proofs.Common.{◌≡◌, ◌≤◌, max, drop}
use Rattle.sp_scaling.specs.Scaling.{most_places_of, numbers_of}
use Rattle.sp_scaling.proofs.scaling.most_places.Given as goal

abbrev pub invariant-loop-term : goal.invariant-loop-term
invariant-loop-term l = record { value : max l.most (most_places_of (numbers_of (drop l.term-index l.terms))) ≡ most_places_of (numbers_of l.terms); few : l.most ≤ 30 }
