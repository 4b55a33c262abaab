use Rattle.std.proofs.Common.{◌≡◌, ◌≤◌, max, drop}
use Rattle.sp_scaling.specs.Scaling.{most_places_of}
use Rattle.sp_scaling.proofs.scaling.most_places_of.Given as goal

abbrev pub invariant-loop-number : goal.invariant-loop-number
invariant-loop-number l = record { value : max l.most (most_places_of (drop l.number-index l.numbers)) ≡ most_places_of l.numbers; few : l.most ≤ 30 }
