use Rattle.std.proofs.Common.{◌≡◌, length, map, take}
use Rattle.sp_model.specs.Boxes.{ranges}
use Rattle.sp_model.specs.Rounds.{closed}
use Rattle.sp_model.proofs.bound_rules.box_of.Given as goal

abbrev pub invariant-loop-range : goal.invariant-loop-range
invariant-loop-range l = record {
  lower : length l.lower.items ≡ l.range-index;
  upper : length l.upper.items ≡ l.range-index;
  made : ranges l.lower.items l.upper.items ≡ map closed (take l.range-index l.bounds);
}
