use Rattle.std.proofs.Common.{◌≡◌, drop}
use Rattle.std.specs.List.{list_any}
use Rattle.sp_bound.specs.StatedLists.{is_same}
use Rattle.sp_bound.proofs.stated.is_listed.Given as goal

abbrev pub invariant-loop-other : goal.invariant-loop-other
invariant-loop-other l = list_any (is_same l.list) (drop l.other-index l.lists) ≡ list_any (is_same l.list) l.lists
