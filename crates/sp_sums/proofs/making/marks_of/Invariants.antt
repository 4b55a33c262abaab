use Rattle.std.proofs.Common.{◌≡◌, take}
use Rattle.sp_sums.specs.Inner.{marks}
use Rattle.sp_sums.proofs.making.marks_of.Given as goal

abbrev pub invariant-loop-at : goal.invariant-loop-at
invariant-loop-at l = l.flags ≡ marks (take l.at l.rows) (take l.at l.spans)
