use Rattle.std.proofs.Common.{◌≡◌, ◌+◌, drop}
use Rattle.sp_model.specs.Sums.{width_over}
use Rattle.sp_model.proofs.sums.room_beside.Given as goal

abbrev pub invariant-loop-term : goal.invariant-loop-term
invariant-loop-term l = l.left + width_over l.root l.terms ≡ l.room + width_over l.root (drop l.term-index l.terms)
