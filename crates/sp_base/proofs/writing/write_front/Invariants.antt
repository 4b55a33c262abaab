use Rattle.std.specs.Prelude.{Ok}
use Rattle.std.proofs.Common.{length, ◌-◌, ◌≤◌, take}
use Rattle.sp_base.specs.Writing.{Writes}
use Rattle.sp_base.proofs.writing.write_front.Given as goal

abbrev pub invariant-loop-at : goal.invariant-loop-at
invariant-loop-at g l = (l.at ≤ length l.piece) × Writes g.K.Sink (Ok tt) l.initial.sink l.sink (take l.at l.piece)

abbrev pub decreases-loop-at : goal.decreases-loop-at
decreases-loop-at g l = length l.piece - l.at
