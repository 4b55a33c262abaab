use Rattle.std.proofs.Common.{drop}
use Rattle.sp_base.specs.Writing.{WritesSoFar, joined}
use Rattle.sp_base.proofs.writing.write_each.Given as goal

abbrev pub invariant-loop-piece : goal.invariant-loop-piece
invariant-loop-piece g l = WritesSoFar g.K.Sink l.initial.sink l.sink (joined l.pieces) (joined (drop l.piece-index l.pieces))
