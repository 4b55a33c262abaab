use Rattle.std.proofs.Common.{◌<◌, length, arith}
use Rattle.sp_base.proofs.WritingLemmas.{written_step, written_fails, joined_drop}
use Rattle.sp_base.proofs.writing.write_each.Goals as goal

pub returns-in-Err : goal.returns-in-Err
returns-in-Err g c =
    let within : c.loop-piece.piece-index < length c.args.pieces.now = omega arith in
    record { written = written_fails _ _ c.loop-piece.invariant (joined_drop _ _ _ within) c.in-Err.ensures.written }

pub loop-piece-preserved : goal.loop-piece-preserved
loop-piece-preserved g c =
    let within : c.loop-piece.piece-index < length c.args.pieces.now = omega arith in
    written_step _ _ c.loop-piece.invariant (joined_drop _ _ _ within) c.in-Ok.ensures.written
