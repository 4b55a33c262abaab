use Rattle.std.proofs.Common.{length, arith, refl, ap, ◌∙◌}
use Rattle.sp_base.proofs.BufferLemmas.{whole_gathered}
use Rattle.sp_base.proofs.buffers.BufferedSink.write.Goals as goal

pub returns-then-piece-capacity-clause-bytes : goal.returns-then-piece-capacity-clause-bytes
returns-then-piece-capacity-clause-bytes g c = (c.requires, omega arith, whole_gathered _ _ _ c.args.piece.now c.hold.ensures)
