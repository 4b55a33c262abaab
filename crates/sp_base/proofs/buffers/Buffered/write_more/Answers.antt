use Rattle.std.proofs.Common.{◌≡◌, refl, sym, ap, ◌∙◌, subst}
use Rattle.sp_base.specs.Sink.{Takes}
use Rattle.sp_base.proofs.WritingLemmas.{grows_then}
use Rattle.sp_base.proofs.BufferLemmas.{puts_none, gathered, passed_on, refused, takes_grows}
use Rattle.sp_base.proofs.buffers.Buffered.write_more.Goals as goal

pub returns-then-len-capacity-clause-bytes : goal.returns-then-len-capacity-clause-bytes
returns-then-len-capacity-clause-bytes g c = (c.gather.ensures.some, c.gather.ensures.bound, gathered _ _ _ _ c.args.piece.now c.gather.result refl c.gather.ensures.items)

pub returns-then-piece-capacity-clause-bytes : goal.returns-then-piece-capacity-clause-bytes
returns-then-piece-capacity-clause-bytes g c = (
  c.gather-then-piece-capacity.ensures.some,
  c.gather-then-piece-capacity.ensures.bound,
  gathered _ _ _ _ c.args.piece.now c.gather-then-piece-capacity.result (puts_none c.flush.result _ _ c.flush.ensures.writes.put) c.gather-then-piece-capacity.ensures.items,
)

pub returns-in-Err-clause-bytes : goal.returns-in-Err-clause-bytes
returns-in-Err-clause-bytes g c =
    refused c.in-Err.end c.refusal.result _ _ c.args.piece.now c.refusal.ensures (puts_none c.flush.result _ _ c.flush.ensures.writes.put)

pub returns-else-piece-capacity-clause-bytes : goal.returns-else-piece-capacity-clause-bytes
returns-else-piece-capacity-clause-bytes g c =
    passed_on c.write.result _ _ _ _ c.args.piece.now (puts_none c.flush.result _ _ c.flush.ensures.writes.put) c.in-Ok.ensures.empty c.write.ensures.bytes

pub returns-else-piece-capacity-clause-grown : goal.returns-else-piece-capacity-clause-grown
returns-else-piece-capacity-clause-grown g c =
    grows_then c.flush.ensures.writes.grown (takes_grows c.write.result _ _ c.args.piece.now c.write.ensures.bytes)
