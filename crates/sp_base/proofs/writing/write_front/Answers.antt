use Rattle.std.proofs.Common.{[], refl, arith}
use Rattle.sp_base.proofs.WritingLemmas.{writes_nothing, write_took, write_failed}
use Rattle.sp_base.proofs.writing.write_front.Goals as goal

pub loop-at-init : goal.loop-at-init
loop-at-init g c = (omega arith, writes_nothing _ _ [] refl)

pub loop-at-preserved : goal.loop-at-preserved
loop-at-preserved g c = (
  omega (arith, c.in-Took.ensures.bytes.1),
  write_took _ _ _ c.loop-at.invariant.1 c.split_at.ensures.back c.in-Took.ensures.bytes.2 c.write.ensures.grown c.write.ensures.later c.write.ensures.same,
)

pub returns-in-Failed-clause-writes : goal.returns-in-Failed-clause-writes
returns-in-Failed-clause-writes g c =
    write_failed _ c.loop-at.invariant.1 c.in-Failed.ensures.bytes c.write.ensures.grown c.write.ensures.later c.write.ensures.same (λ h. c.write.ensures.failed c.in-Failed.is) (λ h. cc)

pub returns-in-NoMemory-clause-writes : goal.returns-in-NoMemory-clause-writes
returns-in-NoMemory-clause-writes g c =
    write_failed _ c.loop-at.invariant.1 c.in-NoMemory.ensures.bytes c.write.ensures.grown c.write.ensures.later c.write.ensures.same (λ h. cc) (λ h. c.write.ensures.no_memory c.in-NoMemory.is)
