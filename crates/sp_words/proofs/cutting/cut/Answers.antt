use Rattle.std.proofs.Common.{arith}
use Rattle.sp_words.proofs.CutLemmas.{goes_on}
use Rattle.sp_words.proofs.cutting.cut.Goals as goal

pub loop-i-preserved : goal.loop-i-preserved
loop-i-preserved g c =
    goes_on _ _ _ _ _ _ _ c.loop-i.invariant (omega arith) (omega arith) (omega arith) c.word_len.ensures.place
