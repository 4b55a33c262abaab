use Rattle.std.proofs.Common.{arith}
use Rattle.sp_lp_tokens.proofs.GapLemmas.{gap_length-drop_all}
use Rattle.sp_lp_tokens.proofs.gaps.gap_before.Goals as goal

pub returns-clause-length : goal.returns-clause-length
returns-clause-length c =
    omega (arith, gap_length-drop_all c.loop-length.comment c.args.bytes.now c.loop-length.length (omega arith))
