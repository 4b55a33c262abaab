use Rattle.std.proofs.Common.{arith}
use Rattle.sp_decimal.proofs.DigitValueLemmas.{back-trimmed, zero-take}
use Rattle.sp_decimal.proofs.significands.without_trailing_zeros.Goals as goal

pub returns-then-digits-end-ne48 : goal.returns-then-digits-end-ne48
returns-then-digits-end-ne48 c = back-trimmed c.args.digits.now c.loop-end.end c.requires (omega arith) (omega arith) c.if-digits-end-ne48.true c.loop-end.invariant.1

pub loop-end-preserved : goal.loop-end-preserved
loop-end-preserved c = (omega arith, zero-take c.args.digits.now c.loop-end.end (omega arith) (omega arith) c.if-digits-end-ne48.false c.loop-end.invariant.1)
