use Rattle.std.proofs.Common.{arith}
use Rattle.std.proofs.lemmas.List.{take_rest, length-drop}
use Rattle.sp_decimal.proofs.DigitValueLemmas.{digits-drop, first-drop}
use Rattle.sp_decimal.proofs.significands.without_leading_zeros.Goals as goal

pub returns-then-digits-i-ne48 : goal.returns-then-digits-i-ne48
returns-then-digits-i-ne48 c = rw take_rest (record {
  all = digits-drop c.loop-i.i c.args.digits.now c.requires;
  value = c.loop-i.invariant;
  first = λ _. first-drop c.args.digits.now c.loop-i.i (omega arith) c.requires c.if-digits-i-ne48.true;
  shorter = omega (arith, length-drop c.loop-i.i c.args.digits.now);
})
