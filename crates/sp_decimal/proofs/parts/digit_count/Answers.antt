use Rattle.std.proofs.Common.{sym, ◌∙◌, arith}
use Rattle.sp_decimal.proofs.DigitRunLemmas.{run-stops, run-whole}
use Rattle.sp_decimal.proofs.parts.digit_count.Goals as goal

pub returns-then-not-is_ascii_digit : goal.returns-then-not-is_ascii_digit
returns-then-not-is_ascii_digit c = run-stops c.args.text.now c.loop-i.i (omega arith) c.loop-i.invariant (sym c.is_ascii_digit.ensures.value ∙ c.if-not-is_ascii_digit.true)

pub returns : goal.returns
returns c = run-whole c.args.text.now (λ k l. c.loop-i.invariant k (omega arith))
