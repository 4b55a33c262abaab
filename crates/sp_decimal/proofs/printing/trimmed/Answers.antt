use Rattle.std.proofs.Common.{sym, ◌∙◌, arith}
use Rattle.sp_decimal.proofs.TrailingZeroLemmas.{without_zeros-take}
use Rattle.sp_decimal.proofs.printing.trimmed.Goals.{then-loop-end-test+else-digits-end-eq48, else-loop-end-test}
use Rattle.sp_decimal.proofs.printing.trimmed.Goals as goal

pub returns-clause-value : goal.returns-clause-value
returns-clause-value c =
    elim c.loop-end-test.branch [
      | then-loop-end-test+else-digits-end-eq48 w ↦
          c.split_at.ensures.front ∙ sym (without_zeros-take c.args.digits.now c.loop-end.end c.loop-end.invariant.0 (λ _. w.if-digits-end-eq48.false) c.loop-end.invariant.1)
      | else-loop-end-test w ↦
          c.split_at.ensures.front ∙ sym (without_zeros-take c.args.digits.now c.loop-end.end c.loop-end.invariant.0 (λ h. absurd (omega arith)) c.loop-end.invariant.1)
    ]
