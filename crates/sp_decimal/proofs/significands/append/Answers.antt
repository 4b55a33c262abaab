use Rattle.std.proofs.Common.{◌^◌, ◌+◌, ◌*◌, ◌-◌, get_or, refl, ap, ◌∙◌, arith}
use Rattle.std.proofs.lemmas.List.{take_all}
use Rattle.sp_decimal.proofs.DigitValueLemmas.{room-at, fold-step, fold-value, next_value}
use Rattle.std.specs.List.{fold}
use Rattle.sp_decimal.proofs.significands.append.Goals as goal

pub overflow_mul-value : goal.overflow_mul-value
overflow_mul-value c =
    omega (arith, (room-at c.args.value c.loop-digit.value c.loop-digit.digit-index c.args.digits.now (10 ^ 38) c.loop-digit-test.true c.requires.digits c.loop-digit.invariant.1 c.requires.fits).below)

pub overflow_add-value : goal.overflow_add-value
overflow_add-value c =
    omega (arith, (room-at c.args.value c.loop-digit.value c.loop-digit.digit-index c.args.digits.now (10 ^ 38) c.loop-digit-test.true c.requires.digits c.loop-digit.invariant.1 c.requires.fits).below)

pub loop-digit-preserved : goal.loop-digit-preserved
loop-digit-preserved c =
    let step = fold-step c.args.value c.args.digits.now c.loop-digit.digit-index (get_or c.args.digits.now c.loop-digit.digit-index 0) c.loop-digit-test.true refl in (
      ap (λ d. 10 * c.loop-digit.value + d) c.from.ensures ∙ ap (λ v. 10 * v + (get_or c.args.digits.now c.loop-digit.digit-index 0 - 48)) c.loop-digit.invariant.0 ∙ step,
      omega (arith, (room-at c.args.value c.loop-digit.value c.loop-digit.digit-index c.args.digits.now (10 ^ 38) c.loop-digit-test.true c.requires.digits c.loop-digit.invariant.1 c.requires.fits).room),
    )

pub returns : goal.returns
returns c =
    c.loop-digit.invariant.0
    ∙ ap (fold next_value c.args.value) (take_all c.loop-digit.digit-index c.args.digits.now c.loop-digit-test.false)
    ∙ fold-value c.args.value c.args.digits.now
