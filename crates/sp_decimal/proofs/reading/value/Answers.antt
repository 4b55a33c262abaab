use Rattle.std.proofs.Common.{◌∙◌, arith}
use Rattle.sp_decimal.specs.declared.places.Place.TheVariants.{TooLarge, Whole, Decimals, TooFine}
use Rattle.sp_decimal.proofs.ReadLemmas.{value-zero, value-at, whole-small, digits-fit, exact-whole, exact-decimals}
use Rattle.sp_decimal.proofs.reading.value.Goals as goal

pub returns-then-size-eq0 : goal.returns-then-size-eq0
returns-then-size-eq0 c = value-zero c.args.negative _ _ _ _ _ _ _ _ c.strip-zeros.ensures c.if-size-eq0.true c.decimal.ensures

pub decimal-requires-in-Whole-clause-small : goal.decimal-requires-in-Whole-clause-small
decimal-requires-in-Whole-clause-small c =
    whole-small c.strip-zeros.result.head.now c.strip-zeros.result.tail.now c.whole_number.result _ _ c.in-Whole.zeros (c.strip-zeros.ensures.significand (omega arith)) c.in-Whole.ensures.0 c.in-Whole.ensures.1 c.whole_number.ensures

pub decimal-requires-in-Decimals-clause-small : goal.decimal-requires-in-Decimals-clause-small
decimal-requires-in-Decimals-clause-small c =
    digits-fit c.strip-zeros.result.head.now c.strip-zeros.result.tail.now c.number.result (c.strip-zeros.ensures.significand (omega arith)) c.in-Decimals.ensures.4 c.number.ensures

pub returns-in-TooLarge : goal.returns-in-TooLarge
returns-in-TooLarge c =
    value-at c.args.negative _ _ _ _ c.args.parts.now.exponent.now _ _ _ _ TooLarge c.strip-zeros.ensures (omega arith) c.shift_of-shift.ensures.raised c.shift_of-shift.ensures.lowered (omega arith) (omega arith) c.in-TooLarge.ensures

pub returns-in-Whole : goal.returns-in-Whole
returns-in-Whole c =
    exact-whole c.args.negative _ _ _ c.decimal-in-Whole.result c.decimal-in-Whole.ensures c.whole_number.ensures
    ∙ value-at c.args.negative _ _ _ _ c.args.parts.now.exponent.now _ _ _ _ (Whole c.in-Whole.zeros) c.strip-zeros.ensures (omega arith) c.shift_of-shift.ensures.raised c.shift_of-shift.ensures.lowered (omega arith) (omega arith) c.in-Whole.ensures

pub returns-in-Decimals : goal.returns-in-Decimals
returns-in-Decimals c =
    exact-decimals c.args.negative _ _ _ c.decimal-in-Decimals.result c.decimal-in-Decimals.ensures c.number.ensures
    ∙ value-at c.args.negative _ _ _ _ c.args.parts.now.exponent.now _ _ _ _ (Decimals c.in-Decimals.places) c.strip-zeros.ensures (omega arith) c.shift_of-shift.ensures.raised c.shift_of-shift.ensures.lowered (omega arith) (omega arith) c.in-Decimals.ensures

pub returns-in-TooFine : goal.returns-in-TooFine
returns-in-TooFine c =
    value-at c.args.negative _ _ _ _ c.args.parts.now.exponent.now _ _ _ _ TooFine c.strip-zeros.ensures (omega arith) c.shift_of-shift.ensures.raised c.shift_of-shift.ensures.lowered (omega arith) (omega arith) c.in-TooFine.ensures
