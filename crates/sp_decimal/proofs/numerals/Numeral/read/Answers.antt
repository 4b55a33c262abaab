use Rattle.sp_decimal.proofs.ReadLemmas.{numeral-endless, numeral-cut, numeral-none}
use Rattle.sp_decimal.proofs.numerals.Numeral.read.Goals as goal

pub returns-then-is_endless : goal.returns-then-is_endless
returns-then-is_endless c = numeral-endless _ _ _ _ c.split_sign-negative.ensures.negative c.split_sign-negative.ensures.rest c.is_endless.ensures c.if-is_endless.true

pub returns-in-Some : goal.returns-in-Some
returns-in-Some c =
    numeral-cut _ _ _ _ _ _ _ _ c.split_sign-negative.ensures.negative c.split_sign-negative.ensures.rest c.is_endless.ensures c.if-is_endless.false c.in-Some.ensures.plain c.in-Some.ensures.parts c.value.ensures

pub returns-in-None : goal.returns-in-None
returns-in-None c = numeral-none _ _ _ c.split_sign-negative.ensures.rest c.is_endless.ensures c.if-is_endless.false c.in-None.ensures.plain
