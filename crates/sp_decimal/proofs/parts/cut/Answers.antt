use Rattle.std.proofs.Common.{sym}
use Rattle.sp_decimal.proofs.CutLemmas.{plain-none, plain-cut, plain-bad, cut-by_parts, power-digits}
use Rattle.sp_decimal.proofs.parts.cut.Goals as goal

pub returns-then-has_none-clause-plain : goal.returns-then-has_none-clause-plain
returns-then-has_none-clause-plain c = plain-none _ _ _ _ _ c.split_mantissa.ensures c.has_none.ensures c.if-has_none.true

pub returns-in-Some-clause-plain : goal.returns-in-Some-clause-plain
returns-in-Some-clause-plain c = plain-cut _ _ _ _ _ _ c.split_mantissa.ensures c.has_none.ensures c.if-has_none.false c.in-Some.ensures

pub returns-in-Some-clause-parts : goal.returns-in-Some-clause-parts
returns-in-Some-clause-parts c = cut-by_parts _ _ _ _ _ c.split_mantissa.ensures (sym c.in-Some.ensures)

pub returns-in-Some-clause-power : goal.returns-in-Some-clause-power
returns-in-Some-clause-power c = power-digits c.split_mantissa.result.rest.now _ (sym c.in-Some.ensures)

pub returns-in-None-clause-plain : goal.returns-in-None-clause-plain
returns-in-None-clause-plain c = plain-bad _ _ _ _ c.split_mantissa.ensures c.in-None.ensures
