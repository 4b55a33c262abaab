use Rattle.std.proofs.Common.{◌^◌, ◌≡◌, pos, neg_ℤ, sym, ap, ◌∙◌, arith}
use Rattle.std.proofs.lemmas.Int.{ints}
use Rattle.sp_decimal.specs.DecimalFraction.{DecimalFraction}
use Rattle.sp_decimal.proofs.FloorLemmas.{ceil-is}
use Rattle.sp_decimal.proofs.RoundingLemmas.{ceil_positive, ceil_negative, div_ceil-le, div-le}
use Rattle.sp_decimal.proofs.rounding.ceil.Goals as goal

pub returns-then-d-lt0-clause-least : goal.returns-then-d-lt0-clause-least
returns-then-d-lt0-clause-least c =
    let n = c.unsigned_abs-size.result in
    let t = c.power_of_ten-unit.result in
    let less = div-le n t c.power_of_ten-unit.ensures.positive in
    let size : c.d.inside.p ≡ neg_ℤ (pos n) = omega (arith, ints) in
    ceil_negative _ n t _ (ap (λ (d : DecimalFraction). d.p) (sym c.d.view_is) ∙ size)
    (c.power_of_ten-unit.ensures.value ∙ ap (λ (d : DecimalFraction). 10 ^ d.s) c.d.view_is) c.power_of_ten-unit.ensures.positive (omega (arith, ints))

pub returns-else-d-lt0-clause-least : goal.returns-else-d-lt0-clause-least
returns-else-d-lt0-clause-least c =
    let n = c.unsigned_abs-size.result in
    let t = c.power_of_ten-unit.result in
    let less = div_ceil-le n t c.power_of_ten-unit.ensures.positive in
    let size : c.d.inside.p ≡ pos n = omega (arith, ints) in
    ceil_positive _ n t _ (ap (λ (d : DecimalFraction). d.p) (sym c.d.view_is) ∙ size)
    (c.power_of_ten-unit.ensures.value ∙ ap (λ (d : DecimalFraction). 10 ^ d.s) c.d.view_is) c.power_of_ten-unit.ensures.positive (omega (arith, ints))

pub returns-then-d-lt0-clause-value : goal.returns-then-d-lt0-clause-value
returns-then-d-lt0-clause-value c = ceil-is _ _ (returns-then-d-lt0-clause-least c)

pub returns-else-d-lt0-clause-value : goal.returns-else-d-lt0-clause-value
returns-else-d-lt0-clause-value c = ceil-is _ _ (returns-else-d-lt0-clause-least c)
