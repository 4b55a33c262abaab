use Rattle.std.proofs.Common.{◌≡◌, ◌<◌, length, arith}
use Rattle.std.proofs.lemmas.Bool.Decides.{nat_tests}
use Rattle.sp_decimal.proofs.StripLemmas.{strip-whole, strip-fraction, strip-both}
use Rattle.sp_decimal.proofs.significands.strip.Goals as goal

pub returns-then-is_empty : goal.returns-then-is_empty
returns-then-is_empty c =
    let none : length c.without_trailing_zeros-tail.result.now ≡ 0 = grind (arith, nat_tests) in
    strip-whole _ _ _ _ _ c.without_leading_zeros-head.ensures c.without_trailing_zeros-tail.ensures none c.without_trailing_zeros-short.ensures

pub returns-then-is_empty-2 : goal.returns-then-is_empty-2
returns-then-is_empty-2 c =
    let some : 0 < length c.without_trailing_zeros-tail.result.now = grind (arith, nat_tests) in
    let none : length c.without_leading_zeros-head.result.now ≡ 0 = grind (arith, nat_tests) in
    strip-fraction _ _ _ _ _ c.without_leading_zeros-head.ensures c.without_trailing_zeros-tail.ensures some none c.without_leading_zeros.ensures

pub returns : goal.returns
returns c =
    let some : 0 < length c.without_trailing_zeros-tail.result.now = grind (arith, nat_tests) in
    let more : 0 < length c.without_leading_zeros-head.result.now = grind (arith, nat_tests) in
    strip-both _ _ _ _ c.without_leading_zeros-head.ensures c.without_trailing_zeros-tail.ensures some more
