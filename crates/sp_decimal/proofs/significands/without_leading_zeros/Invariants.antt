use Rattle.std.proofs.Common.{◌≡◌, drop}
use Rattle.sp_decimal.specs.Grammar.{value_of}
use Rattle.sp_decimal.proofs.significands.without_leading_zeros.Given as goal

abbrev pub invariant-loop-i : goal.invariant-loop-i
invariant-loop-i l = value_of (drop l.i l.digits) ≡ value_of l.digits
