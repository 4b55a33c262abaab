use Rattle.std.proofs.Common.{◌≡◌, ◌^◌, min, take}
use Rattle.sp_decimal.specs.Grammar.{value_of}
use Rattle.sp_decimal.proofs.places.capped.Given as goal

abbrev pub invariant-loop-digit : goal.invariant-loop-digit
invariant-loop-digit l = l.value ≡ min (value_of (take l.digit-index l.digits)) (2 ^ 100)
