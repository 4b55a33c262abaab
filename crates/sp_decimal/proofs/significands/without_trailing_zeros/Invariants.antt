use Rattle.std.proofs.Common.{◌≡◌, ◌*◌, ◌-◌, ◌^◌, ◌≤◌, length, take}
use Rattle.sp_decimal.specs.Grammar.{value_of}
use Rattle.sp_decimal.proofs.significands.without_trailing_zeros.Given as goal

abbrev pub invariant-loop-end : goal.invariant-loop-end
invariant-loop-end l = (l.end ≤ length l.digits) × (value_of l.digits ≡ value_of (take l.end l.digits) * 10 ^ (length l.digits - l.end))

abbrev pub decreases-loop-end : goal.decreases-loop-end
decreases-loop-end l = l.end
