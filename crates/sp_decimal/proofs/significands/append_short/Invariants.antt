use Rattle.std.proofs.Common.{◌≡◌, ◌+◌, ◌*◌, ◌-◌, ◌^◌, ◌≤◌, fold, take}
use Rattle.sp_decimal.proofs.significands.append_short.Given as goal

abbrev pub invariant-loop-digit : goal.invariant-loop-digit
invariant-loop-digit l =
    (l.value ≡ fold (λ value digit. 10 * value + (digit - 48)) l.initial.value (take l.digit-index l.digits))
    × (l.value + 1 ≤ (l.initial.value + 1) * 10 ^ l.digit-index)
