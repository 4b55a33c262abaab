use Rattle.std.proofs.Common.{◌≡◌, ◌-◌, ◌^◌, min, take}
use Rattle.sp_args.specs.Values.{number_of}
use Rattle.sp_args.proofs.values.number.Given as goal

-- the number of the digits so far
abbrev pub invariant-loop-byte : goal.invariant-loop-byte
invariant-loop-byte l = l.n ≡ min (number_of (take l.byte-index l.text)) (2 ^ 64 - 1)
