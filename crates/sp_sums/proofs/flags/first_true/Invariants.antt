use Rattle.std.proofs.Common.{◌≡◌, ℕ, ◌<◌, false}
use Rattle.sp_sums.specs.Flags.{flag_at}
use Rattle.sp_sums.proofs.flags.first_true.Given as goal

abbrev pub invariant-loop-at : goal.invariant-loop-at
invariant-loop-at l = (k : ℕ) → k < l.at → flag_at l.bits k ≡ false
