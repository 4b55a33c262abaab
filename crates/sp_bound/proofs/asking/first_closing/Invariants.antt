use Rattle.std.proofs.Common.{◌≡◌, ℕ, ◌<◌, false, get_or}
use Rattle.sp_bound.specs.Closing.{closes, list_at}
use Rattle.sp_bound.proofs.asking.first_closing.Given as goal

abbrev pub invariant-loop-place : goal.invariant-loop-place
invariant-loop-place l = (k : ℕ) (d : ℕ) → k < l.place-index → closes l.model l.bounds l.threshold (list_at l.lists (get_or l.asked k d)) ≡ false
