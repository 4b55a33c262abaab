use Rattle.std.proofs.Common.{◌≡◌, ◌≤◌, length, drop, None}
use Rattle.sp_command.specs.Filters.{cut_last}
use Rattle.sp_command.proofs.diversity.split_last.Given as goal

-- no colon stands behind this place
abbrev pub invariant-loop-place : goal.invariant-loop-place
invariant-loop-place l = (cut_last (drop l.place l.text) ≡ None) × (l.place ≤ length l.text)
