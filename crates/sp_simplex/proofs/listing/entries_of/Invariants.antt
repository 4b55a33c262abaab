use Rattle.std.proofs.Common.{◌≤◌}
use Rattle.smallvec.specs.SmallVec.{small_vec_len}
use Rattle.sp_simplex.proofs.listing.entries_of.Given as goal

abbrev pub invariant-loop-place : goal.invariant-loop-place
invariant-loop-place l = (small_vec_len l.entries ≤ l.place) × (8 ≤ l.entries.capacity)
