use Rattle.std.proofs.Common.{◌≡◌, ℕ, ◌<◌, slice_index_or}
use Rattle.sp_dual.proofs.EntryLemmas.{no_entry}
use Rattle.sp_dual.proofs.multipliers.are_same.Given as goal

abbrev pub invariant-loop-at : goal.invariant-loop-at
invariant-loop-at l = (k : ℕ) → k < l.at → slice_index_or l.left k no_entry ≡ slice_index_or l.right k no_entry
