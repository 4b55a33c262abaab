use Rattle.std.proofs.Common.{ℕ, ◌<◌, false, slice_index_or}
use Rattle.sp_filter.specs.declared.holding.Held.{Held}
use Rattle.sp_filter.specs.Held.{Closes}
use Rattle.sp_search.proofs.closers.closing_filter.Given as goal

abbrev pub invariant-loop-place : goal.invariant-loop-place
invariant-loop-place l = (k : ℕ) (d : Held) → k < l.place → Closes (slice_index_or l.held k d).filter l.bounds false
