use Rattle.std.proofs.Common.{◌≢◌, ℕ, ◌<◌, slice_index_or}
use Rattle.sp_cover.specs.Cover.{no_found}
use Rattle.sp_search.proofs.states.first_best.Given as goal

abbrev pub invariant-loop-place : goal.invariant-loop-place
invariant-loop-place l = (k : ℕ) → k < l.place → (slice_index_or l.found k no_found).value ≢ l.value
