use Rattle.std.proofs.Common.{◌≡◌, length}
use Rattle.sp_bound.specs.Keeping.{IsDraftOf}
use Rattle.sp_bound.proofs.keeping.drafted.Given as goal

abbrev pub invariant-loop-at : goal.invariant-loop-at
invariant-loop-at l = record { drafted : IsDraftOf l.model l.lists l.at l.draft; long : length l.costs.items ≡ length l.root }
