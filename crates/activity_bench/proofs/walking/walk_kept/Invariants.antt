use Rattle.sp_activity.specs.Kept.{IsKeptOf}
use Rattle.activity_bench.proofs.walking.walk_kept.Given as goal

abbrev pub invariant-loop-line : goal.invariant-loop-line
invariant-loop-line g l = IsKeptOf l.model l.kept
