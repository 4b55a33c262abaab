use Rattle.sp_activity.specs.Kept.{IsKeptOf}
use Rattle.activity_bench.proofs.rounds.count_open.Given as goal

abbrev pub invariant-loop-round : goal.invariant-loop-round
invariant-loop-round l = IsKeptOf l.model l.kept
