use Rattle.sp_populate.specs.Complete.{CanRun}
use Rattle.populate_bench.proofs.session.run_lines.Given as goal

abbrev pub invariant-loop-line : goal.invariant-loop-line
invariant-loop-line g l = CanRun l.gaps l.filters l.state
