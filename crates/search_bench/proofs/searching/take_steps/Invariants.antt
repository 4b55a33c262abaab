use Rattle.sp_search.specs.States.{HasCursor}
use Rattle.search_bench.proofs.searching.take_steps.Given as goal

abbrev pub invariant-loop-round : goal.invariant-loop-round
invariant-loop-round l = HasCursor l.state l.cursor
