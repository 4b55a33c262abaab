use Rattle.std.proofs.Common.{All, take}
use Rattle.sp_filter.specs.declared.holding.Held.{Held}
use Rattle.sp_filter.specs.Filters.{IsNarrow, box_at}
use Rattle.filter_bench.proofs.asking.are_narrow_at.Given as goal

abbrev pub invariant-loop-entry : goal.invariant-loop-entry
invariant-loop-entry l = All (λ (h : Held). IsNarrow h.filter (box_at l.x)) (take l.entry-index l.held)
