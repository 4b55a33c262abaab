use Rattle.std.proofs.Common.{◌≡◌, drop}
use Rattle.sp_filter.specs.Held.{filter_of}
use Rattle.filter_bench.proofs.asking.is_held_narrow.Given as goal

abbrev pub invariant-loop-entry : goal.invariant-loop-entry
invariant-loop-entry l = filter_of (drop l.entry-index l.held) l.id ≡ filter_of l.held l.id
