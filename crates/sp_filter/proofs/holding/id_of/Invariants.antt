use Rattle.std.proofs.Common.{◌≡◌, drop}
use Rattle.sp_filter.specs.Held.{id_of}
use Rattle.sp_filter.proofs.holding.id_of.Given as goal

abbrev pub invariant-loop-entry : goal.invariant-loop-entry
invariant-loop-entry l = id_of (drop l.entry-index l.held) l.name ≡ id_of l.held l.name
