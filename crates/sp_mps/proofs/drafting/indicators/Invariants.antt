use Rattle.std.proofs.Common.{◌≡◌, map, take}
use Rattle.sp_mps.specs.inner.Tables.{indicator_of}
use Rattle.sp_mps.proofs.drafting.indicators.Given as goal

abbrev pub invariant-loop-line : goal.invariant-loop-line
invariant-loop-line l = l.made.items ≡ map (indicator_of l.kinds l.tables.terms.items l.tables.sides.items l.tables.ranges.items) (take l.line-index l.lines)
