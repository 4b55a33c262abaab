use Rattle.std.proofs.Common.{◌∙◌, sym}
use Rattle.sp_mps.proofs.GatherLemmas.{range_next}
use Rattle.sp_mps.proofs.row_tables.range_table.Goals as goal

pub loop-range-preserved : goal.loop-range-preserved
loop-range-preserved c = c.put.ensures ∙ range_next c.args.count c.loop-range.range-index c.args.ranges.now c.range-item.result c.loop-range.table.items c.loop-range-test.true (sym c.range-item.is) c.loop-range.invariant
