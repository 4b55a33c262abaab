use Rattle.std.proofs.Common.{◌∙◌, sym}
use Rattle.sp_mps.proofs.GatherLemmas.{side_next}
use Rattle.sp_mps.proofs.row_tables.side_table.Goals as goal

pub loop-side-preserved : goal.loop-side-preserved
loop-side-preserved c = c.put.ensures ∙ side_next c.args.count c.loop-side.side-index c.args.sides.now c.side-item.result c.loop-side.table.items c.loop-side-test.true (sym c.side-item.is) c.loop-side.invariant
