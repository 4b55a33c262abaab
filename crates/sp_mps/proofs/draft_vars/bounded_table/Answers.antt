use Rattle.std.proofs.Common.{◌∙◌, sym}
use Rattle.sp_mps.proofs.GatherLemmas.{bounded_next}
use Rattle.sp_mps.proofs.draft_vars.bounded_table.Goals as goal

pub loop-bound-preserved : goal.loop-bound-preserved
loop-bound-preserved c = rw c.index.ensures at c.mark.ensures ∙ bounded_next c.args.count c.loop-bound.bound-index c.args.bounds.now c.bound-item.result c.loop-bound.table.items c.loop-bound-test.true (sym c.bound-item.is) c.loop-bound.invariant
