use Rattle.std.proofs.Common.{sym, ◌∙◌}
use Rattle.sp_lower.specs.Faults.{indicator_fault}
use Rattle.sp_lower.proofs.FaultLemmas.{fault_next}
use Rattle.sp_lower.proofs.faults.first_indicator_fault.Goals as goal

pub loop-at-preserved : goal.loop-at-preserved
loop-at-preserved c =
    fault_next (indicator_fault c.args.root.now) c.args.indicators.now c.loop-at.at c.index-indicators-at.result c.loop-at-test.true c.index-indicators-at.is (sym c.in-None.ensures)
    ∙ c.loop-at.invariant
