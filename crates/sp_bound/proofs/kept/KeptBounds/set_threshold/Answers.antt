use Rattle.sp_bound.proofs.KeptLemmas.{raised_told}
use Rattle.sp_bound.proofs.kept.KeptBounds.set_threshold.Goals as goal

pub returns-clause-kept : goal.returns-clause-kept
returns-clause-kept c =
    raised_told c.args.model.now c.parts-parts.result.now c.args.self.now c.as_slice.result.now c.as_slice-2.result.now c.args.threshold.now c.raise_all.new.sums c.parts-parts.ensures.same c.as_slice.ensures.value c.as_slice-2.ensures c.requires c.raise_all.ensures
