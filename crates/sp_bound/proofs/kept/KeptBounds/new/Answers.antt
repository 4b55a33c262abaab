use Rattle.sp_bound.proofs.KeptLemmas.{start_read}
use Rattle.sp_bound.proofs.kept.KeptBounds.new.Goals as goal

pub returns-clause-kept : goal.returns-clause-kept
returns-clause-kept c =
    start_read c.args.model.now c.in_ok-lists.lists c.as_slice.result.now c.as_slice-2.result.now c.in_ok-draft.draft c.in_ok-parts.parts c.joined.result c.in_ok-lists.ensures c.as_slice.ensures.value c.in_ok-draft.ensures c.in_ok-parts.ensures c.joined.ensures
