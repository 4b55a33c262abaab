use Rattle.sp_search.proofs.StepLemmas.{first-stated, some-stated}
use Rattle.sp_search.proofs.starting.begun.Goals as goal

pub keep_all-requires-clause-some : goal.keep_all-requires-clause-some
keep_all-requires-clause-some c = rw c.in_ok-lists.ensures (some-stated c.args.model.now)

pub keep_all-requires-clause-first : goal.keep_all-requires-clause-first
keep_all-requires-clause-first c = rw c.in_ok-lists.ensures (first-stated c.args.model.now)
