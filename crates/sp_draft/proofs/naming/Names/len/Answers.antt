use Rattle.sp_draft.proofs.NameLemmas.{names-distinct}
use Rattle.sp_draft.proofs.naming.Names.len.Goals as goal

pub returns-clause-distinct : goal.returns-clause-distinct
returns-clause-distinct c = rw (← c.self.view_is) (names-distinct c.self.inside.set.keys c.len.ensures.unique)
