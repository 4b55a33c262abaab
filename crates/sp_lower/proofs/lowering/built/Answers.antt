use Rattle.sp_lower.proofs.MemoryLemmas.{memory_opening, memory_refused}
use Rattle.sp_lower.proofs.lowering.built.Goals as goal

pub opened-requires : goal.opened-requires
opened-requires c = memory_opening c.in-Err.refusal (c.in-Err.ensures.accepted c.requires)

pub returns-in-Err-clause-refused : goal.returns-in-Err-clause-refused
returns-in-Err-clause-refused c = memory_refused c.in-Err.refusal c.opened.result (c.in-Err.ensures.accepted c.requires) c.opened.ensures
