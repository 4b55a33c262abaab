use Rattle.sp_lower.proofs.LowerLemmas.{none_open, open_refused}
use Rattle.sp_lower.proofs.MemoryLemmas.{opening}
use Rattle.sp_lower.proofs.lowering.closed_root.Goals as goal

pub returns-in-Ok-clause-none : goal.returns-in-Ok-clause-none
returns-in-Ok-clause-none c = none_open c.args.parts.now c.in-Ok.ensures.closed.1

pub returns-in-Err-clause-refused : goal.returns-in-Err-clause-refused
returns-in-Err-clause-refused c = rw c.opened.ensures (open_refused c.args.parts.now c.in-Err.refusal c.in-Err.ensures.refused)

pub opened-requires : goal.opened-requires
opened-requires c = opening c.args.parts.now c.in-Err.refusal c.requires c.in-Err.ensures.refused c.in-Err.ensures.early
