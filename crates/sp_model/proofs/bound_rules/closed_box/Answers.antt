use Rattle.std.proofs.Common.{arith}
use Rattle.sp_model.proofs.ModelLemmas.{closed_accepted, closed_long, closed_no_fault}
use Rattle.sp_model.proofs.StatedLemmas.{length_stated}
use Rattle.sp_model.proofs.bound_rules.closed_box.Goals as goal

pub rounded-requires-clause-cores : goal.rounded-requires-clause-cores
rounded-requires-clause-cores c =
    let h = c.in-Ok.ensures.lawful in
    λ k d l. omega (arith, (h.cores.each k d l).known, length_stated c.args.parts.now h.variables.paired)

pub returns-in-Err-clause-accepted : goal.returns-in-Err-clause-accepted
returns-in-Err-clause-accepted c = λ l. closed_no_fault c.args.parts.now _ l c.in-Err.ensures.lawful c.in-Err.ensures.early

pub returns-in-Ok-rounded-clause-accepted : goal.returns-in-Ok-rounded-clause-accepted
returns-in-Ok-rounded-clause-accepted c = closed_accepted c.args.parts.now c.close.result c.close.ensures.refused c.close.ensures.early

pub returns-in-Ok-rounded-clause-long : goal.returns-in-Ok-rounded-clause-long
returns-in-Ok-rounded-clause-long c = closed_long c.args.parts.now c.close.result c.close.ensures.closed
