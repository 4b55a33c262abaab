use Rattle.sp_model.proofs.ModelLemmas.{closed_no_fault, no_fault}
use Rattle.sp_model.proofs.models.Model.build.Goals as goal

pub returns-in-Err-clause-accepted : goal.returns-in-Err-clause-accepted
returns-in-Err-clause-accepted c = λ l. closed_no_fault _ _ l.box c.in-Err.ensures.refused c.in-Err.ensures.early

pub returns-in-Err-check-clause-accepted : goal.returns-in-Err-check-clause-accepted
returns-in-Err-check-clause-accepted c = λ l. no_fault _ _ l c.in-Err-check.ensures
