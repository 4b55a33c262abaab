use Rattle.sp_meaning.proofs.ModelLemmas.{model_said, refusal_said}
use Rattle.sp_meaning.proofs.models.lowered.Goals as goal

pub returns-in-Ok-lowering_refusal-clause-meaning : goal.returns-in-Ok-lowering_refusal-clause-meaning
returns-in-Ok-lowering_refusal-clause-meaning c = refusal_said _ _ _ c.in-Err.ensures.refused c.in-Ok-lowering_refusal.ensures

pub returns-clause-meaning : goal.returns-clause-meaning
returns-clause-meaning c = model_said _ _ c.in-Ok.ensures.good.0 c.in-Ok.ensures.good.1
