use Rattle.sp_model.proofs.LawLemmas.{small_objective}
use Rattle.sp_model.proofs.model_laws.objective_is_small.Goals as goal

pub returns : goal.returns
returns c = small_objective
