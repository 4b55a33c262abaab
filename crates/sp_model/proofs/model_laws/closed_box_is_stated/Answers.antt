use Rattle.sp_model.proofs.LawLemmas.{closed_is_stated, rounded_is_stated}
use Rattle.sp_model.proofs.model_laws.closed_box_is_stated.Goals as goal

pub returns-clause-rounded : goal.returns-clause-rounded
returns-clause-rounded c = rounded_is_stated

pub returns-clause-root : goal.returns-clause-root
returns-clause-root c = closed_is_stated
