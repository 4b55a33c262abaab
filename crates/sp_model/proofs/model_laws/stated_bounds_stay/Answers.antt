use Rattle.sp_model.proofs.LawLemmas.{lower_stays, upper_stays}
use Rattle.sp_model.proofs.model_laws.stated_bounds_stay.Goals as goal

pub returns-clause-lower : goal.returns-clause-lower
returns-clause-lower c = lower_stays

pub returns-clause-upper : goal.returns-clause-upper
returns-clause-upper c = upper_stays
