use Rattle.sp_model.proofs.LawLemmas.{small_bounds}
use Rattle.sp_model.proofs.model_laws.root_is_near.Goals as goal

pub returns-clause-least : goal.returns-clause-least
returns-clause-least c = λ m j l. (small_bounds m j l).0

pub returns-clause-greatest : goal.returns-clause-greatest
returns-clause-greatest c = λ m j l. (small_bounds m j l).1
