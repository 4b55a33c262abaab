use Rattle.sp_model.proofs.QuotientLemmas.{floor_exact, floor_exact_below, ceiling_exact, ceiling_exact_below}
use Rattle.sp_model.proofs.model_laws.quotients_are_exact.Goals as goal

pub returns-clause-floor : goal.returns-clause-floor
returns-clause-floor c = floor_exact

pub returns-clause-floor_below : goal.returns-clause-floor_below
returns-clause-floor_below c = floor_exact_below

pub returns-clause-ceiling : goal.returns-clause-ceiling
returns-clause-ceiling c = ceiling_exact

pub returns-clause-ceiling_below : goal.returns-clause-ceiling_below
returns-clause-ceiling_below c = ceiling_exact_below
