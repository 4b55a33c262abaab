use Rattle.sp_scaling.proofs.CollectedLemmas.{collected-lawful, collected-narrow}
use Rattle.sp_scaling.proofs.laws.collected_terms_are_lawful.Goals as goal

pub returns : goal.returns
returns c = record { lawful = collected-lawful; narrow = collected-narrow }
