use Rattle.sp_scaling.proofs.CollectedLemmas.{turned-lawful, turned-wide}
use Rattle.sp_scaling.proofs.laws.turned_terms_are_lawful.Goals as goal

pub returns : goal.returns
returns c = record { lawful = turned-lawful; wide = turned-wide }
