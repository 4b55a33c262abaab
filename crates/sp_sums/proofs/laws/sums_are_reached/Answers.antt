use Rattle.sp_sums.proofs.LawLemmas.{reached}
use Rattle.sp_sums.proofs.laws.sums_are_reached.Goals as goal

pub returns : goal.returns
returns c = reached
