use Rattle.sp_sums.proofs.LawLemmas.{column_is}
use Rattle.sp_sums.proofs.laws.columns_are_exact.Goals as goal

pub returns : goal.returns
returns c = column_is
