use Rattle.sp_sums.proofs.LawLemmas.{spanned}
use Rattle.sp_sums.proofs.laws.sums_lie_between.Goals as goal

pub returns : goal.returns
returns c = spanned
