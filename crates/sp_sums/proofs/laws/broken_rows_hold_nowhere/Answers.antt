use Rattle.sp_sums.proofs.LawLemmas.{unbroken}
use Rattle.sp_sums.proofs.laws.broken_rows_hold_nowhere.Goals as goal

pub returns : goal.returns
returns c = unbroken
