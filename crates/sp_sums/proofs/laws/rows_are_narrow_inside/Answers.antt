use Rattle.sp_sums.proofs.MakeLemmas.{row_inside}
use Rattle.sp_sums.proofs.laws.rows_are_narrow_inside.Goals as goal

pub returns : goal.returns
returns c = row_inside
