use Rattle.sp_sums.proofs.InsideLemmas.{least_inside, most_inside}
use Rattle.sp_sums.proofs.laws.sums_narrow_inside.Goals as goal

pub returns : goal.returns
returns c = record { least = least_inside; most = most_inside }
