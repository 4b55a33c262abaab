use Rattle.sp_sums.proofs.InsideLemmas.{low_inside, high_inside}
use Rattle.sp_sums.proofs.laws.broken_rows_stay_broken.Goals as goal

pub returns : goal.returns
returns c = record { low = low_inside; high = high_inside }
