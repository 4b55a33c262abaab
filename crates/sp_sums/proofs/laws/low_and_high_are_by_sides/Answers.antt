use Rattle.sp_sums.proofs.LawLemmas.{low_is, high_is}
use Rattle.sp_sums.proofs.laws.low_and_high_are_by_sides.Goals as goal

pub returns : goal.returns
returns c = record { low = low_is; high = high_is }
