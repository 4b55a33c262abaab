use Rattle.sp_pool.proofs.BestLemmas.{worst_holds}
use Rattle.sp_pool.proofs.pool_laws.worst_holds_the_best.Goals as goal

pub returns : goal.returns
returns c s offers worst few = worst_holds s offers worst few
