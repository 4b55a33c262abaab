use Rattle.sp_pool.proofs.BestLemmas.{worst_dropped}
use Rattle.sp_pool.proofs.pool_laws.worst_is_the_last_greatest.Goals as goal

pub returns : goal.returns
returns c ms some = worst_dropped ms some
