-- A new pool has no members, and each event keeps what the capacity allows.
use Rattle.std.proofs.Common.{arith}
use Rattle.sp_pool.specs.Pools.{empty_state}
use Rattle.sp_pool.proofs.PoolLemmas.{few_after_all}
use Rattle.sp_pool.proofs.pool_laws.pool_is_never_overfull.Goals as goal

pub returns : goal.returns
returns c scale events = few_after_all (empty_state scale) events (omega arith)
