-- A member that makes way leaves room.
use Rattle.std.proofs.Common.{length, arith, ap}
use Rattle.sp_pool.proofs.PoolLemmas.{one_shorter}
use Rattle.sp_pool.proofs.pools.admit.Goals as goal

pub append-requires-then-gives_way : goal.append-requires-then-gives_way
append-requires-then-gives_way c =
    let one = one_shorter c.args.rule c.args.ranking.now.members (omega arith) in
    let dropped = ap length c.drop_one.ensures.members in
    omega arith
