-- What is true of every pool. No public clause cites this module.
use Rattle.std.specs.Prelude.{◌≤◌, length}
use Rattle.std.specs.Option.{ForSome}
use Rattle.sp_model.specs.Cuts.{IsGap}
use Rattle.sp_pool.specs.Pools.{PoolState, IsNear}

-- no more members than the capacity, a near best value, lawful gaps and a scale of at most 30
pub record IsKept (s : PoolState) : Type 0 where
  pub few : length s.members ≤ s.capacity
  pub near : ForSome s.best IsNear
  pub abs : IsGap s.gaps.abs
  pub rel : IsGap s.gaps.rel
  pub scaled : s.scale ≤ 30
