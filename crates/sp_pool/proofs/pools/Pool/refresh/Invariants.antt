use Rattle.std.proofs.Common.{◌≡◌, ◌-◌, length, drop}
use Rattle.sp_pool.specs.Pools.{after_refresh, HasRoomFor}
use Rattle.sp_pool.proofs.pools.Pool.refresh.Given as goal

-- the offers that are left lead to the same pool, and there is room for them
abbrev pub invariant-loop-offered : goal.invariant-loop-offered
invariant-loop-offered l =
    (after_refresh l.self.state (drop l.offered-index l.offers) ≡ after_refresh l.initial.self.state l.offers)
    × HasRoomFor l.self (length l.offers - l.offered-index)
    × (l.self.storage ≡ l.initial.self.storage)
