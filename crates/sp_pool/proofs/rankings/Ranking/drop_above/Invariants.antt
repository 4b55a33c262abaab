use Rattle.std.proofs.Common.{◌≡◌, length}
use Rattle.sp_pool.specs.Pools.{within}
use Rattle.sp_pool.proofs.rankings.Ranking.drop_above.Given as goal

-- the members that are left have the same ones within the cut
abbrev pub invariant-loop-self : goal.invariant-loop-self
invariant-loop-self l = (within l.cut l.self.members ≡ within l.cut l.initial.self.members) × (l.self.storage ≡ l.initial.self.storage)

abbrev pub decreases-loop-self : goal.decreases-loop-self
decreases-loop-self l = length l.self.members
