use Rattle.std.proofs.Common.{◌≡◌, ◌-◌, length}
use Rattle.sp_pool.specs.Pools.{without}
use Rattle.sp_pool.proofs.pools.shrink.Given as goal

-- what is left to drop leaves the same members
abbrev pub invariant-loop-rule : goal.invariant-loop-rule
invariant-loop-rule l = (without l.rule (length l.ranking.members - l.most) l.ranking.members ≡ without l.rule (length l.initial.ranking.members - l.most) l.initial.ranking.members) × (l.ranking.storage ≡ l.initial.ranking.storage)

abbrev pub decreases-loop-rule : goal.decreases-loop-rule
decreases-loop-rule l = length l.ranking.members
