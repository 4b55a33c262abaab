use Rattle.std.proofs.Common.{◌-◌, length}
use Rattle.std.specs.Prelude.{All}
use Rattle.sp_pool.specs.Pools.{IsNear}
use Rattle.command_bench.proofs.events.offers_of.Given as goal

abbrev pub invariant-loop-offers : goal.invariant-loop-offers
invariant-loop-offers l = All (λ o. IsNear o.value) l.offers.items

abbrev pub decreases-loop-offers : goal.decreases-loop-offers
decreases-loop-offers l = length l.numbers - l.place
