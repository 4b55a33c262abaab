-- The place that the search by halves finds.
use Rattle.std.proofs.Common.{rules, of_calls}
use Rattle.std.proofs.lemmas.Fn.{always_returns_same}
use Rattle.sp_pool.specs.InnerRanks.{at_keys, is_up_to}
use Rattle.sp_pool.proofs.RankLemmas.{counted, partitioned}
use Rattle.sp_pool.proofs.rankings.count_up_to.Goals as goal

pub returns : goal.returns
returns c = counted _ _ _ c.partition_point.ensures.bound (c.partition_point.ensures.partitioned (at_keys (is_up_to c.args.value.now) c.args.line.now.items) (always_returns_same _ _ _ (λ a r f k. search (rules, of_calls))) (partitioned _ _ c.requires))
