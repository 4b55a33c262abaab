-- While a member is above the cut, the worst one is.
use Rattle.std.proofs.Common.{◌<◌, ◌∙◌, ap, sym, length, subst}
use Rattle.sp_pool.specs.Pools.{within}
use Rattle.sp_pool.proofs.RankLemmas.{above_more, above_none, above_shorter}
use Rattle.sp_pool.proofs.rankings.Ranking.drop_above.Goals as goal

pub loop-self-smaller : goal.loop-self-smaller
loop-self-smaller c = subst (λ ms. length ms < length c.loop-self.self.members) (sym c.drop_worst.ensures.members) (above_shorter c.args.cut.now c.loop-self.self.members (sym c.loop-self-test.ensures))

pub loop-self-preserved : goal.loop-self-preserved
loop-self-preserved c = (ap (within c.args.cut.now) c.drop_worst.ensures.members ∙ above_more c.args.cut.now c.loop-self.self.members (sym c.loop-self-test.ensures) ∙ c.loop-self.invariant.0, c.drop_worst.ensures.storage ∙ c.loop-self.invariant.1)

pub returns-clause-members : goal.returns-clause-members
returns-clause-members c = sym (above_none c.args.cut.now c.loop-self.self.members (sym c.loop-self-test.ensures)) ∙ c.loop-self.invariant.0
