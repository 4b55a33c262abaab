-- Each round drops one member.
use Rattle.std.proofs.Common.{◌∙◌, ap, length, arith, ◌-◌}
use Rattle.sp_pool.specs.Pools.{without}
use Rattle.sp_pool.proofs.PoolLemmas.{one_shorter, without_step}
use Rattle.sp_pool.proofs.pools.shrink.Goals as goal

pub loop-rule-smaller : goal.loop-rule-smaller
loop-rule-smaller c =
    let one = one_shorter c.args.rule c.loop-rule.ranking.members (omega arith) in
    let dropped = ap length c.drop_one.ensures.members in
    omega arith

pub loop-rule-preserved : goal.loop-rule-preserved
loop-rule-preserved c = (
  ap (λ ms. without c.args.rule (length ms - c.args.most) ms) c.drop_one.ensures.members
      ∙ without_step c.args.rule c.loop-rule.ranking.members c.args.most (omega arith) ∙ c.loop-rule.invariant.0,
  c.drop_one.ensures.storage ∙ c.loop-rule.invariant.1,
)
