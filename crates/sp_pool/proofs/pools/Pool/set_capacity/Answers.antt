use Rattle.std.proofs.Common.{◌∙◌, ap, sym, subst, List}
use Rattle.sp_pool.specs.declared.members.Member.{Member}
use Rattle.sp_pool.specs.Pools.{Stock, PoolState, after_capacity}
use Rattle.sp_pool.specs.InnerPools.{IsKept}
use Rattle.sp_pool.proofs.PoolLemmas.{kept_capacity}
use Rattle.sp_pool.proofs.pools.Pool.set_capacity.Goals as goal

pub invariant_of-self : goal.invariant_of-self
invariant_of-self c =
    let s : PoolState = record {
      members = c.self.inside.ranking.members;
      scale = c.self.inside.scale;
      best = c.self.inside.best;
      capacity = c.self.inside.capacity;
      rule = c.self.inside.rule;
      gaps = c.self.inside.gaps;
    } in
    subst (λ (ms : List Member). IsKept (record s { members = ms; capacity = c.args.capacity })) (sym c.shrink.ensures.members) (kept_capacity s c.args.capacity c.self.invariant)

pub returns-clause-state : goal.returns-clause-state
unfolding after_capacity
returns-clause-state c =
    let s : PoolState = record {
      members = c.self.inside.ranking.members;
      scale = c.self.inside.scale;
      best = c.self.inside.best;
      capacity = c.self.inside.capacity;
      rule = c.self.inside.rule;
      gaps = c.self.inside.gaps;
    } in
    ap (λ (ms : List Member). record s { members = ms; capacity = c.args.capacity }) c.shrink.ensures.members
    ∙ ap (λ (p : Stock). after_capacity p.state c.args.capacity) c.self.view_is
