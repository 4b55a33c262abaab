use Rattle.std.proofs.Common.{◌∙◌, ap, sym, subst, List}
use Rattle.sp_pool.specs.declared.members.Member.{Member}
use Rattle.sp_pool.specs.Pools.{Stock, PoolState, after_gaps}
use Rattle.sp_pool.specs.InnerPools.{IsKept}
use Rattle.sp_pool.proofs.PoolLemmas.{kept_gaps}
use Rattle.sp_pool.proofs.pools.Pool.set_gaps.Goals as goal

pub invariant_of-self : goal.invariant_of-self
invariant_of-self c =
    let s : PoolState = record {
      members = c.self.inside.ranking.members;
      scale = c.self.inside.scale;
      best = c.self.inside.best;
      capacity = c.self.inside.capacity;
      rule = c.self.inside.rule;
      gaps = c.self.inside.gaps;
    } in
    subst (λ (ms : List Member). IsKept (record s { members = ms; gaps = c.args.gaps })) (sym c.drop_beyond.ensures.members) (kept_gaps s c.args.gaps c.self.invariant c.requires.abs c.requires.rel)

pub returns-clause-state : goal.returns-clause-state
unfolding after_gaps
returns-clause-state c =
    let s : PoolState = record {
      members = c.self.inside.ranking.members;
      scale = c.self.inside.scale;
      best = c.self.inside.best;
      capacity = c.self.inside.capacity;
      rule = c.self.inside.rule;
      gaps = c.self.inside.gaps;
    } in
    ap (λ (ms : List Member). record s { members = ms; gaps = c.args.gaps }) c.drop_beyond.ensures.members
    ∙ ap (λ (p : Stock). after_gaps p.state c.args.gaps) c.self.view_is
