use Rattle.std.proofs.Common.{◌∙◌, ◌≤◌, ap, sym, subst, List, length}
use Rattle.std.specs.List.Sorted.{IsNonDecreasing}
use Rattle.sp_pool.specs.declared.members.Member.{Member}
use Rattle.sp_pool.specs.Pools.{Stock, PoolState, after_retain, is_listed}
use Rattle.sp_pool.proofs.PoolLemmas.{kept_fewer, listed_alike, filter_shorter}
use Rattle.sp_pool.proofs.pools.Pool.retain.Goals as goal

pub retain-requires : goal.retain-requires
retain-requires c = subst IsNonDecreasing (sym c.deref.ensures.value) c.in_ok-sorted.ensures.sorted

pub invariant_of-self : goal.invariant_of-self
invariant_of-self c =
    let s : PoolState = record {
      members = c.self.inside.ranking.members;
      scale = c.self.inside.scale;
      best = c.self.inside.best;
      capacity = c.self.inside.capacity;
      rule = c.self.inside.rule;
      gaps = c.self.inside.gaps;
    } in
    kept_fewer s c.retain.new.self.members c.self.invariant
    (subst (λ (ms : List Member). length ms ≤ length c.self.inside.ranking.members) (sym c.retain.ensures.members) (filter_shorter (is_listed c.deref.result.now) c.self.inside.ranking.members))

pub returns-clause-ok : goal.returns-clause-ok
unfolding after_retain
returns-clause-ok c =
    let s : PoolState = record {
      members = c.self.inside.ranking.members;
      scale = c.self.inside.scale;
      best = c.self.inside.best;
      capacity = c.self.inside.capacity;
      rule = c.self.inside.rule;
      gaps = c.self.inside.gaps;
    } in
    ap (λ (ms : List Member). record s { members = ms }) (c.retain.ensures.members ∙ listed_alike c.args.serials.now c.in_ok-sorted.sorted.items c.deref.result.now c.self.inside.ranking.members c.in_ok-sorted.ensures.same c.deref.ensures.value)
    ∙ ap (λ (p : Stock). after_retain p.state c.args.serials.now) c.self.view_is
