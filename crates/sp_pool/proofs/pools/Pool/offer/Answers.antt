-- Each part of the step is that of the definition.
use Rattle.std.proofs.Common.{◌≡◌, ◌∙◌, ap, sym, subst, length, arith, rules, min, ◌+◌, ℤ, Some}
use mir.Val.{to_z, of_z}
use mir.Syntax.{w128}
use Rattle.sp_pool.specs.Pools.{Stock, PoolState, after_offer, best_with, HasRoomFor, cut_at}
use Rattle.sp_pool.specs.InnerPools.{IsKept}
use Rattle.sp_pool.proofs.PoolLemmas.{within_shorter, kept_offered, best_near, offered_is, room_kept, same_number}
use Rattle.sp_pool.proofs.pools.Pool.offer.Goals as goal

pub take_in-requires-clause-few : goal.take_in-requires-clause-few
take_in-requires-clause-few c =
    let shorter = within_shorter (to_z w128 (of_z w128 c.cut-limit.result)) c.self.inside.ranking.members in
    let kept = ap length c.drop_above.ensures.members in
    let few = c.self.invariant.few in
    omega arith

pub take_in-requires-clause-room : goal.take_in-requires-clause-room
take_in-requires-clause-room c =
    let shorter = within_shorter (to_z w128 (of_z w128 c.cut-limit.result)) c.self.inside.ranking.members in
    let kept = ap length c.drop_above.ensures.members in
    let room = ap (λ (p : Stock). min (length p.state.members + 1) p.state.capacity) c.self.view_is in
    let stored = ap (λ (p : Stock). p.storage) c.self.view_is in
    let same = c.drop_above.ensures.storage in
    let had = c.requires.room in
    omega arith

pub invariant_of-self : goal.invariant_of-self
invariant_of-self c =
    let s : PoolState = record {
      members = c.self.inside.ranking.members;
      scale = c.self.inside.scale;
      best = c.self.inside.best;
      capacity = c.self.inside.capacity;
      rule = c.self.inside.rule;
      gaps = c.self.inside.gaps;
    } in
    let best : ℤ = best_with c.self.inside.best c.args.offered.value in
    let best_same : to_z w128 (of_z w128 c.lesser-best.result) ≡ best = same_number c.lesser-best.result (search rules) ∙ c.lesser-best.ensures in
    let cut_same : to_z w128 (of_z w128 c.cut-limit.result) ≡ cut_at s best = same_number c.cut-limit.result (search rules) ∙ c.cut-limit.ensures ∙ ap (cut_at s) best_same in
    subst IsKept (sym (offered_is s _ _ best _ _ c.args.offered cut_same c.drop_above.ensures.members c.take_in.ensures.members (ap Some best_same)))
    (kept_offered s best c.args.offered c.self.invariant (best_near c.self.inside.best c.args.offered.value c.self.invariant.near c.requires.near))

pub returns-clause-state : goal.returns-clause-state
unfolding after_offer
returns-clause-state c =
    let s : PoolState = record {
      members = c.self.inside.ranking.members;
      scale = c.self.inside.scale;
      best = c.self.inside.best;
      capacity = c.self.inside.capacity;
      rule = c.self.inside.rule;
      gaps = c.self.inside.gaps;
    } in
    let best : ℤ = best_with c.self.inside.best c.args.offered.value in
    let best_same : to_z w128 (of_z w128 c.lesser-best.result) ≡ best = same_number c.lesser-best.result (search rules) ∙ c.lesser-best.ensures in
    let cut_same : to_z w128 (of_z w128 c.cut-limit.result) ≡ cut_at s best = same_number c.cut-limit.result (search rules) ∙ c.cut-limit.ensures ∙ ap (cut_at s) best_same in
    offered_is s _ _ best _ _ c.args.offered cut_same c.drop_above.ensures.members c.take_in.ensures.members (ap Some best_same)
    ∙ ap (λ (p : Stock). after_offer p.state c.args.offered) c.self.view_is

pub returns-clause-room : goal.returns-clause-room
returns-clause-room c more room =
    let s : PoolState = record {
      members = c.self.inside.ranking.members;
      scale = c.self.inside.scale;
      best = c.self.inside.best;
      capacity = c.self.inside.capacity;
      rule = c.self.inside.rule;
      gaps = c.self.inside.gaps;
    } in
    let best : ℤ = best_with c.self.inside.best c.args.offered.value in
    let best_same : to_z w128 (of_z w128 c.lesser-best.result) ≡ best = same_number c.lesser-best.result (search rules) ∙ c.lesser-best.ensures in
    let cut_same : to_z w128 (of_z w128 c.cut-limit.result) ≡ cut_at s best = same_number c.cut-limit.result (search rules) ∙ c.cut-limit.ensures ∙ ap (cut_at s) best_same in
    let is = offered_is s _ _ best _ _ c.args.offered cut_same c.drop_above.ensures.members c.take_in.ensures.members (ap Some best_same) in
    let long = ap (λ (t : PoolState). length t.members) is in
    let same = c.drop_above.ensures.storage in
    let taken = c.take_in.ensures.storage in
    let had : HasRoomFor (record { state = s; storage = c.self.inside.ranking.storage }) (more + 1) = subst (λ (p : Stock). HasRoomFor p (more + 1)) (sym c.self.view_is) room in
    let kept = room_kept s best c.args.offered c.self.inside.ranking.storage more c.self.invariant had in
    omega arith
