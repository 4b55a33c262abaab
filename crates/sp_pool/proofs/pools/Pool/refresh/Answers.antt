-- Each round takes one offer.
use Rattle.std.proofs.Common.{◌≡◌, ◌+◌, ◌-◌, ◌∙◌, ap, sym, subst, arith, length, drop}
use Rattle.std.proofs.lemmas.List.{get_or_default}
use Rattle.sp_pool.specs.Pools.{HasRoomFor, after_refresh}
use Rattle.sp_pool.proofs.PoolLemmas.{refresh_more, refresh_done}
use Rattle.sp_pool.proofs.pools.Pool.refresh.Goals as goal

pub loop-offered-preserved : goal.loop-offered-preserved
loop-offered-preserved c =
    let left : length c.args.offers.now - c.loop-offered.offered-index ≡ length c.args.offers.now - (c.loop-offered.offered-index + 1) + 1 = omega arith in (
      ap (λ s. after_refresh s (drop (c.loop-offered.offered-index + 1) c.args.offers.now)) c.offer_fresh.ensures.state
          ∙ refresh_more c.loop-offered.self.state c.args.offers.now c.loop-offered.offered-index _ c.loop-offered-test.true (get_or_default c.args.offers.now c.loop-offered.offered-index _ _ c.loop-offered-test.true) ∙ c.loop-offered.invariant.0,
      c.offer_fresh.ensures.room _ (subst (λ n. HasRoomFor c.loop-offered.self n) left c.loop-offered.invariant.1),
      c.offer_fresh.ensures.storage ∙ c.loop-offered.invariant.2,
    )

pub returns-clause-state : goal.returns-clause-state
returns-clause-state c = sym (refresh_done c.loop-offered.self.state c.args.offers.now c.loop-offered.offered-index c.loop-offered-test.false) ∙ c.loop-offered.invariant.0
