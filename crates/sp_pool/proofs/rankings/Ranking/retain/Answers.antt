use Rattle.std.proofs.Common.{◌∙◌, ap, filter}
use Rattle.sp_pool.specs.Pools.{is_listed}
use Rattle.sp_pool.specs.InnerLines.{members_in}
use Rattle.sp_pool.specs.InnerRanks.{Roll, swept}
use Rattle.sp_pool.proofs.SerialLemmas.{tally_kept}
use Rattle.sp_pool.proofs.SweepLemmas.{ranked_retain}
use Rattle.sp_pool.proofs.rankings.Ranking.retain.Goals as goal

pub invariant_of-self : goal.invariant_of-self
invariant_of-self c =
    let kept = ranked_retain c.self.inside.line c.keep_all_listed.new.line c.self.inside.by_value.items _ c.args.serials.now c.self.invariant.ranked (c.keep_all_listed.ensures.items ∙ ap (λ ks. swept c.args.serials.now ks c.self.inside.line.items) c.deref.ensures.value) c.keep_held.ensures.items in
    record {
      ranked = kept.0;
      tally = tally_kept c.args.serials.now c.self.inside.serials.items c.retain.new.self.items (members_in c.self.inside.line.items) (members_in c.keep_all_listed.new.line.items) c.self.invariant.tally c.retain.ensures.items kept.1;
    }

pub returns-clause-members : goal.returns-clause-members
returns-clause-members c =
    (ranked_retain c.self.inside.line c.keep_all_listed.new.line c.self.inside.by_value.items _ c.args.serials.now c.self.invariant.ranked (c.keep_all_listed.ensures.items ∙ ap (λ ks. swept c.args.serials.now ks c.self.inside.line.items) c.deref.ensures.value) c.keep_held.ensures.items).1
    ∙ ap (λ (r : Roll). filter (is_listed c.args.serials.now) r.members) c.self.view_is
