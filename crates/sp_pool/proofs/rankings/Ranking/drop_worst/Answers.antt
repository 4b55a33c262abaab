-- The key that is last in the list by value is that of the member of greatest value, the last one on a tie.
use Rattle.std.proofs.Common.{◌∙◌, ap}
use Rattle.sp_pool.specs.InnerRanks.{Roll}
use Rattle.sp_pool.specs.Pools.{without_worst}
use Rattle.sp_pool.proofs.RankLemmas.{ranked_pop, members_pop, no_members, emptied}
use Rattle.sp_pool.proofs.rankings.Ranking.drop_worst.Goals as goal

pub invariant_of-self : goal.invariant_of-self
invariant_of-self c = record { ranked = ranked_pop c.self.inside.line c.take_out.new.line _ _ c.in-Some.key c.self.invariant.ranked c.in-Some.ensures.items c.take_out.ensures.items; tally = c.take_out.ensures.tally }

pub returns-in-Some-clause-members : goal.returns-in-Some-clause-members
returns-in-Some-clause-members c =
    members_pop c.self.inside.line c.take_out.new.line _ _ c.in-Some.key c.self.invariant.ranked c.in-Some.ensures.items c.take_out.ensures.items
    ∙ ap (λ (r : Roll). without_worst r.members) c.self.view_is

pub returns-in_default-clause-members : goal.returns-in_default-clause-members
returns-in_default-clause-members c =
    let none = emptied c.self.inside.by_value.items c.pop.new.self.items _ c.in_default.ensures.items c.in_default.ensures.rest c.in_default.ensures.cases.0 in
    no_members c.self.inside.line c.self.inside.by_value.items c.self.invariant.ranked none ∙ ap (λ (r : Roll). without_worst r.members) c.self.view_is
