-- The first member stands before all of its value.
use Rattle.std.proofs.Common.{◌∙◌, ap, length, arith, drop}
use Rattle.std.specs.List.{prefix_len}
use Rattle.sp_pool.specs.InnerRanks.{Roll, at_keys, is_lesser}
use Rattle.sp_pool.proofs.RankLemmas.{ranked_lesser, first_is, ranked_drop, drop_within}
use Rattle.sp_pool.proofs.rankings.Ranking.drop_first.Goals as goal

pub count_lesser-place-requires : goal.count_lesser-place-requires
count_lesser-place-requires c = ranked_lesser c.self.inside.line c.self.inside.by_value.items _ c.in-Some-get.member.now.value c.self.invariant.ranked c.deref.ensures.value

pub remove-requires : goal.remove-requires
remove-requires c =
    let f = first_is c.self.inside.line c.in-Some.key c.in-Some-get.member.now c.in-Some.ensures c.in-Some-get.ensures in
    let within = drop_within c.self.inside.line c.self.inside.by_value.items c.count_lesser-place.result c.in-Some.key c.in-Some-get.member.now f.0 f.1 c.self.invariant.ranked (c.count_lesser-place.ensures ∙ ap (prefix_len (at_keys (is_lesser c.in-Some-get.member.now.value) c.self.inside.line.items)) c.deref.ensures.value) in
    let shown = ap length c.deref.ensures.value in
    let long = c.deref.ensures.len in
    omega arith

pub invariant_of-self : goal.invariant_of-self
invariant_of-self c =
    let f = first_is c.self.inside.line c.in-Some.key c.in-Some-get.member.now c.in-Some.ensures c.in-Some-get.ensures in
    record {
      ranked = (ranked_drop c.self.inside.line c.take_out.new.line c.self.inside.by_value.items c.remove.new.self.items c.count_lesser-place.result c.in-Some.key c.in-Some-get.member.now f.0 f.1 c.self.invariant.ranked (c.count_lesser-place.ensures ∙ ap (prefix_len (at_keys (is_lesser c.in-Some-get.member.now.value) c.self.inside.line.items)) c.deref.ensures.value) c.remove.ensures.items c.take_out.ensures.items).0;
      tally = c.take_out.ensures.tally;
    }

pub returns-in-Some-get-clause-members : goal.returns-in-Some-get-clause-members
returns-in-Some-get-clause-members c =
    let f = first_is c.self.inside.line c.in-Some.key c.in-Some-get.member.now c.in-Some.ensures c.in-Some-get.ensures in
    (ranked_drop c.self.inside.line c.take_out.new.line c.self.inside.by_value.items c.remove.new.self.items c.count_lesser-place.result c.in-Some.key c.in-Some-get.member.now f.0 f.1 c.self.invariant.ranked (c.count_lesser-place.ensures ∙ ap (prefix_len (at_keys (is_lesser c.in-Some-get.member.now.value) c.self.inside.line.items)) c.deref.ensures.value) c.remove.ensures.items c.take_out.ensures.items).1
    ∙ ap (λ (r : Roll). drop 1 r.members) c.self.view_is
