-- The new member stands behind all whose value isn't greater.
use Rattle.std.proofs.Common.{◌<◌, ◌∙◌, ap, length, arith}
use Rattle.std.proofs.lemmas.Bool.{cond-true}
use Rattle.std.specs.List.{prefix_len}
use Rattle.std.specs.Vec.{vec_len, vec_capacity}
use Rattle.sp_pool.specs.InnerLines.{members_in}
use Rattle.sp_pool.specs.InnerRanks.{Roll, at_keys, is_up_to}
use Rattle.sp_pool.proofs.RankLemmas.{ranked_up_to, prefix_within, ranked_append, as_many}
use Rattle.sp_pool.proofs.SerialLemmas.{tally_long, tally_push}
use Rattle.sp_pool.proofs.rankings.Ranking.append.Goals as goal

pub count_up_to-place-requires : goal.count_up_to-place-requires
count_up_to-place-requires c = ranked_up_to c.self.inside.line c.self.inside.by_value.items _ c.args.member.now.value c.self.invariant.ranked c.deref.ensures.value

pub insert-requires : goal.insert-requires
insert-requires c =
    let within = prefix_within (at_keys (is_up_to c.args.member.now.value) c.self.inside.line.items) c.deref.result.now c.count_up_to-place.result c.count_up_to-place.ensures in
    let long = c.deref.ensures.len in
    omega arith

pub add-requires : goal.add-requires
add-requires c =
    let long = tally_long c.self.inside.serials.items (members_in c.self.inside.line.items) c.self.invariant.tally in
    let held = ap (λ (r : Roll). length r.members) c.self.view_is in
    let stored = ap (λ (r : Roll). r.storage) c.self.view_is in
    let had = c.requires in
    omega arith

pub invariant_of-self : goal.invariant_of-self
invariant_of-self c =
    let many = as_many c.self.inside.line c.self.inside.by_value.items c.self.invariant.ranked in
    let shown = ap length c.deref.ensures.value in
    let held = ap (λ (r : Roll). length r.members) c.self.view_is in
    let stored = ap (λ (r : Roll). r.storage) c.self.view_is in
    let room : vec_len c.self.inside.by_value < vec_capacity c.self.inside.by_value = let long = c.deref.ensures.len in omega arith in
    record {
      ranked = ranked_append c.self.inside.line c.push-key.new.self c.self.inside.by_value.items _ c.count_up_to-place.result c.push-key.result c.args.member.now c.self.invariant.ranked
          (c.count_up_to-place.ensures ∙ ap (prefix_len (at_keys (is_up_to c.args.member.now.value) c.self.inside.line.items)) c.deref.ensures.value)
          (c.insert.ensures.items ∙ cond-true _ _ _ (c.insert.ensures.succeeds room))
          c.push-key.ensures.items
          c.push-key.ensures.fresh;
      tally = tally_push c.self.inside.line.items c.push-key.new.self.items c.self.inside.serials.items c.add.new.self.items c.push-key.result c.args.member.now c.self.invariant.tally c.add.ensures.items c.push-key.ensures.items;
    }

pub returns-clause-storage : goal.returns-clause-storage
returns-clause-storage c =
    let many = as_many c.self.inside.line c.self.inside.by_value.items c.self.invariant.ranked in
    let shown = ap length c.deref.ensures.value in
    let held = ap (λ (r : Roll). length r.members) c.self.view_is in
    let stored = ap (λ (r : Roll). r.storage) c.self.view_is in
    let room : vec_len c.self.inside.by_value < vec_capacity c.self.inside.by_value = let long = c.deref.ensures.len in omega arith in
    let same = (c.insert.ensures.in_place room).1.0 in
    let pushed = c.push-key.ensures.capacity in
    let added = c.add.ensures.capacity in
    omega arith
