-- There are as many keys as members, and as many serials.
use Rattle.std.proofs.Common.{arith, ap, length}
use Rattle.std.proofs.lemmas.List.{length-map}
use Rattle.sp_pool.specs.InnerLines.{Keyed, members_in}
use Rattle.sp_pool.proofs.RankLemmas.{as_many}
use Rattle.sp_pool.proofs.SerialLemmas.{tally_long}
use Rattle.sp_pool.proofs.rankings.Ranking.reserve.Goals as goal

pub prove-unreachable-requires : goal.prove-unreachable-requires
prove-unreachable-requires c =
    let many = as_many c.self.inside.line c.self.inside.by_value.items c.self.invariant.ranked in
    let long = length-map c.self.inside.line.items (λ (p : Keyed). p.1) in
    let shown = ap length c.as_slice.ensures.value in
    c.if-prove.true (omega arith)

pub make_room-requires : goal.make_room-requires
make_room-requires c =
    let long = tally_long c.self.inside.serials.items (members_in c.self.inside.line.items) c.self.invariant.tally in
    let same = length-map c.self.inside.line.items (λ (p : Keyed). p.1) in
    let held = c.len-members.ensures in
    omega arith
