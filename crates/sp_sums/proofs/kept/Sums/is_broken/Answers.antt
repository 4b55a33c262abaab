use Rattle.std.proofs.Common.{◌<◌, length, ◌∙◌, arith}
use Rattle.sp_sums.proofs.KeptLemmas.{tally_long, tally_at}
use Rattle.sp_sums.proofs.kept.Sums.is_broken.Goals as goal

pub get-requires : goal.get-requires
get-requires c =
    let known : c.args.row < length c.self.inside.rows.items = rw (← c.self.view_is) at c.requires in
    let long = tally_long c.self.inside.bounds c.self.inside.rows.items c.self.inside.tally.spans c.self.inside.tally.broken c.self.invariant.tally in
    rw c.index.ensures (omega (arith, known, long))

pub returns : goal.returns
returns c =
    let known : c.args.row < length c.self.inside.rows.items = rw (← c.self.view_is) at c.requires in
    let here = rw c.index.ensures at c.get.ensures in
    rw (← c.self.view_is) (here ∙ tally_at c.self.inside.bounds c.self.inside.rows.items c.self.inside.tally.spans c.self.inside.tally.broken c.args.row c.self.invariant.tally known)
