use Rattle.std.proofs.Common.{◌<◌, length, refl, arith}
use Rattle.sp_sums.proofs.KeptLemmas.{tally_long}
use Rattle.sp_sums.proofs.UpperLemmas.{put_upper}
use Rattle.sp_sums.proofs.kept.Sums.set_upper.Goals as goal

pub put-requires : goal.put-requires
put-requires c =
    let known : c.args.row < length c.self.inside.rows.items = rw (← c.self.view_is) at c.requires in
    let long = tally_long c.self.inside.bounds c.self.inside.rows.items c.self.inside.tally.spans c.self.inside.tally.broken c.self.invariant.tally in
    rw c.index-at.ensures (omega (arith, known, long))

pub invariant_of-self : goal.invariant_of-self
invariant_of-self c =
    let known : c.args.row < length c.self.inside.rows.items = rw (← c.self.view_is) at c.requires in
    let at_known : c.index-at.result < length c.self.inside.rows.items = rw c.index-at.ensures known in
    let bit = rw c.as_slice.ensures at c.is_broken-broken.ensures in
    put_upper c.self.inside.root c.self.inside.bounds c.self.inside.rows.items c.self.inside.columns c.self.inside.tally.spans c.self.inside.tally.broken c.put.new.self c.index-at.result c.index_mut-changed.result.now
    record { terms = c.index_mut-changed.result.now.terms; lo = c.index_mut-changed.result.now.lo; hi = c.args.upper.now }
    c.index.result.now c.is_broken-broken.result c.self.invariant at_known c.index_mut-changed.ensures.value refl c.index.ensures bit c.put.ensures
