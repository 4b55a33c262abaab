use Rattle.std.proofs.Common.{arith}
use Rattle.sp_model.proofs.RangeLemmas.{place_in_upper, below_is_ranges}
use Rattle.sp_model.proofs.boxes.BoxOf.up_to.Goals as goal

pub copy_with-requires : goal.copy_with-requires
copy_with-requires c =
    let known = place_in_upper c.self.inside.lower c.self.inside.upper c.args.self.now c.args.var c.self.view_is c.self.invariant c.requires in
    grind (arith, known)

pub returns : goal.returns
returns c =
    let lower = c.in_ok-lower.ensures in
    let upper = c.in_ok-upper.ensures in
    let part = below_is_ranges c.self.inside.lower c.self.inside.upper c.args.self.now c.args.var c.args.at.now c.self.view_is in
    cc
