use Rattle.std.proofs.Common.{rules, FitsSigned, to_z-of_z}
use Rattle.std.specs.Int.{w128}
use Rattle.sp_populate.proofs.TestLemmas.{not-less, tested}
use Rattle.sp_populate.proofs.listing.is_listed.Goals as goal

pub returns : goal.returns
returns c =
    let f : FitsSigned w128 c.args.cut.now = search rules in
    let g : FitsSigned w128 c.args.found.now.value = search rules in
    let late = rw (to_z-of_z f, to_z-of_z g) at c.if-found-cut.false in
    tested c.args.cut.now c.args.filters.now c.args.found.now c.passes.result (not-less c.args.cut.now c.args.found.now.value late) c.passes.ensures
