use Rattle.std.proofs.Common.{rules, FitsSigned, to_z-of_z}
use Rattle.std.specs.Int.{w128}
use Rattle.sp_sums.proofs.ProductLemmas.{mul-sub, change_small}
use Rattle.sp_sums.proofs.spans.raised.Goals as goal

pub scaled-part-requires : goal.scaled-part-requires
scaled-part-requires c =
    let small = change_small c.args.coefficient.now c.args.to.now c.args.from.now c.requires.to c.requires.from in
    let change : FitsSigned w128 c.difference-change.result = search rules in
    rw (to_z-of_z change, c.difference-change.ensures) small

pub increased-requires-clause-plus : goal.increased-requires-clause-plus
increased-requires-clause-plus c =
    let small = change_small c.args.coefficient.now c.args.to.now c.args.from.now c.requires.to c.requires.from in
    let change : FitsSigned w128 c.difference-change.result = search rules in
    let part : FitsSigned w128 c.scaled-part.result = search rules in
    rw (to_z-of_z part, c.scaled-part.ensures, to_z-of_z change, c.difference-change.ensures) small

pub returns : goal.returns
returns c =
    let change : FitsSigned w128 c.difference-change.result = search rules in
    let part : FitsSigned w128 c.scaled-part.result = search rules in
    let whole : FitsSigned w128 c.increased.result = search rules in
    rw (to_z-of_z whole, c.increased.ensures, to_z-of_z part, c.scaled-part.ensures, to_z-of_z change, c.difference-change.ensures, mul-sub c.args.coefficient.now c.args.to.now c.args.from.now)
