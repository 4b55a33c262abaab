use Rattle.std.proofs.Common.{FitsSigned, to_z-of_z, arith, rules}
use Rattle.std.specs.Int.{w128}
use Rattle.sp_model.proofs.CutLemmas.{power_bound, cut_is}
use Rattle.sp_model.proofs.gaps.cut.Goals as goal

pub pow-unit-requires : goal.pow-unit-requires
pow-unit-requires c = let h = power_bound c.args.scale 30 c.requires.scale in rw c.from.ensures (omega arith)

pub part_of-abs-requires-clause-base : goal.part_of-abs-requires-clause-base
part_of-abs-requires-clause-base c = let h = power_bound c.args.scale 30 c.requires.scale in rw (c.pow-unit.ensures, c.from.ensures) (omega arith)

pub returns : goal.returns
returns c =
    let best-fits : FitsSigned w128 c.args.best = search rules in
    let abs-fits : FitsSigned w128 c.part_of-abs.result = search rules in
    let rel-fits : FitsSigned w128 c.part_of-rel.result = search rules in
    let least-fits : FitsSigned w128 c.min.result = search rules in
    let best = to_z-of_z best-fits in
    let abs = to_z-of_z abs-fits in
    let rel = to_z-of_z rel-fits in
    let least = to_z-of_z least-fits in
    let whole = cut_is c.args.best c.args.gaps.now c.args.scale in
    cc
