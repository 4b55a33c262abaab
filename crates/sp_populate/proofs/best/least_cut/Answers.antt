use Rattle.std.proofs.Common.{rules, FitsSigned, to_z-of_z}
use Rattle.std.specs.Int.{w128}
use Rattle.sp_populate.proofs.CutLemmas.{above-some}
use Rattle.sp_populate.proofs.RoundLemmas.{same-cut, some-lower}
use Rattle.sp_populate.proofs.best.least_cut.Goals as goal

pub returns-in-Some-clause-above : goal.returns-in-Some-clause-above
returns-in-Some-clause-above c =
    let f : FitsSigned w128 c.in-Some.best = search rules in
    rw (to_z-of_z f) (above-some c.args.state.now.search.best c.in-Some.best c.in-Some.best c.in-Some.ensures (same-cut c.in-Some.best))

pub returns-in-Some-clause-lower : goal.returns-in-Some-clause-lower
returns-in-Some-clause-lower c =
    let f : FitsSigned w128 c.in-Some.best = search rules in
    rw (to_z-of_z f) (some-lower c.args.state.now.search.best c.in-Some.best c.args.most.now c.in-Some.ensures c.requires)
