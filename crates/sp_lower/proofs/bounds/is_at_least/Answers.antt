use Rattle.std.proofs.Common.{rules, FitsSigned}
use Rattle.std.specs.Int.{w128}
use Rattle.std.proofs.lemmas.Int.{to_z-of_z}
use Rattle.sp_lower.proofs.BoundLemmas.{floor_test}
use Rattle.sp_lower.proofs.bounds.is_at_least.Goals as goal

pub returns : goal.returns
returns c =
    let f : FitsSigned w128 c.floor.result = search rules in
    let g : FitsSigned w128 c.args.limit.now = search rules in
    rw (to_z-of_z w128 c.floor.result f, to_z-of_z w128 c.args.limit.now g) (floor_test c.args.d.now c.floor.result c.args.limit.now c.floor.ensures.greatest)
