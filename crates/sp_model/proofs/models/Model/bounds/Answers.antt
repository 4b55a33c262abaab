use Rattle.std.proofs.Common.{◌<◌, length, ap, arith}
use Rattle.sp_model.proofs.RoundLemmas.{length_root}
use Rattle.sp_model.proofs.models.Model.bounds.Goals as goal

pub range-requires : goal.range-requires
range-requires c =
    let m = c.self.inside.parts in
    let known : c.args.var < length m.lower = rw c.self.view_is c.requires in
    omega (arith, ap length c.self.invariant.1, length_root m c.self.invariant.0.box.bounds.variables.paired)
