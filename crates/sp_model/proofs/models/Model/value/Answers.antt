use Rattle.sp_model.specs.Boxes.{IsWithin}
use Rattle.sp_model.specs.Models.{root_of}
use Rattle.sp_model.proofs.ModelLemmas.{cost_known, cost_small}
use Rattle.sp_model.proofs.models.Model.value.Goals as goal

pub sum_from-requires-clause-known : goal.sum_from-requires-clause-known
sum_from-requires-clause-known c =
    let m = c.self.inside.parts in
    let within : IsWithin (root_of m) c.args.x.now = rw c.self.view_is c.requires in
    rw (c.as_slice.ensures, c.as_slice-2.ensures) (cost_known m c.args.x.now c.self.invariant.0 within)

pub sum_from-requires-clause-small : goal.sum_from-requires-clause-small
sum_from-requires-clause-small c =
    let m = c.self.inside.parts in
    let within : IsWithin (root_of m) c.args.x.now = rw c.self.view_is c.requires in
    rw (c.as_slice.ensures, c.as_slice-2.ensures) (cost_small m c.args.x.now c.self.invariant.0 within)
