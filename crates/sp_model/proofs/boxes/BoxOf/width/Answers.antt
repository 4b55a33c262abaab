use Rattle.std.proofs.Common.{ap, arith}
use Rattle.sp_model.specs.Boxes.{width_of}
use Rattle.sp_model.proofs.RangeLemmas.{place_in_lower, place_in_upper, range_is}
use Rattle.sp_model.proofs.boxes.BoxOf.width.Goals as goal

pub bounds-as_slice-place : goal.bounds-as_slice-place
bounds-as_slice-place c =
    let known = place_in_lower c.self.inside.lower c.self.inside.upper c.args.self.now c.args.var c.self.view_is c.self.invariant c.requires in
    grind (arith, known)

pub bounds-as_slice-place-2 : goal.bounds-as_slice-place-2
bounds-as_slice-place-2 c =
    let known = place_in_upper c.self.inside.lower c.self.inside.upper c.args.self.now c.args.var c.self.view_is c.self.invariant c.requires in
    grind (arith, known)

pub returns-clause-value : goal.returns-clause-value
returns-clause-value c =
    let range = range_is c.self.inside.lower c.self.inside.upper c.args.self.now c.args.var c.self.view_is c.self.invariant c.requires in
    rw (c.width_between.ensures.value, c.as_slice.ensures, c.as_slice-2.ensures, c.index-place.ensures) (ap width_of range)
