use Rattle.std.proofs.Common.{get_or, pos, FitsSigned, w64, rules, to_z-of_z, arith}
use Rattle.sp_model.proofs.RangeLemmas.{place_in_lower, place_in_upper, range_is}
use Rattle.sp_model.proofs.boxes.BoxOf.range.Goals as goal

pub bounds-as_slice-place : goal.bounds-as_slice-place
bounds-as_slice-place c =
    let known = place_in_lower c.self.inside.lower c.self.inside.upper c.args.self.now c.args.var c.self.view_is c.self.invariant c.requires in
    grind (arith, known)

pub bounds-as_slice-place-2 : goal.bounds-as_slice-place-2
bounds-as_slice-place-2 c =
    let known = place_in_upper c.self.inside.lower c.self.inside.upper c.args.self.now c.args.var c.self.view_is c.self.invariant c.requires in
    grind (arith, known)

pub returns : goal.returns
returns c =
    let low : FitsSigned w64 (get_or c.as_slice.result.now c.index-place.result (pos 0)) = search rules in
    let high : FitsSigned w64 (get_or c.as_slice-2.result.now c.index-place.result (pos 0)) = search rules in
    let least = to_z-of_z low in
    let greatest = to_z-of_z high in
    let range = range_is c.self.inside.lower c.self.inside.upper c.args.self.now c.args.var c.self.view_is c.self.invariant c.requires in
    cc
