use Rattle.std.proofs.Common.{◌≡◌, set, FitsSigned, w64, rules, ap₂, ◌∙◌, arith}
use Rattle.std.proofs.lemmas.Int.{to_z-of_z}
use Rattle.sp_model.specs.Boxes.{ranges}
use Rattle.sp_model.proofs.RangeLemmas.{place_in_lower, place_in_upper, set_is_ranges}
use Rattle.sp_model.proofs.boxes.BoxOf.set.Goals as goal

pub set-requires : goal.set-requires
set-requires c =
    let known = place_in_lower c.self.inside.lower c.self.inside.upper c.args.self.now c.args.var c.self.view_is c.self.invariant c.requires in
    grind (arith, known)

pub set-requires-2 : goal.set-requires-2
set-requires-2 c =
    let known = place_in_upper c.self.inside.lower c.self.inside.upper c.args.self.now c.args.var c.self.view_is c.self.invariant c.requires in
    grind (arith, known)

pub returns : goal.returns
returns c =
    let f : FitsSigned w64 c.args.range.now.0 = search rules in
    let g : FitsSigned w64 c.args.range.now.1 = search rules in
    let lower : c.set.new.self ≡ set c.self.inside.lower c.args.var c.args.range.now.0 = rw (c.index-place.ensures, to_z-of_z w64 _ f) at c.set.ensures in
    let upper : c.set-2.new.self ≡ set c.self.inside.upper c.args.var c.args.range.now.1 = rw (c.index-place.ensures, to_z-of_z w64 _ g) at c.set-2.ensures in
    ap₂ ranges lower upper ∙ set_is_ranges c.self.inside.lower c.self.inside.upper c.args.self.now c.args.var c.args.range.now.0 c.args.range.now.1 c.self.view_is
