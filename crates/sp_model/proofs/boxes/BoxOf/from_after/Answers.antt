use Rattle.std.proofs.Common.{◌≡◌, get_or, ℤ, pos, ◌+ℤ◌, FitsSigned, w64, to_z, of_z, rules, arith, subst}
use Rattle.std.proofs.lemmas.Int.{ints}
use Rattle.sp_model.proofs.RangeLemmas.{place_in_lower, place_in_upper, next_fits, above_is_ranges}
use Rattle.sp_model.proofs.boxes.BoxOf.from_after.Goals as goal

pub bounds-as_slice-place : goal.bounds-as_slice-place
bounds-as_slice-place c =
    let known = place_in_upper c.self.inside.lower c.self.inside.upper c.args.self.now c.args.var c.self.view_is c.self.invariant c.requires.known in
    grind (arith, known)

pub overflow_add-next : goal.overflow_add-next
overflow_add-next c =
    let high : FitsSigned w64 (get_or c.as_slice.result.now c.index-place.result (pos 0)) = search rules in
    let same : get_or c.as_slice.result.now c.index-place.result (pos 0) ≡ get_or c.self.inside.upper c.args.var (pos 0) = cc in
    let top : FitsSigned w64 (get_or c.self.inside.upper c.args.var (pos 0)) = subst (λ (z : ℤ). FitsSigned w64 z) same high in
    let at : FitsSigned w64 c.args.at.now = search rules in
    let next = next_fits c.self.inside.lower c.self.inside.upper c.args.self.now c.args.var c.args.at.now c.self.view_is c.self.invariant c.requires.known c.requires.room at top in
    omega (arith, ints)

pub copy_with-requires : goal.copy_with-requires
copy_with-requires c =
    let known = place_in_lower c.self.inside.lower c.self.inside.upper c.args.self.now c.args.var c.self.view_is c.self.invariant c.requires.known in
    grind (arith, known)

pub returns : goal.returns
returns c =
    let lower = c.in_ok-lower.ensures in
    let upper = c.in_ok-upper.ensures in
    let part = above_is_ranges c.self.inside.lower c.self.inside.upper c.args.self.now c.args.var c.args.at.now c.self.view_is in
    let high : FitsSigned w64 (get_or c.as_slice.result.now c.index-place.result (pos 0)) = search rules in
    let same : get_or c.as_slice.result.now c.index-place.result (pos 0) ≡ get_or c.self.inside.upper c.args.var (pos 0) = cc in
    let top : FitsSigned w64 (get_or c.self.inside.upper c.args.var (pos 0)) = subst (λ (z : ℤ). FitsSigned w64 z) same high in
    let at : FitsSigned w64 c.args.at.now = search rules in
    let fits = next_fits c.self.inside.lower c.self.inside.upper c.args.self.now c.args.var c.args.at.now c.self.view_is c.self.invariant c.requires.known c.requires.room at top in
    let next : to_z w64 (of_z w64 (to_z w64 (of_z w64 c.args.at.now) +ℤ pos 1)) ≡ c.args.at.now +ℤ pos 1 = omega (arith, ints) in
    cc
