use Rattle.std.proofs.Common.{◌≡◌, ℕ, ◌-◌, ◌^◌, List, Option, MatchOption, ℤ, arith, of_z, subst, to_z}
use Rattle.std.specs.Int.{w128}
use Rattle.std.proofs.lemmas.Int.{fits_signed_from_abs, to_z-of_z}
use Rattle.std.specs.Bool.{⊤}
use Rattle.std.specs.Int.RustNames.{unsigned_abs}
use Rattle.sp_model.specs.Sums.{Term}
use Rattle.sp_bound.specs.Keeping.{TellsTerms, keeping, keeps}
use Rattle.sp_bound.proofs.keeping.add_row.Goals as goal

pub returns-in_ok-push_row-in-Some : goal.returns-in_ok-push_row-in-Some
returns-in_ok-push_row-in-Some c =
    let found = subst (λ (o : Option (List Term)). MatchOption o ⊤ (λ ts. TellsTerms c.args.root.now c.args.costs.now c.room_of.result ts)) c.in-Some.is c.in_ok-terms_of.ensures in
    let tells : TellsTerms c.args.root.now c.args.costs.now (10 ^ 36 - unsigned_abs c.args.sides.now) c.in-Some.terms = subst (λ (n : ℕ). TellsTerms c.args.root.now c.args.costs.now n c.in-Some.terms) c.room_of.ensures found in
    let same : to_z w128 (of_z w128 c.args.sides.now) ≡ c.args.sides.now = to_z-of_z w128 c.args.sides.now (fits_signed_from_abs w128 c.args.sides.now (omega (arith, c.requires.sides))) in
    keeps c.in-Some.terms tells (subst (λ (v : ℤ). c.push_row.new.draft ≡ keeping c.args.draft.now c.args.place v c.in-Some.terms) same c.in_ok-push_row-in-Some.ensures)
