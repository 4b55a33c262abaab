use Rattle.std.proofs.Common.{◌≡◌, rules, FitsSigned, w64, to_z, of_z, to_z-of_z, ℤ, pos, ◌+ℤ◌, ◌-ℤ◌, ◌<ℤ◌, set, ap, ◌∙◌, subst, arith}
use Rattle.std.proofs.lemmas.Int.{ints}
use Rattle.sp_model.specs.Boxes.{Bounds, range_at}
use Rattle.sp_model.specs.Models.{root_of}
use Rattle.sp_activity.specs.Kept.{bounds_of}
use Rattle.sp_activity.specs.Order.{IsOpen}
use Rattle.sp_activity.proofs.BoxLemmas.{kept_inside}
use Rattle.sp_activity.proofs.SideLemmas.{loose_at, tight_left, tight_right}
use Rattle.sp_activity.proofs.kept.Kept.tight_side.Goals as goal

pub returns-then-is_closed_part-clause-some : goal.returns-then-is_closed_part-clause-some
returns-then-is_closed_part-clause-some c =
    let here : c.range-least.result ≡ range_at (bounds_of c.args.self.now) c.args.var = c.range-least.ensures ∙ ap (λ (b : Bounds). range_at b c.args.var) c.bounds.ensures in
    let fits : FitsSigned w64 c.range-least.result.0 = search rules in
    let fits_too : FitsSigned w64 c.range-least.result.1 = search rules in
    let low : to_z w64 (of_z w64 c.range-least.result.0) ≡ c.range-least.result.0 = to_z-of_z fits in
    let high : to_z w64 (of_z w64 c.range-least.result.1) ≡ c.range-least.result.1 = to_z-of_z fits_too in
    let first : to_z w64 (of_z w64 c.range-least.result.0) ≡ (range_at (bounds_of c.args.self.now) c.args.var).0 = low ∙ ap (λ (r : ℤ × ℤ). r.0) here in
    let last : to_z w64 (of_z w64 c.range-least.result.1) ≡ (range_at (bounds_of c.args.self.now) c.args.var).1 = high ∙ ap (λ (r : ℤ × ℤ). r.1) here in
    let less = c.if-greatest-least.false in
    let room : (range_at (bounds_of c.args.self.now) c.args.var).0 <ℤ (range_at (bounds_of c.args.self.now) c.args.var).1 = omega (arith, ints, first, last, less) in
    tight_left c.args.model.now (bounds_of c.args.self.now) c.args.var (to_z w64 (of_z w64 c.range-least.result.0)) c.requires.known first room c.if-is_closed_part.ensures.exact

pub returns-then-is_closed_part-2-clause-some : goal.returns-then-is_closed_part-2-clause-some
returns-then-is_closed_part-2-clause-some c =
    let here : c.range-least.result ≡ range_at (bounds_of c.args.self.now) c.args.var = c.range-least.ensures ∙ ap (λ (b : Bounds). range_at b c.args.var) c.bounds.ensures in
    let fits : FitsSigned w64 c.range-least.result.0 = search rules in
    let fits_too : FitsSigned w64 c.range-least.result.1 = search rules in
    let low : to_z w64 (of_z w64 c.range-least.result.0) ≡ c.range-least.result.0 = to_z-of_z fits in
    let high : to_z w64 (of_z w64 c.range-least.result.1) ≡ c.range-least.result.1 = to_z-of_z fits_too in
    let first : to_z w64 (of_z w64 c.range-least.result.0) ≡ (range_at (bounds_of c.args.self.now) c.args.var).0 = low ∙ ap (λ (r : ℤ × ℤ). r.0) here in
    let last : to_z w64 (of_z w64 c.range-least.result.1) ≡ (range_at (bounds_of c.args.self.now) c.args.var).1 = high ∙ ap (λ (r : ℤ × ℤ). r.1) here in
    let less = c.if-greatest-least.false in
    let room : (range_at (bounds_of c.args.self.now) c.args.var).0 <ℤ (range_at (bounds_of c.args.self.now) c.args.var).1 = omega (arith, ints, first, last, less) in
    let part = rw c.is_closed_part.ensures.same at c.if-is_closed_part-2.ensures.exact in
    let fits_less : FitsSigned w64 (to_z w64 (of_z w64 c.range-least.result.1) -ℤ pos 1) = search rules in
    let before : to_z w64 (of_z w64 (to_z w64 (of_z w64 c.range-least.result.1) -ℤ pos 1)) ≡ to_z w64 (of_z w64 c.range-least.result.1) -ℤ pos 1 = to_z-of_z fits_less in
    let step : to_z w64 (of_z w64 (to_z w64 (of_z w64 c.range-least.result.1) -ℤ pos 1)) +ℤ pos 1 ≡ to_z w64 (of_z w64 c.range-least.result.1) = omega (arith, ints, before) in
    tight_right c.args.model.now (bounds_of c.args.self.now) c.args.var (to_z w64 (of_z w64 (to_z w64 (of_z w64 c.range-least.result.1) -ℤ pos 1))) (to_z w64 (of_z w64 c.range-least.result.1)) c.requires.known last step room part

pub returns-clause-none : goal.returns-clause-none
returns-clause-none c =
    let here : c.range-least.result ≡ range_at (bounds_of c.args.self.now) c.args.var = c.range-least.ensures ∙ ap (λ (b : Bounds). range_at b c.args.var) c.bounds.ensures in
    let fits : FitsSigned w64 c.range-least.result.0 = search rules in
    let fits_too : FitsSigned w64 c.range-least.result.1 = search rules in
    let first : to_z w64 (of_z w64 c.range-least.result.0) ≡ (range_at (bounds_of c.args.self.now) c.args.var).0 = to_z-of_z fits ∙ ap (λ (r : ℤ × ℤ). r.0) here in
    let last : to_z w64 (of_z w64 c.range-least.result.1) ≡ (range_at (bounds_of c.args.self.now) c.args.var).1 = to_z-of_z fits_too ∙ ap (λ (r : ℤ × ℤ). r.1) here in
    let part = rw c.is_closed_part.ensures.same at c.if-is_closed_part-2.ensures.exact in
    let low : IsOpen c.args.model.now (set (bounds_of c.args.self.now) c.args.var ((range_at (bounds_of c.args.self.now) c.args.var).0, (range_at (bounds_of c.args.self.now) c.args.var).0)) = subst (λ (z : ℤ). IsOpen c.args.model.now (set (bounds_of c.args.self.now) c.args.var (z, z))) first c.if-is_closed_part.ensures.exact in
    let high : IsOpen c.args.model.now (set (bounds_of c.args.self.now) c.args.var ((range_at (bounds_of c.args.self.now) c.args.var).1, (range_at (bounds_of c.args.self.now) c.args.var).1)) = subst (λ (z : ℤ). IsOpen c.args.model.now (set (bounds_of c.args.self.now) c.args.var (z, z))) last part in
    loose_at c.args.model.now (root_of c.args.model.now) (bounds_of c.args.self.now) c.args.var c.reasons_stay.ensures c.requires.known (kept_inside c.args.model.now c.args.self.now c.requires.kept c.root-root.ensures.inside) low high
