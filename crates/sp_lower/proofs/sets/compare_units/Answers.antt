use Rattle.std.proofs.Common.{◌≡◌, ◌∙◌, ap, arith, pos, int_cmp, to_z, of_z}
use Rattle.std.specs.Int.{w128}
use Rattle.std.proofs.lemmas.Int.{to_z-of_z}
use Rattle.sp_decimal.specs.DecimalFraction.{DecimalFraction}
use Rattle.sp_scaling.specs.Scaling.{units}
use Rattle.sp_lower.proofs.CompareLemmas.{cmp_units, first_far, second_far}
use Rattle.sp_lower.proofs.sets.compare_units.Goals as goal

pub returns-in-None : goal.returns-in-None
returns-in-None c =
    let far = first_far c.args.a.now c.args.b.now c.args.finer c.requires.finer c.requires.few c.requires.first c.requires.second c.in-None.ensures in
    c.sign.ensures ∙ (ap (λ z. int_cmp z (pos 0)) (ap (λ (d : DecimalFraction). d.p) c.a.view_is) ∙ far)

pub returns-in-None-scaled : goal.returns-in-None-scaled
returns-in-None-scaled c =
    let far = second_far c.args.a.now c.args.b.now c.args.finer c.requires.finer c.requires.few c.requires.first c.requires.second c.in-None-scaled.ensures in
    c.sign_against.ensures ∙ (ap (λ z. int_cmp (pos 0) z) (ap (λ (d : DecimalFraction). d.p) c.b.view_is) ∙ far)

pub returns-in-Some-scaled : goal.returns-in-Some-scaled
returns-in-Some-scaled c =
    let near = cmp_units c.args.a.now c.args.b.now c.args.finer (omega (arith, c.requires.finer)) (omega (arith, c.requires.finer)) c.requires.few in
    let first : to_z w128 (of_z w128 c.in-Some.first) ≡ units c.args.finer c.args.a.now = rw c.in-Some.ensures.1 (to_z-of_z w128 (units c.args.finer c.args.a.now) c.in-Some.ensures.0) in
    let second : to_z w128 (of_z w128 c.in-Some-scaled.second) ≡ units c.args.finer c.args.b.now = rw c.in-Some-scaled.ensures.1 (to_z-of_z w128 (units c.args.finer c.args.b.now) c.in-Some-scaled.ensures.0) in
    c.order.ensures
    ∙ (ap (λ z. int_cmp z (to_z w128 (of_z w128 c.in-Some-scaled.second))) first ∙ (ap (λ z. int_cmp (units c.args.finer c.args.a.now) z) second ∙ near))
