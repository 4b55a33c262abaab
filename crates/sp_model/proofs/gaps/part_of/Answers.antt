use Rattle.std.proofs.Common.{◌≡◌, ◌*◌, ◌/◌, ◌≤◌, ◌^◌, min, pos, ◌+ℤ◌, FitsSigned, to_z, of_z, to_z-of_z, ap, subst, sym, ◌∙◌, arith, rules}
use Rattle.std.specs.Int.{w128, int_min}
use Rattle.std.proofs.lemmas.Int.{ints}
use Rattle.sp_model.specs.declared.gaps.Gap.{Gap}
use Rattle.sp_model.specs.declared.gaps.Gap.TheVariants.{Of}
use Rattle.sp_model.specs.Cuts.{ceiling, cut_by, least_of, IsGap}
use Rattle.sp_model.proofs.CutLemmas.{power_positive, power_bound, part_is}
use Rattle.sp_model.proofs.gaps.part_of.Goals as goal

pub quotient-reach-requires-clause-positive : goal.quotient-reach-requires-clause-positive
quotient-reach-requires-clause-positive c = rw (c.pow-digits.ensures, c.from.ensures) (power_positive c.in-Of.s)

pub quotient-reach-requires-clause-small : goal.quotient-reach-requires-clause-small
quotient-reach-requires-clause-small c =
    let lawful : IsGap (Of c.in-Of.p c.in-Of.s) = subst IsGap c.in-Of.is c.requires.gap in
    rw (c.pow-digits.ensures, c.from.ensures) (power_bound c.in-Of.s 12 lawful.1)

pub returns-in-Of : goal.returns-in-Of
returns-in-Of c =
    let reach : c.quotient-reach.result ≡ min (c.in-Of.p * c.args.base / 10 ^ c.in-Of.s) (2 * 10 ^ 36) = rw (← c.from.ensures, ← c.pow-digits.ensures, ← c.from-in-Of.ensures) c.quotient-reach.ensures in
    let small : c.quotient-reach.result ≤ 2 * 10 ^ 36 = omega arith in
    let sum : to_z w128 (of_z w128 (to_z w128 (of_z w128 c.args.best.now) +ℤ to_z w128 c.quotient-reach.result)) ≡ c.args.best.now +ℤ pos c.quotient-reach.result = omega (arith, ints) in
    let fits : FitsSigned w128 c.min.result = search rules in
    to_z-of_z fits ∙ c.min.ensures.value ∙ ap (λ z. int_min z ceiling) sum
    ∙ part_is c.args.best.now c.in-Of.p c.in-Of.s c.args.base c.quotient-reach.result c.requires.near reach
    ∙ ap (λ (g : Gap). least_of (cut_by c.args.best.now g c.args.base) ceiling) (sym c.in-Of.is)
