use Rattle.std.proofs.Common.{rules, arith, ◌≡◌, ◌+ℤ◌, to_z, of_z, FitsSigned, ◌∙◌, ap}
use Rattle.std.specs.Int.{w128}
use Rattle.std.proofs.lemmas.List.{drop_all}
use Rattle.std.proofs.lemmas.Int.{ints, to_z-of_z}
use Rattle.sp_model.specs.Sums.{sum_at}
use Rattle.sp_model.proofs.SumLemmas.{sum_turn, term_small, fits_from_small}
use Rattle.sp_model.proofs.sums.sum_from.Goals as goal

pub loop-term-init : goal.loop-term-init
loop-term-init c =
    let r : to_z w128 (of_z w128 c.args.start.now) ≡ c.args.start.now = to_z-of_z w128 _ (fits_from_small c.args.start.now (omega (arith, c.requires.small))) in
    record { whole = ap (λ v. v +ℤ sum_at c.args.terms.now c.args.x.now) r; small = rw r c.requires.small }

pub overflow_add-sum : goal.overflow_add-sum
overflow_add-sum c =
    let f : FitsSigned w128 c.value_at-sum.result = search rules in
    let step = sum_turn c.args.terms.now c.loop-term.term-index c.term-item.result c.args.x.now (to_z w128 c.loop-term.sum-bits) _ _ c.loop-term-test.true c.term-item.is (to_z-of_z w128 _ f ∙ c.value_at-sum.ensures) c.loop-term.invariant.whole c.loop-term.invariant.small in
    step.fits

pub value_at-sum-requires-clause-small : goal.value_at-sum-requires-clause-small
value_at-sum-requires-clause-small c =
    term_small c.args.terms.now c.loop-term.term-index c.term-item.result c.args.x.now (to_z w128 c.loop-term.sum-bits) c.loop-term-test.true c.term-item.is c.loop-term.invariant.small

pub loop-term-preserved : goal.loop-term-preserved
loop-term-preserved c =
    let f : FitsSigned w128 c.value_at-sum.result = search rules in
    let step = sum_turn c.args.terms.now c.loop-term.term-index c.term-item.result c.args.x.now (to_z w128 c.loop-term.sum-bits) _ _ c.loop-term-test.true c.term-item.is (to_z-of_z w128 _ f ∙ c.value_at-sum.ensures) c.loop-term.invariant.whole c.loop-term.invariant.small in
    record { whole = step.same; small = step.small }

pub returns : goal.returns
returns c =
    let d = drop_all c.loop-term.term-index c.args.terms.now c.loop-term-test.false in
    let w = rw d at c.loop-term.invariant.whole in
    let k = rw d at c.loop-term.invariant.small in
    record { exact = omega (arith, ints, w); small = omega (arith, k) }
