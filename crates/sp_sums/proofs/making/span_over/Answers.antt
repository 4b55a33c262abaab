use Rattle.std.proofs.Common.{◌+◌, drop}
use Rattle.std.proofs.lemmas.List.{drop_all}
use Rattle.sp_sums.proofs.MoveLemmas.{next_item}
use Rattle.sp_sums.proofs.MakeLemmas.{summing_start, summing_next, summing_turn, summing_stop}
use Rattle.sp_sums.proofs.making.span_over.Goals as goal

pub loop-term-init : goal.loop-term-init
loop-term-init c = summing_start c.args.bounds.now c.args.terms.now c.requires.narrow

pub with_term-span-requires-clause-small : goal.with_term-span-requires-clause-small
with_term-span-requires-clause-small c =
    let d = next_item c.args.terms.now c.loop-term.term-index c.term-item.result c.loop-term-test.true c.term-item.is in
    (summing_next c.args.bounds.now c.args.terms.now (drop (c.loop-term.term-index + 1) c.args.terms.now) c.term-item.result c.loop-term.span (rw d at c.loop-term.invariant)).small

pub with_term-span-requires-clause-term : goal.with_term-span-requires-clause-term
with_term-span-requires-clause-term c =
    let d = next_item c.args.terms.now c.loop-term.term-index c.term-item.result c.loop-term-test.true c.term-item.is in
    let next = summing_next c.args.bounds.now c.args.terms.now (drop (c.loop-term.term-index + 1) c.args.terms.now) c.term-item.result c.loop-term.span (rw d at c.loop-term.invariant) in
    rw c.range-range.ensures (next.term)

pub loop-term-preserved : goal.loop-term-preserved
loop-term-preserved c =
    let d = next_item c.args.terms.now c.loop-term.term-index c.term-item.result c.loop-term-test.true c.term-item.is in
    let turn = summing_turn c.args.bounds.now c.args.terms.now (drop (c.loop-term.term-index + 1) c.args.terms.now) c.term-item.result c.loop-term.span (rw d at c.loop-term.invariant) in
    rw (c.with_term-span.ensures, c.range-range.ensures) turn

pub returns : goal.returns
returns c =
    let d = drop_all c.loop-term.term-index c.args.terms.now c.loop-term-test.false in
    summing_stop c.args.bounds.now c.args.terms.now c.loop-term.span (rw d at c.loop-term.invariant)
