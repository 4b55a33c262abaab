use Rattle.std.proofs.Common.{◌+◌, drop}
use Rattle.std.proofs.lemmas.List.{drop_all}
use Rattle.sp_bound.specs.Inner.{minus}
use Rattle.sp_bound.proofs.ChangeLemmas.{minus_step, changing_start, changing_turn, changing_stop}
use Rattle.sp_bound.proofs.TurnLemmas.{next_item}
use Rattle.sp_bound.proofs.scratch.take_terms.Goals as goal

pub loop-term-init : goal.loop-term-init
loop-term-init c = changing_start minus c.args.factor.now c.args.terms.now c.args.costs.now.items c.requires.known c.requires.rising c.requires.held

pub loop-term-preserved : goal.loop-term-preserved
loop-term-preserved c =
    let d = next_item c.args.terms.now c.loop-term.term-index c.term-item.result c.loop-term-test.true c.term-item.is in
    changing_turn minus minus_step c.args.factor.now c.args.terms.now c.term-item.result (drop (c.loop-term.term-index + 1) c.args.terms.now) c.args.costs.now.items c.loop-term.costs.items c.take_term.new.costs.items c.take_term.ensures (rw d at c.loop-term.invariant)

pub returns : goal.returns
returns c =
    let d = drop_all c.loop-term.term-index c.args.terms.now c.loop-term-test.false in
    changing_stop minus minus_step c.args.factor.now c.args.terms.now c.args.costs.now.items c.loop-term.costs.items (rw d at c.loop-term.invariant)
