use Rattle.std.proofs.Common.{◌<◌, length, ap, arith}
use Rattle.std.proofs.lemmas.List.{take_all}
use Rattle.sp_model.specs.Sums.{Term}
use Rattle.sp_activity.proofs.UsesLemmas.{used_term, used_none}
use Rattle.sp_activity.proofs.uses.add_terms.Goals as goal

pub loop-term-init : goal.loop-term-init
loop-term-init c = used_none c.args.item c.args.lists.now.items

pub add-requires : goal.add-requires
add-requires c =
    let known = c.requires c.loop-term.term-index c.term-item.result c.loop-term-test.true in
    omega (arith, known, c.index.ensures, ap (λ (t : Term). t.0) c.term-item.is, c.loop-term.invariant.long)

pub loop-term-preserved : goal.loop-term-preserved
loop-term-preserved c =
    let known = c.requires c.loop-term.term-index c.term-item.result c.loop-term-test.true in
    let inside : c.term-item.result.0 < length c.args.lists.now.items = omega (arith, known, ap (λ (t : Term). t.0) c.term-item.is) in
    let put = rw c.index.ensures at c.in_ok-add.ensures in
    used_term c.args.item c.args.terms.now c.loop-term.term-index c.term-item.result c.args.lists.now.items c.loop-term.lists.items c.add.new.lists.items c.loop-term-test.true c.term-item.is inside c.loop-term.invariant put

pub returns : goal.returns
returns c =
    let whole = take_all c.loop-term.term-index c.args.terms.now c.loop-term-test.false in
    rw whole at c.loop-term.invariant
