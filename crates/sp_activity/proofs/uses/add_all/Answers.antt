use Rattle.std.proofs.Common.{◌<◌, length, arith}
use Rattle.sp_activity.proofs.UsesLemmas.{used_next, used_none}
use Rattle.sp_activity.proofs.uses.add_all.Goals as goal

pub loop-var-init : goal.loop-var-init
loop-var-init c = used_none c.args.item c.args.lists.now.items

pub add-requires : goal.add-requires
add-requires c =
    let known = c.requires c.loop-var.var-index c.var-item.result c.loop-var-test.true in
    omega (arith, known, c.index.ensures, c.var-item.is, c.loop-var.invariant.long)

pub loop-var-preserved : goal.loop-var-preserved
loop-var-preserved c =
    let known = c.requires c.loop-var.var-index c.var-item.result c.loop-var-test.true in
    let inside : c.var-item.result < length c.args.lists.now.items = omega (arith, known, c.var-item.is) in
    let put = rw c.index.ensures at c.in_ok-add.ensures in
    used_next c.args.item c.args.vars.now c.loop-var.var-index c.var-item.result c.args.lists.now.items c.loop-var.lists.items c.add.new.lists.items c.loop-var-test.true c.var-item.is inside c.loop-var.invariant put
