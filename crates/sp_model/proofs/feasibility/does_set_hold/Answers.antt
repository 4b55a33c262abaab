use Rattle.std.proofs.Common.{map, arith}
use Rattle.sp_model.specs.Boxes.{coordinate}
use Rattle.sp_model.proofs.SetLemmas.{set_start, set_turn, set_done, count_few}
use Rattle.sp_model.proofs.feasibility.does_set_hold.Goals as goal

pub loop-var-init : goal.loop-var-init
loop-var-init c = record { few = omega arith; turns = set_start (map (coordinate c.args.x.now) c.args.set.now.vars) }

pub loop-var-preserved : goal.loop-var-preserved
loop-var-preserved c =
    let e = c.as_slice-var-items.ensures in
    record {
      few = count_few c.loop-var.count c.loop-var.var-index c.from-count.result _ c.from-count.ensures c.loop-var.invariant.few;
      turns = set_turn (map (coordinate c.args.x.now) c.args.set.now.vars) c.args.x.now c.args.set.now.vars c.loop-var.var-index c.var-item.result c.loop-var.count c.from-count.result c.loop-var.last c.loop-var.touching c.is_nonzero_at-nonzero.result (rw e at c.loop-var-test.true) (rw e at c.var-item.is) c.is_nonzero_at-nonzero.ensures c.from-count.ensures c.loop-var.invariant.turns;
    }

pub returns-in-One : goal.returns-in-One
returns-in-One c =
    let e = c.as_slice-var-items.ensures in
    let t = set_done (map (coordinate c.args.x.now) c.args.set.now.vars) c.args.x.now c.args.set.now.vars c.loop-var.var-index c.loop-var.count c.loop-var.last c.loop-var.touching (rw e at c.loop-var-test.false) c.loop-var.invariant.turns in
    rw (c.in-One.is, t.0)

pub returns-in-Two : goal.returns-in-Two
returns-in-Two c =
    let e = c.as_slice-var-items.ensures in
    let t = set_done (map (coordinate c.args.x.now) c.args.set.now.vars) c.args.x.now c.args.set.now.vars c.loop-var.var-index c.loop-var.count c.loop-var.last c.loop-var.touching (rw e at c.loop-var-test.false) c.loop-var.invariant.turns in
    rw (c.in-Two.is, t.0, t.1)
