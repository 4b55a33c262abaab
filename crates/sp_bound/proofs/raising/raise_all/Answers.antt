use Rattle.std.proofs.Common.{◌+◌, arith, length, refl}
use Rattle.sp_bound.proofs.RaiseLemmas.{raising_start, raising_stop, raising_turn}
use Rattle.sp_bound.proofs.raising.raise_all.Goals as goal

pub loop-at-init : goal.loop-at-init
loop-at-init c = raising_start c.args.model.now c.args.threshold.now c.args.lists.now c.args.owners.now c.args.sums.now c.requires.owned

pub loop-at-preserved : goal.loop-at-preserved
loop-at-preserved c =
    raising_turn c.args.model.now c.args.threshold.now c.args.lists.now c.args.owners.now c.loop-at.at (c.loop-at.at + 1) c.args.sums.now c.loop-at.sums c.raise_row.new.sums refl (omega (arith, c.loop-at-test.true, c.loop-at.invariant.owned.paired)) c.loop-at.invariant c.raise_row.ensures

pub returns : goal.returns
returns c =
    raising_stop c.args.model.now c.args.threshold.now c.args.lists.now c.args.owners.now c.loop-at.at (length c.args.owners.now) c.args.sums.now c.loop-at.sums c.loop-at-test.false c.loop-at.invariant
